use Rattle.std.proofs.Common.{◌≡◌, ◌&&◌, ltb, length}
use Rattle.rules.specs.Words.{word_of}
use Rattle.matchers.specs.Places.{Rows, hits}
use Rattle.shifts.proofs.tables.set_table.Given as goal

abbrev pub invariant-loop-i : goal.invariant-loop-i
invariant-loop-i l = (length l.table ≡ 256) × Rows l.table (λ b. word_of (λ j. ltb j l.i && hits (record { bytes = l.bytes; limit = l.limit }) j b) 32)

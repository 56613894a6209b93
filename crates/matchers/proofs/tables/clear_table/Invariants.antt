use Rattle.std.proofs.Common.{◌≡◌, ◌&&◌, ltb, length}
use Rattle.matchers.specs.Places.{Rows, hits}
use Rattle.matchers.proofs.Filling.{clear_view}
use Rattle.matchers.proofs.tables.clear_table.Given as goal

abbrev pub invariant-loop-i : goal.invariant-loop-i
invariant-loop-i l = (length l.table ≡ 256) × Rows l.table (λ b. clear_view l.first (λ j. ltb j l.i && hits (record { bytes = l.bytes; limit = 0 }) j b))

use Rattle.std.proofs.Common.{◌≡◌, ℕ, ◌*◌, ◌%◌, ◌^◌, ◌<◌, cond, ◌&&◌, eqb, ltb, length, get_or}
use lib.Bits.{bit_or}
use Rattle.rules.specs.Terms.{folded}
use Rattle.shifts.proofs.tables.set_folded.Given as goal

abbrev pub invariant-loop-b : goal.invariant-loop-b
invariant-loop-b l = (length l.table ≡ 256) × ((c : ℕ) → c < 256 → get_or l.table c 0 ≡ cond (ltb c l.b && eqb (folded c) (folded l.p)) (bit_or (get_or l.initial.table c 0) (1 * 2 ^ l.i % 2 ^ 32)) (get_or l.initial.table c 0))

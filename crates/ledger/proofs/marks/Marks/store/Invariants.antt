use Rattle.std.proofs.Common.{◌≡◌, ℕ, cond, ◌&&◌, eqb, ltb, length, get_or}
use Rattle.rules.specs.Words.{bit}
use Rattle.ledger.proofs.marks.Marks.store.Given as goal

abbrev pub invariant-loop-s : goal.invariant-loop-s
invariant-loop-s l =
    (length l.marks-items ≡ 64)
    × ((n k : ℕ) → bit (get_or l.marks-items k 0) n ≡ cond (eqb n l.unit.number.value && ltb k l.s) (bit l.word k) (bit (get_or l.initial.marks-items k 0) n))

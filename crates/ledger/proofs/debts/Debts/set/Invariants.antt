use Rattle.std.proofs.Common.{◌≡◌, ℕ, cond, ◌&&◌, eqb, ltb, length, get_or}
use Rattle.rules.specs.Words.{bit}
use Rattle.ledger.proofs.debts.Debts.set.Given as goal

abbrev pub invariant-loop-word : goal.invariant-loop-word
invariant-loop-word l =
    (length l.word-items ≡ length l.initial.word-items)
    × ((n k : ℕ) → bit (get_or l.word-items k 0) n ≡ cond (eqb n l.number.value && ltb k l.word-index) l.on (bit (get_or l.initial.word-items k 0) n))

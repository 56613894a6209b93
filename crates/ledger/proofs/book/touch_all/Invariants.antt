use Rattle.std.proofs.Common.{◌≡◌, ℕ, true, cond, ◌&&◌, ltb}
use Rattle.ledger.specs.Books.{touches}
use Rattle.ledger.specs.Debts.{owes}
use Rattle.ledger.specs.Terms.{standing}
use Rattle.ledger.proofs.book.touch_all.Given as goal

abbrev pub invariant-loop-n : goal.invariant-loop-n
invariant-loop-n l = (n b : ℕ) → owes l.debts n b ≡ cond (ltb n l.n && (touches (standing l.terms n) l.change.at l.change.len b && ltb b 256)) true (owes l.initial.debts n b)

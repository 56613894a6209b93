-- When the marks are right. Assumes nothing.
use Rattle.std.specs.Prelude.{◌≡◌, ℕ, ◌*◌, ◌/◌, ◌<◌, Bool, true, false, List, length, is_some, Some}
use Rattle.rules.specs.Terms.{Term, occurs}
use Rattle.ledger.specs.declared.book.Ledger.{Ledger}
use Rattle.ledger.specs.Debts.{owes}
use Rattle.ledger.specs.Marks.{marked}
use Rattle.ledger.specs.Terms.{standing}

-- the ledger is right for what fits the matcher and for the text
pub record Right (fit : ℕ → ℕ → Bool) (text : List ℕ) (l : Ledger) : Type 0 where
  -- each standing term fits the matcher
  pub fits : (n : ℕ) (t : Term) → standing l.terms n ≡ Some t → fit (length t.bytes) t.limit ≡ true
  -- only units of standing terms at blocks of the text are owed
  pub owing : (n b : ℕ) → owes l.debts n b ≡ true → (is_some (standing l.terms n) ≡ true) × (64 * b < length text)
  -- where a unit of a standing term is not owed, the term's mark at each start of the block is set exactly when the term occurs there
  pub marks : (n s : ℕ) (t : Term) → standing l.terms n ≡ Some t → s < length text → owes l.debts n (s / 64) ≡ false → marked l.marks n s ≡ occurs t text s

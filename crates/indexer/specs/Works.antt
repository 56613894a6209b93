-- What doing one unit, and the first units, leaves. Assumes nothing.
use Rattle.std.specs.Prelude.{◌≡◌, ℕ, ◌+◌, ◌%◌, true, false, cond, ◌&&◌, ◌==◌, nat_le}
use Rattle.matchers.specs.declared.matcher.Matcher as matcher
use Rattle.galleys.specs.declared.galley.Galley as galley
use Rattle.rules.specs.Words.{count}
use Rattle.ledger.specs.Debts.{owed}
use Rattle.ledger.specs.Terms.{standing}
use Rattle.indexer.specs.declared.index.Indexer.{Indexer}
use Rattle.indexer.specs.Called.{Sound}

-- the unit x was done: it is owed no more, and its term is in the matcher
pub record Did {M G : Type 0} (matching : matcher.Ghosts M) (holding : galley.Ghosts G) (i : Indexer M G) (x : ℕ) (j : Indexer M G) : Type 0 where
  pub galley : j.galley ≡ i.galley
  pub job : j.job ≡ i.job
  pub terms : j.ledger.terms ≡ i.ledger.terms
  pub pages : j.ledger.pages ≡ i.ledger.pages
  pub fits : (m k : ℕ) → matching.fit j.matcher m k ≡ matching.fit i.matcher m k
  pub owes : (y : ℕ) → owed j.ledger.debts y ≡ cond (y == x) false (owed i.ledger.debts y)
  pub holds : Sound matching holding i → owed i.ledger.debts x ≡ true → matching.held j.matcher ≡ standing i.ledger.terms (x % 16)
  pub sound : Sound matching holding i → Sound matching holding j

-- the first d of the owed units were done
pub record Ran {M G : Type 0} (matching : matcher.Ghosts M) (holding : galley.Ghosts G) (i : Indexer M G) (d : ℕ) (j : Indexer M G) : Type 0 where
  pub galley : j.galley ≡ i.galley
  pub job : j.job ≡ i.job
  pub terms : j.ledger.terms ≡ i.ledger.terms
  pub pages : j.ledger.pages ≡ i.ledger.pages
  pub fits : (m k : ℕ) → matching.fit j.matcher m k ≡ matching.fit i.matcher m k
  pub owes : (x : ℕ) → owed j.ledger.debts x ≡ (owed i.ledger.debts x && nat_le d (count (owed i.ledger.debts) x))
  pub matcher : d ≡ 0 → j.matcher ≡ i.matcher
  pub holds : Sound matching holding i → (x : ℕ) → owed i.ledger.debts x ≡ true → count (owed i.ledger.debts) x + 1 ≡ d → matching.held j.matcher ≡ standing i.ledger.terms (x % 16)
  pub sound : Sound matching holding i → Sound matching holding j

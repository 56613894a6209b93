-- What a call has done: one record for every call. Assumes nothing.
use Rattle.std.specs.Prelude.{◌≡◌, ℕ, ◌+◌, ◌%◌, true, Option, Result}
use Rattle.matchers.specs.declared.matcher.Matcher as matcher
use Rattle.galleys.specs.declared.galley.Galley as galley
use Rattle.rules.specs.declared.refusal.Refusal.{Refusal}
use Rattle.rules.specs.declared.locator.Locator.{Locator}
use Rattle.rules.specs.Words.{count}
use Rattle.ledger.specs.Books.{listed as byMarks}
use Rattle.ledger.specs.Debts.{owed}
use Rattle.ledger.specs.Pages.{page_starts}
use Rattle.ledger.specs.Terms.{standing}
use Rattle.indexer.specs.declared.index.Indexer.{Indexer}
use Rattle.indexer.specs.Machine.{Machine, Call, Answer, start, answer, step, doing, refused}
use Rattle.indexer.specs.Listed.{locating, listed}
use Rattle.indexer.specs.Sounds.{Right}

-- the machine that an indexer's fields read as
abbrev pub view : {M G : Type 0} → galley.Ghosts G → Indexer M G → Machine
view holding i = record { text = holding.text i.galley; pages = page_starts i.ledger.pages; stands = standing i.ledger.terms; owed = owed i.ledger.debts }

-- its marks are right for its matcher and its text
abbrev pub Sound : {M G : Type 0} → matcher.Ghosts M → galley.Ghosts G → Indexer M G → Type 0
Sound matching holding i = Right (matching.fit i.matcher) (holding.text i.galley) i.ledger

-- a new indexer: its parts as given, the machine of the galley's text at first
pub record Made {M G : Type 0} (matching : matcher.Ghosts M) (holding : galley.Ghosts G) (the-matcher : M) (the-galley : G) (the-job : ℕ) (i : Indexer M G) : Type 0 where
  pub matcher : i.matcher ≡ the-matcher
  pub galley : i.galley ≡ the-galley
  pub job : i.job ≡ the-job
  pub starts : view holding i ≡ start (holding.text the-galley)
  pub sound : Sound matching holding i

-- the call c, made of i, has answered a and left j
pub record Called {M G : Type 0} (matching : matcher.Ghosts M) (holding : galley.Ghosts G) (i : Indexer M G) (c : Call) (a : Answer) (j : Indexer M G) : Type 0 where
  -- it answered as the machine does
  pub answers : a ≡ answer (matching.fit i.matcher) (view holding i) c
  -- it left the indexer as the machine is left
  pub follows : view holding j ≡ step (matching.fit i.matcher) holding.shows (view holding i) c
  pub job : j.job ≡ i.job
  pub galley : j.galley ≡ i.galley
  -- what fits the matcher stays; a call that does no unit leaves the matcher alone
  pub fits : (m k : ℕ) → matching.fit j.matcher m k ≡ matching.fit i.matcher m k
  pub matcher : doing (view holding i) c ≡ 0 → j.matcher ≡ i.matcher
  -- the matcher holds the term of the last unit done
  pub holds : Sound matching holding i → (x : ℕ) → (view holding i).owed x ≡ true → count (view holding i).owed x + 1 ≡ doing (view holding i) c → matching.held j.matcher ≡ (view holding i).stands (x % 16)
  -- a refusal leaves the whole indexer as it was
  pub same : refused a ≡ true → j ≡ i
  -- the sentence on the marks is kept
  pub sound : Sound matching holding i → Sound matching holding j

-- the locator asked for: by the marks, and so by the text where these are right
pub record Located {M G : Type 0} (matching : matcher.Ghosts M) (holding : galley.Ghosts G) (i : Indexer M G) (number from : ℕ) (r : Result (Option Locator) Refusal) : Type 0 where
  pub marks : r ≡ locating (λ t. byMarks i.ledger number) (view holding i) number from
  pub listed : Sound matching holding i → r ≡ locating (listed (view holding i) number) (view holding i) number from

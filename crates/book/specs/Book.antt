-- A book indexed from start to finish. Assumes nothing.
use Rattle.std.specs.Prelude.{◌≡◌, ℕ, ◌+◌, ◌%◌, Bool, true, false, cond, List, [], ◌∷◌, is_ok, Result}
use Rattle.matchers.specs.declared.matcher.Matcher as matcher
use Rattle.galleys.specs.declared.galley.Galley as galley
use Rattle.rules.specs.Words.{count}
use Rattle.indexer.specs.declared.index.Indexer.{Indexer}
use Rattle.indexer.specs.Machine.{Machine, owing, step, after_units}
use Rattle.indexer.specs.Machine.Call.{page}
use Rattle.indexer.specs.Called.{view, Sound}
use Rattle.term_sheet.specs.declared.fault.Fault.{Fault}
use Rattle.term_sheet.specs.Sheets.{sheet_reading}
use Rattle.term_sheet.specs.Entered.{first_fault, entered_all}

-- the machine with a page opened at each of the places, as far as they are accepted
abbrev pub opened : (ℕ → ℕ → Bool) → (ℕ → ℕ) → Machine → List ℕ → Machine
opened fit shows m [] = m
opened fit shows m (at ∷ rest) = opened fit shows (step fit shows m (page at)) rest

-- the machine with every owed unit done
abbrev pub finished : Machine → Machine
finished m = after_units m (owing m)

-- pages were opened in i, which is left as j
pub record Opened {M G : Type 0} (matching : matcher.Ghosts M) (holding : galley.Ghosts G) (i : Indexer M G) (starts : List ℕ) (j : Indexer M G) : Type 0 where
  pub follows : view holding j ≡ opened (matching.fit i.matcher) holding.shows (view holding i) starts
  pub matcher : j.matcher ≡ i.matcher
  pub galley : j.galley ≡ i.galley
  pub job : j.job ≡ i.job
  pub sound : Sound matching holding i → Sound matching holding j

-- the sheet's terms were entered into i, with pages at these starts, and all their units done, up to the first fault
pub record Indexed {M G : Type 0} (matching : matcher.Ghosts M) (holding : galley.Ghosts G) (i : Indexer M G) (starts : List ℕ) (sheet : List ℕ) (r : Result (Unit {0}) Fault) (j : Indexer M G) : Type 0 where
  pub answers : r ≡ first_fault (matching.fit i.matcher) holding.shows (opened (matching.fit i.matcher) holding.shows (view holding i) starts) (sheet_reading sheet)
  -- at a fault the entries before it stand, and no unit was done
  pub follows : (let m = entered_all (matching.fit i.matcher) holding.shows (opened (matching.fit i.matcher) holding.shows (view holding i) starts) (sheet_reading sheet) in view holding j ≡ cond (is_ok r) (finished m) m)
  -- else nothing is owed any more
  pub paid : is_ok r ≡ true → owing (view holding j) ≡ 0
  -- what fits the matcher stays; at a fault, and where nothing was owed, the matcher is as it was
  pub fits : (n k : ℕ) → matching.fit j.matcher n k ≡ matching.fit i.matcher n k
  pub fault : is_ok r ≡ false → j.matcher ≡ i.matcher
  pub idle : owing (entered_all (matching.fit i.matcher) holding.shows (opened (matching.fit i.matcher) holding.shows (view holding i) starts) (sheet_reading sheet)) ≡ 0 → j.matcher ≡ i.matcher
  -- else it holds the term of the last unit that was owed
  pub holds : (let m = entered_all (matching.fit i.matcher) holding.shows (opened (matching.fit i.matcher) holding.shows (view holding i) starts) (sheet_reading sheet) in is_ok r ≡ true → Sound matching holding i → (x : ℕ) → m.owed x ≡ true → count m.owed x + 1 ≡ owing m → matching.held j.matcher ≡ m.stands (x % 16))
  pub galley : j.galley ≡ i.galley
  pub job : j.job ≡ i.job
  pub sound : Sound matching holding i → Sound matching holding j

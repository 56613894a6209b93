-- What entering a sheet into an indexer answers and leaves. Assumes nothing.
use Rattle.std.specs.Prelude.{◌≡◌, ℕ, Bool, Some, None, Ok, Err, Option, Result}
use Rattle.matchers.specs.declared.matcher.Matcher as matcher
use Rattle.galleys.specs.declared.galley.Galley as galley
use Rattle.rules.specs.declared.refusal.Refusal.{Refusal}
use Rattle.indexer.specs.declared.index.Indexer.{Indexer}
use Rattle.indexer.specs.Machine.{Machine, entering, step}
use Rattle.indexer.specs.Machine.Call.{enter}
use Rattle.indexer.specs.Called.{view, Sound}
use Rattle.term_sheet.specs.declared.fault.Fault.{Fault}
use Rattle.term_sheet.specs.declared.fault.Fault.TheVariants.{Indexer as Refused}
use Rattle.term_sheet.specs.Sheets.{SheetEntry, Reading, ends, gives, stops}

-- the entry's refusal by the indexer, which the line's first byte names, else what comes next
abbrev pub entry_fault : SheetEntry → Option Refusal → Result (Unit {0}) Fault → Result (Unit {0}) Fault
entry_fault e (Some cause) next = Err (Refused e.line e.byte cause)
entry_fault e None next = next

-- the first fault, of the indexer or of the sheet; none where every entry is entered
abbrev pub first_fault : (ℕ → ℕ → Bool) → (ℕ → ℕ) → Machine → Reading → Result (Unit {0}) Fault
first_fault fit shows m ends = Ok tt
first_fault fit shows m (stops fault) = Err fault
first_fault fit shows m (gives e rest) =
    entry_fault e (entering fit m e.number e.limit e.term) (first_fault fit shows (step fit shows m (enter e.number e.limit e.term)) rest)

-- a refusal ends the entering: what was entered before it stays
abbrev pub entry_after : Machine → Option Refusal → Machine → Machine
entry_after m (Some cause) next = m
entry_after m None next = next

-- the machine with the entries before the first fault entered, in their order
abbrev pub entered_all : (ℕ → ℕ → Bool) → (ℕ → ℕ) → Machine → Reading → Machine
entered_all fit shows m ends = m
entered_all fit shows m (stops fault) = m
entered_all fit shows m (gives e rest) =
    entry_after m (entering fit m e.number e.limit e.term) (entered_all fit shows (step fit shows m (enter e.number e.limit e.term)) rest)

-- the reading was entered into i, which is left as j
pub record Entered {M G : Type 0} (matching : matcher.Ghosts M) (holding : galley.Ghosts G) (i : Indexer M G) (sheet : Reading) (r : Result (Unit {0}) Fault) (j : Indexer M G) : Type 0 where
  pub answers : r ≡ first_fault (matching.fit i.matcher) holding.shows (view holding i) sheet
  pub follows : view holding j ≡ entered_all (matching.fit i.matcher) holding.shows (view holding i) sheet
  pub matcher : j.matcher ≡ i.matcher
  pub galley : j.galley ≡ i.galley
  pub job : j.job ≡ i.job
  pub sound : Sound matching holding i → Sound matching holding j

-- one entry was entered into i, which is left as j
pub record EntryEntered {M G : Type 0} (matching : matcher.Ghosts M) (holding : galley.Ghosts G) (i : Indexer M G) (e : SheetEntry) (r : Result (Unit {0}) Fault) (j : Indexer M G) : Type 0 where
  pub answers : r ≡ entry_fault e (entering (matching.fit i.matcher) (view holding i) e.number e.limit e.term) (Ok tt)
  pub follows : view holding j ≡ step (matching.fit i.matcher) holding.shows (view holding i) (enter e.number e.limit e.term)
  pub matcher : j.matcher ≡ i.matcher
  pub galley : j.galley ≡ i.galley
  pub job : j.job ≡ i.job
  pub sound : Sound matching holding i → Sound matching holding j

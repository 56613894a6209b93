-- One entry more of a sheet. Assumes nothing.
use Rattle.std.proofs.Common.{◌≡◌, ℕ, Bool, Some, None, Ok, Err, Option, Result, sym, refl, ap, ◌∙◌, arith}
use Rattle.matchers.specs.declared.matcher.Matcher as matcher
use Rattle.galleys.specs.declared.galley.Galley as galley
use Rattle.rules.specs.declared.refusal.Refusal.{Refusal}
use Rattle.indexer.specs.declared.index.Indexer.{Indexer}
use Rattle.indexer.specs.Machine.{Machine, entering, step, after_enter}
use Rattle.indexer.specs.Machine.Call.{enter}
use Rattle.indexer.specs.Called.{view, Sound}
use Rattle.term_sheet.specs.declared.fault.Fault.{Fault}
use Rattle.term_sheet.specs.Sheets.{SheetEntry, Reading, gives}
use Rattle.term_sheet.specs.Entered.{first_fault, entry_fault, entered_all, entry_after, Entered, EntryEntered}

-- i has become j by the entries so far, and `ahead` is left to enter of the reading
pub record Going {M G : Type 0} (matching : matcher.Ghosts M) (holding : galley.Ghosts G) (i : Indexer M G) (sheet : Reading) (j : Indexer M G) (ahead : Reading) : Type 0 where
  pub fault : first_fault (matching.fit i.matcher) holding.shows (view holding i) sheet ≡ first_fault (matching.fit i.matcher) holding.shows (view holding j) ahead
  pub after : entered_all (matching.fit i.matcher) holding.shows (view holding i) sheet ≡ entered_all (matching.fit i.matcher) holding.shows (view holding j) ahead
  pub matcher : j.matcher ≡ i.matcher
  pub galley : j.galley ≡ i.galley
  pub job : j.job ≡ i.job
  pub sound : Sound matching holding i → Sound matching holding j

err-refused : (e : SheetEntry) (o : Option Refusal) (f : Fault) (next : Result (Unit {0}) Fault) → Err f ≡ entry_fault e o (Ok tt) → Err f ≡ entry_fault e o next
err-refused e None f next h = absurd (let z : ◌≡◌ {A = ℕ} 0 1 = cc in omega arith)
err-refused e (Some cause) f next h = h

err-after : (e : SheetEntry) (o : Option Refusal) (f : Fault) (m next : Machine) → Err f ≡ entry_fault e o (Ok tt) → m ≡ entry_after m o next
err-after e None f m next h = absurd (let z : ◌≡◌ {A = ℕ} 0 1 = cc in omega arith)
err-after e (Some cause) f m next h = refl

err-same : (shows : ℕ → ℕ) (e : SheetEntry) (o : Option Refusal) (f : Fault) (m : Machine) → Err f ≡ entry_fault e o (Ok tt) → after_enter shows m e.number e.limit e.term o ≡ m
err-same shows e None f m h = absurd (let z : ◌≡◌ {A = ℕ} 0 1 = cc in omega arith)
err-same shows e (Some cause) f m h = refl

module _ {M G : Type 0} (matching : matcher.Ghosts M) (holding : galley.Ghosts G) (i : Indexer M G) (sheet : Reading) (j : Indexer M G) where
  module _ (ahead rest : Reading) (e : SheetEntry) (going : Going matching holding i sheet j ahead) (next : ahead ≡ gives e rest) (k : Indexer M G) where
    now-fit : {A : Type 0} (F : (ℕ → ℕ → Bool) → A) → F (matching.fit j.matcher) ≡ F (matching.fit i.matcher)
    now-fit F = ap (λ m. F (matching.fit m)) going.matcher

    -- the indexer refuses the entry
    pub entered-refused : (f : Fault) → EntryEntered matching holding j e (Err f) k → Entered matching holding i sheet (Err f) k
    entered-refused f entered =
        let o = entering (matching.fit i.matcher) (view holding j) e.number e.limit e.term in
        let said : Err f ≡ entry_fault e o (Ok tt) = entered.answers ∙ now-fit (λ g. entry_fault e (entering g (view holding j) e.number e.limit e.term) (Ok tt)) in
        let stays : view holding k ≡ view holding j =
        entered.follows ∙ now-fit (λ g. step g holding.shows (view holding j) (enter e.number e.limit e.term)) ∙ err-same holding.shows e o f (view holding j) said in
        record {
          answers = err-refused e o f (first_fault (matching.fit i.matcher) holding.shows (step (matching.fit i.matcher) holding.shows (view holding j) (enter e.number e.limit e.term)) rest) said
              ∙ sym (going.fault ∙ ap (first_fault (matching.fit i.matcher) holding.shows (view holding j)) next);
          follows = stays ∙ err-after e o f (view holding j) (entered_all (matching.fit i.matcher) holding.shows (step (matching.fit i.matcher) holding.shows (view holding j) (enter e.number e.limit e.term)) rest) said
              ∙ sym (going.after ∙ ap (entered_all (matching.fit i.matcher) holding.shows (view holding j)) next);
          matcher = entered.matcher ∙ going.matcher;
          galley = entered.galley ∙ going.galley;
          job = entered.job ∙ going.job;
          sound = λ right. entered.sound (going.sound right);
        }

-- One unit more of a run. Assumes nothing.
use Rattle.std.proofs.Common.{◌≡◌, ℕ, ◌+◌, ◌-◌, ◌%◌, ◌<◌, ◌≤◌, min, Bool, true, false, cond, ◌&&◌, eqb, leb, sym, refl, ap, ◌∙◌, arith}
use Rattle.std.proofs.lemmas.Bool.{le-leb, both_ways}
use Rattle.matchers.specs.declared.matcher.Matcher as matcher
use Rattle.galleys.specs.declared.galley.Galley as galley
use Rattle.rules.specs.Words.{count}
use Rattle.rules.proofs.Counts.{left, next-left, next-within, next-count, next-passes, count_same, count_left, count-below, count-tells}
use Rattle.ledger.specs.Debts.{owed}
use Rattle.ledger.specs.Pages.{page_starts}
use Rattle.ledger.specs.Terms.{standing}
use Rattle.indexer.specs.declared.index.Indexer.{Indexer}
use Rattle.indexer.specs.Machine.{owing}
use Rattle.indexer.specs.Machine.Call.{run}
use Rattle.indexer.specs.Machine.Answer.{did}
use Rattle.indexer.specs.Called.{view, Called}
use Rattle.indexer.specs.Works.{Did, Ran}
use Rattle.indexer.proofs.Calls.{same-machine}

module _ {M G : Type 0} (matching : matcher.Ghosts M) (holding : galley.Ghosts G) (i : Indexer M G) where
  -- before the first unit
  pub ran-none : Ran matching holding i 0 i
  ran-none = record {
    galley = refl;
    job = refl;
    terms = refl;
    pages = refl;
    fits = λ m k. refl;
    owes = λ x. all_left (owed i.ledger.debts x) (count (owed i.ledger.debts) x);
    matcher = λ _. refl;
    holds = λ right x on last. absurd (let z : ◌≡◌ {A = ℕ} 0 1 = omega arith in omega arith);
    sound = λ right. right;
  }
    where
      all_left : (b : Bool) (n : ℕ) → b ≡ (b && leb 0 n)
      all_left true n = sym (le-leb 0 n (omega arith))
      all_left false n = refl

  module _ (j : Indexer M G) (d : ℕ) (ran : Ran matching holding i d j) where
    module _ (x : ℕ) (on : owed j.ledger.debts x ≡ true) (first : (y : ℕ) → y < x → owed j.ledger.debts y ≡ false) where
      was-on : left (owed i.ledger.debts) d x ≡ true
      was-on = sym (ran.owes x) ∙ on

      was-first : (y : ℕ) → y < x → left (owed i.ledger.debts) d y ≡ false
      was-first y l = sym (ran.owes y) ∙ first y l

      pub ran-within : x < 4096 → d + 1 ≤ count (owed i.ledger.debts) 4096
      ran-within l = next-within (owed i.ledger.debts) d x was-on was-first 4096 l

      -- the unit done last is the one with d owed units before it
      last-unit : (y : ℕ) → owed i.ledger.debts y ≡ true → count (owed i.ledger.debts) y + 1 ≡ d + 1 → x ≡ y
      last-unit y also last =
          count-tells (owed i.ledger.debts) x y (next-passes (owed i.ledger.debts) d x was-on was-first) also (let n = next-count (owed i.ledger.debts) d x was-on was-first in omega arith)

      pub ran-more : (k : Indexer M G) → Did matching holding j x k → Ran matching holding i (d + 1) k
      ran-more k done = record {
        galley = done.galley ∙ ran.galley;
        job = done.job ∙ ran.job;
        terms = done.terms ∙ ran.terms;
        pages = done.pages ∙ ran.pages;
        fits = λ m k. done.fits m k ∙ ran.fits m k;
        owes = λ y. done.owes y ∙ ap (λ b. cond (eqb y x) false b) (ran.owes y) ∙ next-left (owed i.ledger.debts) d x was-on was-first y;
        matcher = λ none. absurd (let z : ◌≡◌ {A = ℕ} 0 1 = omega arith in omega arith);
        holds = λ right y also last. done.holds (ran.sound right) on ∙ ap (λ ts. standing ts (x % 16)) ran.terms ∙ ap (λ z. standing i.ledger.terms (z % 16)) (last-unit y also last);
        sound = λ right. done.sound (ran.sound right);
      }

      -- nothing is owed before the unit's block
      pub none_before : (k : Indexer M G) (b : ℕ) → b ≤ x → Did matching holding j x k → (y : ℕ) → y < b → owed k.ledger.debts y ≡ false
      none_before k b low done y l = done.owes y ∙ ap (λ o. cond (eqb y x) false o) (first y (omega arith)) ∙ both (eqb y x)
        where
          both : (c : Bool) → cond c false false ≡ false
          both true = refl
          both false = refl

    -- how many are left
    pub ran-count : count (owed j.ledger.debts) 4096 ≡ count (owed i.ledger.debts) 4096 - d
    ran-count = count_same (owed j.ledger.debts) (left (owed i.ledger.debts) d) ran.owes 4096 ∙ count_left (owed i.ledger.debts) d 4096

    -- where nothing is owed any more
    pub ran-all : ((y : ℕ) → y < 4096 → owed j.ledger.debts y ≡ false) → count (owed i.ledger.debts) 4096 ≤ d
    ran-all none = let a = ran-count in let b = count-below (owed j.ledger.debts) 4096 none in omega arith

    pub run-called : (u rest : ℕ) → d ≡ min u (owing (view holding i)) → rest ≡ owing (view holding j) → Called matching holding i (run u) (did d rest) j
    run-called u rest all still =
        let left_is : rest ≡ owing (view holding i) - min u (owing (view holding i)) = still ∙ ran-count ∙ ap (λ n. owing (view holding i) - n) all in
        record {
          answers = cc;
          follows = same-machine (ap holding.text ran.galley) (ap page_starts ran.pages) (λ n. ap (λ ts. standing ts n) ran.terms) (λ x. ran.owes x ∙ ap (λ n. owed i.ledger.debts x && leb n (count (owed i.ledger.debts) x)) all);
          job = ran.job;
          galley = ran.galley;
          fits = ran.fits;
          matcher = λ none. ran.matcher (all ∙ none);
          holds = λ right x on last. ran.holds right x on (last ∙ sym all);
          same = λ no. absurd (both_ways false refl no);
          sound = ran.sound;
        }

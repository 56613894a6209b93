-- What shows that a call did what the machine does. Assumes nothing.
use Rattle.std.proofs.Common.{◌≡◌, ℕ, ◌/◌, ◌%◌, ◌≤◌, Bool, true, false, cond, eqb, List, map, length, is_some, Some, None, Ok, Err, Option, Result, sym, refl, ap, ◌∙◌, subst, arith}
use mathlib.Core.Path.{fun_ext}
use Rattle.std.specs.Option.{option_map}
use Rattle.matchers.specs.declared.matcher.Matcher as matcher
use Rattle.galleys.specs.declared.galley.Galley as galley
use Rattle.rules.specs.declared.refusal.Refusal.{Refusal}
use Rattle.rules.specs.declared.refusal.Refusal.TheVariants.{TermStands, TermUnfit}
use Rattle.rules.specs.Refusals.{answer_of, in_order, numbering, malformed}
use Rattle.rules.specs.Terms.{Term}
use Rattle.ledger.specs.declared.book.Ledger.{Ledger}
use Rattle.ledger.specs.Pages.{page_starts}
use Rattle.ledger.specs.Books.{Entered}
use Rattle.std.proofs.lemmas.List.{length-map}
use Rattle.std.proofs.lemmas.Bool.{both_ways}
use Rattle.indexer.proofs.Books.{entered-owes, entered-right}
use Rattle.indexer.specs.declared.index.Indexer.{Indexer}
use Rattle.indexer.specs.Machine.{Machine, Call, Answer, doing, answer, step, after_enter, entering}
use Rattle.indexer.specs.Machine.Call.{enter}
use Rattle.indexer.specs.Machine.Answer.{said}
use Rattle.indexer.specs.Called.{view, Called}

-- two machines that hold the same are the same
pub same-machine : {x y : List ℕ} {p q : List ℕ} {s t : ℕ → Option Term} {o u : ℕ → Bool} → x ≡ y → p ≡ q → ((n : ℕ) → s n ≡ t n) → ((n : ℕ) → o n ≡ u n) →
    ◌≡◌ {A = Machine} (record { text = x; pages = p; stands = s; owed = o }) (record { text = y; pages = q; stands = t; owed = u })
same-machine e d f g = let f' = fun_ext f in let g' = fun_ext g in cc

-- checks in order: each before the one that refuses has passed
pub first-refuses : (e : Refusal) (a b : Option Refusal) → a ≡ Some e → in_order a b ≡ Some e
first-refuses e a b h = ap (λ x. in_order x b) h

pub first_passes : (a b : Option Refusal) → a ≡ None → in_order a b ≡ b
first_passes a b h = ap (λ x. in_order x b) h

-- the checks of an entry, one after the other
module _ (fit : ℕ → ℕ → Bool) (m : Machine) (number k : ℕ) (term : List ℕ) where
  pub unnumbered : (e : Refusal) → numbering number ≡ Some e → entering fit m number k term ≡ Some e
  unnumbered e h = first-refuses e (numbering number) _ h

  module _ (n : numbering number ≡ None) where
    pub unformed : (e : Refusal) → malformed (length term) k ≡ Some e → entering fit m number k term ≡ Some e
    unformed e h = first_passes (numbering number) _ n ∙ first-refuses e (malformed (length term) k) _ h

    module _ (w : malformed (length term) k ≡ None) where
      abbrev last-checks : Bool → Bool → Option Refusal
      last-checks stands fits = in_order (cond stands (Some TermStands) None) (cond fits None (Some TermUnfit))

      passed : entering fit m number k term ≡ last-checks (is_some (m.stands number)) (fit (length term) k)
      passed = first_passes (numbering number) _ n ∙ first_passes (malformed (length term) k) _ w

      pub taken : is_some (m.stands number) ≡ true → entering fit m number k term ≡ Some TermStands
      taken h = passed ∙ ap (λ b. last-checks b (fit (length term) k)) h

      module _ (free : is_some (m.stands number) ≡ false) where
        pub unfit : fit (length term) k ≡ false → entering fit m number k term ≡ Some TermUnfit
        unfit h = passed ∙ ap (λ b. last-checks b (fit (length term) k)) free ∙ ap (λ b. last-checks false b) h

        pub accepted : fit (length term) k ≡ true → entering fit m number k term ≡ None
        accepted h = passed ∙ ap (λ b. last-checks b (fit (length term) k)) free ∙ ap (λ b. last-checks false b) h

module _ {M G : Type 0} (matching : matcher.Ghosts M) (holding : galley.Ghosts G) (i : Indexer M G) where
  -- a call that leaves the indexer and the machine alone
  pub unchanged : (c : Call) (a : Answer) → doing (view holding i) c ≡ 0 → a ≡ answer (matching.fit i.matcher) (view holding i) c → step (matching.fit i.matcher) holding.shows (view holding i) c ≡ view holding i → Called matching holding i c a i
  unchanged c a none answers stays = record {
    answers = answers;
    follows = sym stays;
    job = refl;
    galley = refl;
    fits = λ m k. refl;
    matcher = λ _. refl;
    holds = λ sound x owed last. absurd (let z : ◌≡◌ {A = ℕ} 0 1 = omega arith in omega arith);
    same = λ _. refl;
    sound = λ sound. sound;
  }

  module _ (number k : ℕ) (term : List ℕ) where
    pub enter-refused : (e : Refusal) (r : Result (Unit {0}) Refusal) → r ≡ Err e → entering (matching.fit i.matcher) (view holding i) number k term ≡ Some e → Called matching holding i (enter number k term) (said r) i
    enter-refused e r is why = unchanged (enter number k term) (said r) refl (ap said is ∙ sym (ap (λ o. said (answer_of o)) why)) (ap (λ o. after_enter holding.shows (view holding i) number k term o) why)

    -- the term was taken: it stands, and its units are owed
    pub enter-called : (l : Ledger) (t : Term) → entering (matching.fit i.matcher) (view holding i) number k term ≡ None → t ≡ record { bytes = map holding.shows term; limit = k } → length (holding.text i.galley) ≤ 16384 →
        Entered i.ledger number t (length (holding.text i.galley)) l → is_some ((view holding i).stands number) ≡ false → matching.fit i.matcher (length term) k ≡ true →
        Called matching holding i (enter number k term) (said (Ok tt)) (record { matcher = i.matcher; galley = i.galley; job = i.job; ledger = l })
    enter-called l t why is short entered free fits = record {
      answers = sym (ap (λ o. said (answer_of o)) why);
      follows = same-machine refl (ap page_starts entered.pages) (λ n. entered.terms n ∙ ap (λ u. cond (eqb n number) (Some u) ((view holding i).stands n)) is)
          (λ x. entered-owes (matching.fit i.matcher) (holding.text i.galley) i.ledger l number t short entered (x % 16) (x / 16))
          ∙ sym (ap (λ o. after_enter holding.shows (view holding i) number k term o) why);
      job = refl;
      galley = refl;
      fits = λ m q. refl;
      matcher = λ _. refl;
      holds = λ sound x owed last. absurd (let z : ◌≡◌ {A = ℕ} 0 1 = omega arith in omega arith);
      same = λ no. absurd (both_ways false refl no);
      sound = λ right. entered-right (matching.fit i.matcher) (holding.text i.galley) i.ledger l number t short entered free
          (let m : length t.bytes ≡ length term = ap (λ (u : Term). length u.bytes) is ∙ length-map term holding.shows in let q : t.limit ≡ k = ap (λ (u : Term). u.limit) is in cc) right;
    }

-- a term as the galley shows it has the same length
pub shown-form : (shows : ℕ → ℕ) (term : List ℕ) (k : ℕ) (o : Option Refusal) → malformed (length (map shows term)) k ≡ o → malformed (length term) k ≡ o
shown-form shows term k o h = ap (λ l. malformed l k) (sym (length-map term shows)) ∙ h

-- whether a term stands, by its row
some_mapped : {A B : Type 0} (f : A → B) (o : Option A) → is_some (option_map f o) ≡ is_some o
some_mapped f None = refl
some_mapped f (Some x) = refl

pub row-stands : {A : Type 0} (f : A → Term) (stands : ℕ → Option Term) (value number : ℕ) (row : Option A) (b : Bool) → value ≡ number → option_map f row ≡ stands value → b ≡ is_some row → is_some (stands number) ≡ b
row-stands f stands value number row b is reads some = ap (λ n. is_some (stands n)) (sym is) ∙ sym (ap is_some reads) ∙ some_mapped f row ∙ sym some

-- the refusal that a `?` passes on
pub passed_on : (o : Option Refusal) (x y : Refusal) → o ≡ Some x → y ≡ x → o ≡ Some y
passed_on o x y h e = h ∙ ap Some (sym e)

-- the same entry, by the number and the size that the call was given
pub entered_at : (i j : Ledger) (t : Term) (value number size n : ℕ) → value ≡ number → size ≡ n → Entered i value t size j → Entered i number t n j
entered_at i j t value number size n is long entered = subst (λ x. Entered i x t n j) is (subst (λ x. Entered i value t x j) long entered)

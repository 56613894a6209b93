-- The first locator by the marks is the first by the rules. Assumes nothing.
use Rattle.std.proofs.Common.{◌≡◌, ℕ, ◌+◌, ◌*◌, ◌/◌, ◌%◌, ◌<◌, ◌≤◌, min, true, false, cond, not, ◌&&◌, ltb, length, Some, None, Ok, Err, Option, Result, sym, refl, ap, ◌∙◌, ⊎_elim, arith}
use Rattle.std.specs.Option.{option_map}
use Rattle.std.proofs.lemmas.Bool.{cases_Bool, ltb-true, and_right, not_from_true}
use Rattle.matchers.specs.declared.matcher.Matcher as matcher
use Rattle.galleys.specs.declared.galley.Galley as galley
use Rattle.rules.specs.declared.refusal.Refusal.{Refusal}
use Rattle.rules.specs.declared.refusal.Refusal.TheVariants.{NumberTooHigh}
use Rattle.rules.specs.declared.locator.Locator.{Locator}
use Rattle.rules.specs.Refusals.{numbering}
use Rattle.rules.specs.Terms.{Term, occurs}
use Rattle.ledger.specs.declared.book.Ledger.{Ledger}
use Rattle.ledger.specs.Debts.{owes, owed}
use Rattle.ledger.specs.Marks.{marked}
use Rattle.ledger.specs.Books.{first_from, listed as byMarks}
use Rattle.ledger.proofs.Firsts.{first_from-same}
use Rattle.indexer.specs.declared.index.Indexer.{Indexer}
use Rattle.indexer.specs.Listed.{listed, locator_at, first_of, locating}
use Rattle.indexer.specs.Called.{view, Sound, Located}
use Rattle.indexer.proofs.Books.{none-some}

pub number-below : (number : ℕ) → numbering number ≡ None → ltb number 16 ≡ true
number-below number h = ⊎_elim (λ (e : ltb number 16 ≡ true). e) (λ (e : ltb number 16 ≡ false). absurd (none-some (numbering number) NumberTooHigh h (ap (λ b. cond b None (Some NumberTooHigh)) e))) (cases_Bool (ltb number 16))

-- a unit by its number and its block
pub unit-owes : (l : Ledger) (n b : ℕ) → n < 16 → owed l.debts (16 * b + n) ≡ owes l.debts n b
unit-owes l n b h =
    let ne : (16 * b + n) % 16 ≡ n = omega arith in
    let be : (16 * b + n) / 16 ≡ b = omega arith in
    ap (λ m. owes l.debts m ((16 * b + n) / 16)) ne ∙ ap (owes l.debts n) be

module _ {M G : Type 0} (matching : matcher.Ghosts M) (holding : galley.Ghosts G) (i : Indexer M G) (number from : ℕ) where
  -- at a start of the holding.text a mark whose unit is not owed is a listed locator
  start-same : (t : Term) → number < 16 → (view holding i).stands number ≡ Some t → Sound matching holding i → (s : ℕ) → s < length (holding.text i.galley) → byMarks i.ledger number s ≡ listed (view holding i) number t s
  start-same t small stands right s below =
      ap (λ o. marked i.ledger.marks number s && not o) (sym (unit-owes i.ledger number (s / 64) small))
      ∙ ⊎_elim
      (λ (on : owed i.ledger.debts (16 * (s / 64) + number) ≡ true).
      let off : not (owed i.ledger.debts (16 * (s / 64) + number)) ≡ false = not_from_true _ on in
      and_right (marked i.ledger.marks number s) _ off ∙ sym (and_right (occurs t (holding.text i.galley) s) _ off))
      (λ (off : owed i.ledger.debts (16 * (s / 64) + number) ≡ false).
      ap (λ b. b && not (owed i.ledger.debts (16 * (s / 64) + number))) (right.marks number s t stands below (sym (unit-owes i.ledger number (s / 64) small) ∙ off)))
      (cases_Bool (owed i.ledger.debts (16 * (s / 64) + number)))

  same_first : (o : Option Term) → number < 16 → (view holding i).stands number ≡ o → Sound matching holding i → first_of (λ t. byMarks i.ledger number) (view holding i) o from ≡ first_of (listed (view holding i) number) (view holding i) o from
  same_first None small stands right = refl
  same_first (Some t) small stands right =
      ap (λ o. Ok (option_map (locator_at (view holding i) t) o)) (first_from-same (byMarks i.ledger number) (listed (view holding i) number t) from (length (holding.text i.galley)) (start-same t small stands right))

  same-locator : Sound matching holding i → locating (λ t. byMarks i.ledger number) (view holding i) number from ≡ locating (listed (view holding i) number) (view holding i) number from
  same-locator right =
      ⊎_elim
      (λ (e : ltb number 16 ≡ true). ap (λ r. cond (ltb number 16) r (Err NumberTooHigh)) (same_first ((view holding i).stands number) (ltb-true number 16 e) refl right))
      (λ (e : ltb number 16 ≡ false). ap (λ b. cond b (first_of (λ t. byMarks i.ledger number) (view holding i) ((view holding i).stands number) from) (Err NumberTooHigh)) e ∙ sym (ap (λ b. cond b (first_of (listed (view holding i) number) (view holding i) ((view holding i).stands number) from) (Err NumberTooHigh)) e))
      (cases_Bool (ltb number 16))

  -- what the marks give is what the rules give
  pub located : (r : Result (Option Locator) Refusal) → r ≡ locating (λ t. byMarks i.ledger number) (view holding i) number from → Located matching holding i number from r
  located r e = record { marks = e; listed = λ right. e ∙ same-locator right }

  -- the first mark of a standing term
  pub first-located : (t : Term) (o : Option ℕ) (size : ℕ) → numbering number ≡ None → (view holding i).stands number ≡ Some t → length (holding.text i.galley) ≤ 16384 → size ≡ length (holding.text i.galley) →
      o ≡ first_from (byMarks i.ledger number) from (min size 16384) → Ok (option_map (locator_at (view holding i) t) o) ≡ locating (λ t. byMarks i.ledger number) (view holding i) number from
  first-located t o size numbered stands short is first =
      let n : min size 16384 ≡ length (holding.text i.galley) = omega arith in
      ap (λ x. Ok (option_map (locator_at (view holding i) t) x)) (first ∙ ap (λ k. first_from (byMarks i.ledger number) from k) n)
      ∙ sym (ap (λ b. cond b (first_of (λ t. byMarks i.ledger number) (view holding i) ((view holding i).stands number) from) (Err NumberTooHigh)) (number-below number numbered)
      ∙ ap (λ x. first_of (λ t. byMarks i.ledger number) (view holding i) x from) stands)

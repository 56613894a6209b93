-- The marks stay right when a unit is done. Assumes nothing.
use Rattle.std.proofs.Common.{◌≡◌, ℕ, ◌+◌, ◌*◌, ◌/◌, ◌%◌, ◌<◌, Bool, true, false, cond, ◌&&◌, eqb, List, length, is_some, Some, None, Option, sym, refl, ap, ◌∙◌, ⊎_elim, arith, MatchOption}
use Rattle.std.proofs.lemmas.Bool.{cases_Bool, and_parts, eqb-true, both_ways}
use Rattle.std.proofs.lemmas.Bool.Decides.{nat_tests}
use Rattle.matchers.specs.declared.matcher.Matcher as matcher
use Rattle.rules.specs.Words.{bit}
use Rattle.rules.specs.Terms.{Term, occurs}
use Rattle.ledger.specs.declared.book.Ledger.{Ledger}
use Rattle.ledger.specs.declared.unit.Unit as declared
use Rattle.ledger.specs.Units.{unit_index}
use Rattle.ledger.specs.Debts.{owes, owed}
use Rattle.ledger.specs.Marks.{marked}
use Rattle.ledger.specs.Terms.{standing}
use Rattle.ledger.specs.Books.{Settled, mark_by}
use Rattle.indexer.specs.Looks.{Looked}
use Rattle.indexer.specs.Sounds.{Right}

-- the mark that a word gives
word-mark : (t : Term) (text : List ℕ) (block s : ℕ) (word : Option ℕ) (old : Bool) → s / 64 ≡ block →
    MatchOption word ⊥ (λ w. (p : ℕ) → p < 64 → bit w p ≡ occurs t text (64 * block + p)) → mark_by word (s % 64) old ≡ occurs t text s
word-mark t text block s None old e h = absurd h
word-mark t text block s (Some w) old e h = h (s % 64) (omega arith) ∙ ap (λ x. occurs t text x) (omega arith)

still-owed : (b o : Bool) → cond b false o ≡ true → o ≡ true
still-owed true o e = absurd (both_ways false refl e)
still-owed false o e = e

-- a unit, by its place in the order of work
pub unit-apart : (u : declared.Unit) (y : ℕ) → (eqb (y % 16) u.number.value && eqb (y / 16) u.block) ≡ eqb y (unit_index u)
unit-apart u y = let below = u.number.below in grind (arith, nat_tests)

pub unit-number : (u : declared.Unit) → unit_index u % 16 ≡ u.number.value
unit-number u = let below = u.number.below in omega arith

pub unit-block : (u : declared.Unit) → unit_index u / 16 ≡ u.block
unit-block u = let below = u.number.below in omega arith

pub settled-owed : (i j : Ledger) (u : declared.Unit) (word : Option ℕ) → Settled i u word j → (y : ℕ) → owed j.debts y ≡ cond (eqb y (unit_index u)) false (owed i.debts y)
settled-owed i j u word settled y = settled.debts (y % 16) (y / 16) ∙ ap (λ b. cond b false (owed i.debts y)) (unit-apart u y)

module _ (fit fit' : ℕ → ℕ → Bool) (text : List ℕ) (i j : Ledger) (u : declared.Unit) (word : Option ℕ) (same : (m k : ℕ) → fit' m k ≡ fit m k) (settled : Settled i u word j) where
  before : (n : ℕ) (t : Term) → standing j.terms n ≡ Some t → standing i.terms n ≡ Some t
  before n t stands = ap (λ x. standing x n) (sym settled.terms) ∙ stands

  pub settled-right :
      ((t : Term) → standing i.terms u.number.value ≡ Some t → fit (length t.bytes) t.limit ≡ true → 64 * u.block < length text →
      MatchOption word ⊥ (λ w. (s : ℕ) → s < 64 → bit w s ≡ occurs t text (64 * u.block + s))) →
      Right fit text i → Right fit' text j
  settled-right seen right = record {
    fits = λ n t stands. same (length t.bytes) t.limit ∙ right.fits n t (before n t stands);
    owing = λ n b on.
        let was = right.owing n b (still-owed (eqb n u.number.value && eqb b u.block) (owes i.debts n b) (sym (settled.debts n b) ∙ on)) in
        (ap (λ x. is_some (standing x n)) settled.terms ∙ was.0, was.1);
    marks = λ n s t stands below paid.
        ⊎_elim
        (λ (here : (eqb n u.number.value && eqb (s / 64) u.block) ≡ true).
        let n-is : n ≡ u.number.value = eqb-true n u.number.value (and_parts _ _ here).0 in
        let b-is : s / 64 ≡ u.block = eqb-true (s / 64) u.block (and_parts _ _ here).1 in
        let was = before n t stands in
        let stood : standing i.terms u.number.value ≡ Some t = ap (standing i.terms) (sym n-is) ∙ was in
        settled.marks n s ∙ ap (λ b. cond b (mark_by word (s % 64) (marked i.marks n s)) (marked i.marks n s)) here
        ∙ word-mark t text u.block s word (marked i.marks n s) b-is (seen t stood (right.fits n t was) (omega arith)))
        (λ (there : (eqb n u.number.value && eqb (s / 64) u.block) ≡ false).
        let still : owes i.debts n (s / 64) ≡ false = sym (settled.debts n (s / 64) ∙ ap (λ b. cond b false (owes i.debts n (s / 64))) there) ∙ paid in
        settled.marks n s ∙ ap (λ b. cond b (mark_by word (s % 64) (marked i.marks n s)) (marked i.marks n s)) there
        ∙ right.marks n s t (before n t stands) below still)
        (cases_Bool (eqb n u.number.value && eqb (s / 64) u.block));
  }

-- an owed unit's term is left in the matcher
module _ {M : Type 0} (matching : matcher.Ghosts M) (old new : M) (text : List ℕ) (l : Ledger) (u : declared.Unit) (word : Option ℕ) (right : Right (matching.fit old) text l) (on : owed l.debts (unit_index u) ≡ true) where
  owes-it : owes l.debts u.number.value u.block ≡ true
  owes-it = ap (λ n. owes l.debts n u.block) (sym (unit-number u)) ∙ ap (λ b. owes l.debts (unit_index u % 16) b) (sym (unit-block u)) ∙ on

  by_row : (o : Option Term) → o ≡ standing l.terms u.number.value → is_some o ≡ true → Looked matching old text o u.block word new → matching.held new ≡ o
  by_row None e some looked = absurd (both_ways false refl some)
  by_row (Some t) e some looked = looked.holds t refl (right.fits u.number.value t (sym e)) (right.owing u.number.value u.block owes-it).1

  pub done-holds : (o : Option Term) → o ≡ standing l.terms u.number.value → Looked matching old text o u.block word new → matching.held new ≡ standing l.terms (unit_index u % 16)
  done-holds o e looked =
      by_row o e (ap is_some e ∙ (right.owing u.number.value u.block owes-it).0) looked ∙ e ∙ ap (standing l.terms) (sym (unit-number u))

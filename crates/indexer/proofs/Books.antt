-- The marks stay right when a term is entered. Assumes nothing.
use Rattle.std.proofs.Common.{◌≡◌, ℕ, ◌*◌, ◌/◌, ◌≤◌, Bool, true, false, cond, ◌&&◌, eqb, ltb, List, length, is_some, Some, None, Option, sym, refl, ap, ◌∙◌, subst, ⊎_elim, arith}
use Rattle.std.proofs.lemmas.Bool.{cases_eq, cases_Bool, eq-eqb, ne_eqb, lt-ltb, ltb-true, ltb-false, and_from, both_ways}
use Rattle.std.proofs.lemmas.Bool.Decides.{nat_tests}
use Rattle.rules.specs.Terms.{Term}
use Rattle.ledger.specs.declared.book.Ledger.{Ledger}
use Rattle.ledger.specs.Debts.{owes}
use Rattle.ledger.specs.Marks.{marked}
use Rattle.ledger.specs.Terms.{standing}
use Rattle.ledger.specs.Books.{Entered, Withdrawn, Blank}
use Rattle.indexer.specs.Sounds.{Right}

pub none-some : {A : Type 0} (o : Option A) (t : A) → o ≡ None → o ≡ Some t → ⊥
none-some o t p q = let z : ◌≡◌ {A = ℕ} 0 1 = cc in omega arith

same-term : (x t : Term) → Some x ≡ Some t → x ≡ t
same-term x t e = cc

-- a ledger in which nothing stands is right
pub blank-right : (fit : ℕ → ℕ → Bool) (text : List ℕ) (l : Ledger) → Blank l → Right fit text l
blank-right fit text l blank = record {
  fits = λ n t stands. absurd (none-some (standing l.terms n) t (blank.terms n) stands);
  owing = λ n b on. absurd (both_ways (owes l.debts n b) (blank.debts n b) on);
  marks = λ n s t stands below paid. absurd (none-some (standing l.terms n) t (blank.terms n) stands);
}

-- within the 256 blocks of a text
pub in_blocks : (b size : ℕ) → size ≤ 16384 → (ltb (64 * b) size && ltb b 256) ≡ ltb (64 * b) size
in_blocks b size h = grind (arith, nat_tests)

module _ (fit : ℕ → ℕ → Bool) (text : List ℕ) (i j : Ledger) (number : ℕ) (term : Term) (short : length text ≤ 16384) (entered : Entered i number term (length text) j) where
  pub entered-owes : (n b : ℕ) → owes j.debts n b ≡ cond (eqb n number && ltb (64 * b) (length text)) true (owes i.debts n b)
  entered-owes n b = entered.debts n b ∙ ap (λ x. cond (eqb n number && x) true (owes i.debts n b)) (in_blocks b (length text) short)

  here : (n : ℕ) → n ≡ number → standing j.terms n ≡ Some term
  here n e = entered.terms n ∙ ap (λ b. cond b (Some term) (standing i.terms n)) (eq-eqb n number e)

  other : (n : ℕ) → (n ≡ number → ⊥) → standing j.terms n ≡ standing i.terms n
  other n ne = entered.terms n ∙ ap (λ b. cond b (Some term) (standing i.terms n)) (ne_eqb n number ne)

  other-owes : (n b : ℕ) → (n ≡ number → ⊥) → owes j.debts n b ≡ owes i.debts n b
  other-owes n b ne = entered-owes n b ∙ ap (λ x. cond (x && ltb (64 * b) (length text)) true (owes i.debts n b)) (ne_eqb n number ne)

  pub entered-right : is_some (standing i.terms number) ≡ false → fit (length term.bytes) term.limit ≡ true → Right fit text i → Right fit text j
  entered-right free fits right = record {
    fits = λ n t stands.
        ⊎_elim
        (λ (e : n ≡ number). subst (λ (u : Term). fit (length u.bytes) u.limit ≡ true) (same-term term t (sym (here n e) ∙ stands)) fits)
        (λ (ne : n ≡ number → ⊥). right.fits n t (sym (other n ne) ∙ stands))
        (cases_eq n number);
    owing = λ n b on.
        ⊎_elim
        (λ (e : n ≡ number). (
          ap is_some (here n e),
          ⊎_elim
              (λ (l : ltb (64 * b) (length text) ≡ true). ltb-true (64 * b) (length text) l)
              (λ (l : ltb (64 * b) (length text) ≡ false).
              let was : owes i.debts n b ≡ true = sym (entered-owes n b ∙ ap (λ x. cond (eqb n number && x) true (owes i.debts n b)) l ∙ both (eqb n number) (owes i.debts n b)) ∙ on in
              (right.owing n b was).1)
              (cases_Bool (ltb (64 * b) (length text))),
        ))
        (λ (ne : n ≡ number → ⊥).
        let was = right.owing n b (sym (other-owes n b ne) ∙ on) in
        (ap is_some (other n ne) ∙ was.0, was.1))
        (cases_eq n number);
    marks = λ n s t stands below paid.
        ⊎_elim
        (λ (e : n ≡ number).
        let on : (eqb n number && ltb (64 * (s / 64)) (length text)) ≡ true = and_from (eqb n number) (ltb (64 * (s / 64)) (length text)) (eq-eqb n number e) (lt-ltb (64 * (s / 64)) (length text) (omega arith)) in
        absurd (both_ways (owes j.debts n (s / 64)) paid (entered-owes n (s / 64) ∙ ap (λ b. cond b true (owes i.debts n (s / 64))) on)))
        (λ (ne : n ≡ number → ⊥).
        ap (λ m. marked m n s) entered.marks ∙ right.marks n s t (sym (other n ne) ∙ stands) below (sym (other-owes n (s / 64) ne) ∙ paid))
        (cases_eq n number);
  }
    where
      both : (x o : Bool) → cond (x && false) true o ≡ o
      both true o = refl
      both false o = refl

module _ (fit : ℕ → ℕ → Bool) (text : List ℕ) (i j : Ledger) (number : ℕ) (short : length text ≤ 16384) (withdrawn : Withdrawn i number j) where
  gone : (n : ℕ) → n ≡ number → standing j.terms n ≡ None
  gone n e = withdrawn.terms n ∙ ap (λ b. cond b None (standing i.terms n)) (eq-eqb n number e)

  left : (n : ℕ) → (n ≡ number → ⊥) → standing j.terms n ≡ standing i.terms n
  left n ne = withdrawn.terms n ∙ ap (λ b. cond b None (standing i.terms n)) (ne_eqb n number ne)

  left-owes : (n b : ℕ) → (n ≡ number → ⊥) → owes j.debts n b ≡ owes i.debts n b
  left-owes n b ne = withdrawn.debts n b ∙ ap (λ x. cond (x && ltb b 256) false (owes i.debts n b)) (ne_eqb n number ne)

  pub withdrawn-right : Right fit text i → Right fit text j
  withdrawn-right right = record {
    fits = λ n t stands.
        ⊎_elim
        (λ (e : n ≡ number). absurd (none-some (standing j.terms n) t (gone n e) stands))
        (λ (ne : n ≡ number → ⊥). right.fits n t (sym (left n ne) ∙ stands))
        (cases_eq n number);
    owing = λ n b on.
        ⊎_elim
        (λ (e : n ≡ number).
        let at : owes j.debts n b ≡ cond (ltb b 256) false (owes i.debts n b) = withdrawn.debts n b ∙ ap (λ x. cond (x && ltb b 256) false (owes i.debts n b)) (eq-eqb n number e) in
        absurd (⊎_elim
        (λ (l : ltb b 256 ≡ true). both_ways (owes j.debts n b) (at ∙ ap (λ x. cond x false (owes i.debts n b)) l) on)
        (λ (l : ltb b 256 ≡ false).
        let was = right.owing n b (sym (at ∙ ap (λ x. cond x false (owes i.debts n b)) l) ∙ on) in
        let far : 256 ≤ b = ltb-false b 256 l in
        omega (arith, was.1))
        (cases_Bool (ltb b 256))))
        (λ (ne : n ≡ number → ⊥).
        let was = right.owing n b (sym (left-owes n b ne) ∙ on) in
        (ap is_some (left n ne) ∙ was.0, was.1))
        (cases_eq n number);
    marks = λ n s t stands below paid.
        ⊎_elim
        (λ (e : n ≡ number). absurd (none-some (standing j.terms n) t (gone n e) stands))
        (λ (ne : n ≡ number → ⊥).
        ap (λ m. marked m n s) withdrawn.marks ∙ right.marks n s t (sym (left n ne) ∙ stands) below (sym (left-owes n (s / 64) ne) ∙ paid))
        (cases_eq n number);
  }

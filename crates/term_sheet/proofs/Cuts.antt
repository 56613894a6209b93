-- A cut and a number field, byte by byte. Assumes nothing.
use Rattle.std.proofs.Common.{◌≡◌, ℕ, zero, suc, ◌+◌, ◌-◌, ◌*◌, ◌^◌, ◌<◌, ◌≤◌, true, false, cond, eqb, List, [], ◌∷◌, ◌++◌, length, get_or, take, drop, Some, None, Option, MatchOption, sym, refl, ap, ◌∙◌, ⊎_elim, subst, append_assoc, append-nil, arith, pow-add}
use Rattle.std.specs.List.{AllWithin, HoldsAt}
use Rattle.std.proofs.lemmas.List.{take_more, take_all, drop_all, drop_more}
use Rattle.std.proofs.lemmas.Bool.{eq-eqb, ne_eqb, le-leb, lt-leb, and_from, and_left, and_right, cond-true, cond-false, cases_Bool}
use Rattle.term_sheet.specs.Fields.{before, behind, is_digit, number_behind, field_value}

-- no x among the first i bytes: a cut of the bytes is a cut of what follows these
pub record Passed (x : ℕ) (bytes : List ℕ) (i : ℕ) : Type 0 where
  pub front : before x bytes ≡ take i bytes ++ before x (drop i bytes)
  pub back : behind x bytes ≡ behind x (drop i bytes)

pub passed_none : (x : ℕ) (bytes : List ℕ) → Passed x bytes 0
passed_none x bytes = record { front = refl; back = refl }

pub passed-more : (x : ℕ) (bytes : List ℕ) (i : ℕ) → i < length bytes → (get_or bytes i 0 ≡ x → ⊥) → Passed x bytes i → Passed x bytes (i + 1)
unfolding before behind
passed-more x bytes i h other p =
    let d = drop_more bytes i 0 h in
    let o = ne_eqb (get_or bytes i 0) x other in
    let f : before x (drop i bytes) ≡ get_or bytes i 0 ∷ before x (drop (i + 1) bytes) = ap (before x) d ∙ cond-false _ _ _ o in
    let b : behind x (drop i bytes) ≡ behind x (drop (i + 1) bytes) = ap (behind x) d ∙ cond-false _ _ _ o in
    record {
      front = p.front ∙ ap (λ (l : List ℕ). take i bytes ++ l) f ∙ sym (ap (λ (l : List ℕ). l ++ before x (drop (i + 1) bytes)) (take_more bytes i 0 h) ∙ append_assoc (take i bytes) (get_or bytes i 0 ∷ []) (before x (drop (i + 1) bytes)));
      back = p.back ∙ b;
    }

-- no x stands before place i
pub passed-all : (x : ℕ) (bytes : List ℕ) (i : ℕ) → i ≤ length bytes → ((k : ℕ) → k < i → (get_or bytes k 0 ≡ x → ⊥)) → Passed x bytes i
passed-all x bytes zero l none = passed_none x bytes
passed-all x bytes (suc i) l none = subst (Passed x bytes) (omega arith) (passed-more x bytes i (omega arith) (none i (omega arith)) (passed-all x bytes i (omega arith) (λ k h. none k (omega arith))))

-- where the first x stands, if there is one
abbrev pub FirstAt : ℕ → List ℕ → Option ℕ → Type 0
FirstAt x bytes r =
    MatchOption r (AllWithin (λ b. b ≡ x → ⊥) bytes 0 (length bytes)) (λ i. (i < length bytes) × HoldsAt (λ b. b ≡ x) bytes i × AllWithin (λ b. b ≡ x → ⊥) bytes 0 i)

pub first-some : (x : ℕ) (bytes : List ℕ) (r : Option ℕ) (i : ℕ) → FirstAt x bytes r → r ≡ Some i → (i < length bytes) × (get_or bytes i 0 ≡ x) × Passed x bytes i
first-some x bytes r i first is =
    let f = subst (FirstAt x bytes) is first in
    (f.0, f.1 0, passed-all x bytes i (omega (arith, f.0)) (λ k h. f.2 k 0 (omega arith) h))

pub first-none : (x : ℕ) (bytes : List ℕ) (r : Option ℕ) → FirstAt x bytes r → r ≡ None → Passed x bytes (length bytes)
first-none x bytes r first is =
    let f = subst (FirstAt x bytes) is first in
    passed-all x bytes (length bytes) (omega arith) (λ k h. f k 0 (omega arith) h)

-- at the first x
module _ (x : ℕ) (bytes : List ℕ) (i : ℕ) (h : i < length bytes) (here : get_or bytes i 0 ≡ x) (p : Passed x bytes i) where
  pub front-here : take i bytes ≡ before x bytes
  unfolding before
  front-here =
      let f : before x (drop i bytes) ≡ [] = ap (before x) (drop_more bytes i 0 h) ∙ cond-true _ _ _ (eq-eqb _ x here) in
      sym (p.front ∙ ap (λ (l : List ℕ). take i bytes ++ l) f ∙ append-nil (take i bytes))

  pub back-here : Some (drop (i + 1) bytes) ≡ behind x bytes
  unfolding behind
  back-here = sym (p.back ∙ ap (behind x) (drop_more bytes i 0 h) ∙ cond-true _ _ _ (eq-eqb _ x here))

-- with no x
module _ (x : ℕ) (bytes : List ℕ) (p : Passed x bytes (length bytes)) where
  pub front-all : bytes ≡ before x bytes
  unfolding before
  front-all =
      let t = take_all (length bytes) bytes (omega arith) in
      let d = drop_all (length bytes) bytes (omega arith) in
      sym (p.front ∙ ap (λ (l : List ℕ). l ++ before x (drop (length bytes) bytes)) t ∙ ap (λ (l : List ℕ). bytes ++ before x l) d ∙ append-nil bytes)

  pub back-all : None ≡ behind x bytes
  unfolding behind
  back-all = sym (p.back ∙ ap (behind x) (drop_all (length bytes) bytes (omega arith)))

-- a number, one byte further
module _ (n : ℕ) (bytes : List ℕ) (i : ℕ) (h : i < length bytes) where
  pub number_more : is_digit (get_or bytes i 0) ≡ true → number_behind n (drop i bytes) ≡ number_behind (n * 10 + (get_or bytes i 0 - 48)) (drop (i + 1) bytes)
  unfolding number_behind
  number_more digit = ap (number_behind n) (drop_more bytes i 0 h) ∙ cond-true _ _ _ digit

  pub number-stops : is_digit (get_or bytes i 0) ≡ false → number_behind n (drop i bytes) ≡ None
  unfolding number_behind
  number-stops other = ap (number_behind n) (drop_more bytes i 0 h) ∙ cond-false _ _ _ other

pub number-all : (n : ℕ) (bytes : List ℕ) (i : ℕ) → length bytes ≤ i → number_behind n (drop i bytes) ≡ Some n
unfolding number_behind
number-all n bytes i h = ap (number_behind n) (drop_all i bytes h)

-- a field's length decides first
pub field-within : (field : List ℕ) → 1 ≤ length field → length field ≤ 3 → field_value field ≡ number_behind 0 field
unfolding field_value
field-within field some short = cond-true _ _ _ (and_from _ _ (le-leb 1 _ some) (le-leb _ 3 short))

pub field-empty : (field : List ℕ) → length field < 1 → field_value field ≡ None
unfolding field_value
field-empty field none = cond-false _ _ _ (and_left _ _ (lt-leb 1 (length field) none))

pub field-long : (field : List ℕ) → 3 < length field → field_value field ≡ None
unfolding field_value
field-long field long = cond-false _ _ _ (and_right _ _ (lt-leb (length field) 3 long))

-- one digit more
pub number-below : (n d i : ℕ) → n < 10 ^ i → d < 10 → n * 10 + d < 10 ^ (i + 1)
number-below n d i h small = let e = pow-add 10 i 1 in omega arith

-- what a cut leaves
pub length-behind : (x : ℕ) (bytes rest : List ℕ) → behind x bytes ≡ Some rest → length (before x bytes) + length rest + 1 ≡ length bytes
unfolding before behind
length-behind x [] rest e = let z : ◌≡◌ {A = ℕ} 0 1 = cc in absurd (omega arith)
length-behind x (b ∷ bs) rest e =
    ⊎_elim
    (λ (here : eqb b x ≡ true).
    let r : bs ≡ rest = let p = cond-true (eqb b x) (Some bs) (behind x bs) here in cc in
    let f = ap length (cond-true (eqb b x) [] (b ∷ before x bs) here) in
    let l = ap length r in
    omega arith)
    (λ (other : eqb b x ≡ false).
    let h = length-behind x bs rest (sym (cond-false (eqb b x) (Some bs) (behind x bs) other) ∙ e) in
    let f = ap length (cond-false (eqb b x) [] (b ∷ before x bs) other) in
    omega arith)
    (cases_Bool (eqb b x))

pub behind-is : (x : ℕ) (bytes rest : List ℕ) → behind x bytes ≡ Some rest → rest ≡ drop (length (before x bytes) + 1) bytes
unfolding before behind
behind-is x [] rest e = let z : ◌≡◌ {A = ℕ} 0 1 = cc in absurd (omega arith)
behind-is x (b ∷ bs) rest e =
    ⊎_elim
    (λ (here : eqb b x ≡ true).
    let p = cond-true (eqb b x) (Some bs) (behind x bs) here in
    let r : bs ≡ rest = cc in
    let f = cond-true (eqb b x) [] (b ∷ before x bs) here in
    sym r ∙ sym (ap (λ (l : List ℕ). drop (length l + 1) (b ∷ bs)) f))
    (λ (other : eqb b x ≡ false).
    let h = behind-is x bs rest (sym (cond-false (eqb b x) (Some bs) (behind x bs) other) ∙ e) in
    let f = cond-false (eqb b x) [] (b ∷ before x bs) other in
    let deep : suc (length (before x bs)) + 1 ≡ suc (length (before x bs) + 1) = omega arith in
    h ∙ sym (ap (λ (l : List ℕ). drop (length l + 1) (b ∷ bs)) f ∙ ap (λ k. drop k (b ∷ bs)) deep))
    (cases_Bool (eqb b x))

pub before-le : (x : ℕ) (bytes : List ℕ) → length (before x bytes) ≤ length bytes
unfolding before
before-le x [] = omega arith
before-le x (b ∷ bs) =
    let h = before-le x bs in
    elim (eqb b x) as (λ t. length (cond t [] (b ∷ before x bs)) ≤ suc (length bs)) [ true ↦ omega arith | false ↦ omega arith ]

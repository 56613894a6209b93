-- The first place that passes. Assumes nothing.
use Rattle.std.proofs.Common.{◌≡◌, ℕ, zero, suc, ◌<◌, ◌≤◌, Bool, true, false, cond, ◌&&◌, leb, Some, None, Option, refl, sym, subst, ap, ◌∙◌, ⊎_elim, arith}
use Rattle.std.specs.Option.{option_or, MatchOption}
use Rattle.std.proofs.lemmas.Bool.{cases_lt, le-leb, lt-leb, and_left, and_right, and_from}
use Rattle.ledger.specs.Books.{first_from}

-- nothing passes
pub first_from-none : (p : ℕ → Bool) (from n : ℕ) → ((s : ℕ) → from ≤ s → s < n → p s ≡ false) → first_from p from n ≡ None
unfolding first_from
first_from-none p from zero none = refl
first_from-none p from (suc n) none =
    let before : first_from p from n ≡ None = first_from-none p from n (λ s a b. none s a (omega arith)) in
    let here : (leb from n && p n) ≡ false =
    ⊎_elim (λ (l : n < from). and_left (leb from n) (p n) (lt-leb from n l)) (λ (l : from ≤ n). and_right (leb from n) (p n) (none n l (omega arith))) (cases_lt n from) in
    ap (λ o. option_or o (cond (leb from n && p n) (Some n) None)) before ∙ ap (λ b. cond b (Some n) None) here

-- s passes, and nothing before it
pub first_from-some : (p : ℕ → Bool) (from n s : ℕ) → from ≤ s → s < n → p s ≡ true → ((t : ℕ) → from ≤ t → t < s → p t ≡ false) → first_from p from n ≡ Some s
unfolding first_from
first_from-some p from zero s low high on none = absurd (omega arith)
first_from-some p from (suc n) s low high on none =
    ⊎_elim
    (λ (l : s < n). ap (λ o. option_or o (cond (leb from n && p n) (Some n) None)) (first_from-some p from n s low l on none))
    (λ (l : n ≤ s).
    let e : n ≡ s = omega arith in
    let here : (leb from n && p n) ≡ true = and_from (leb from n) (p n) (le-leb from n (omega arith)) (ap p e ∙ on) in
    ap (λ o. option_or o (cond (leb from n && p n) (Some n) None)) (first_from-none p from n (λ t a b. none t a (omega arith)))
    ∙ ap (λ b. cond b (Some n) None) here ∙ ap Some e)
    (cases_lt s n)

-- only the places below n matter
pub first_from-same : (p q : ℕ → Bool) (from n : ℕ) → ((s : ℕ) → s < n → p s ≡ q s) → first_from p from n ≡ first_from q from n
unfolding first_from
first_from-same p q from zero same = refl
first_from-same p q from (suc n) same =
    let before = first_from-same p q from n (λ s l. same s (omega arith)) in
    let here : p n ≡ q n = same n (omega arith) in
    cc

-- what a search from `from` up to `end` found
module _ (p : ℕ → Bool) (from end : ℕ) where
  abbrev pub FoundFirst : Option ℕ → Type 0
  FoundFirst r = MatchOption r ((k : ℕ) → from ≤ k → k < end → p k ≡ false) (λ i. (from ≤ i) × (i < end) × (p i ≡ true) × ((k : ℕ) → from ≤ k → k < i → p k ≡ false))

  pub first_from-found : (r : Option ℕ) → FoundFirst r → r ≡ first_from p from end
  first_from-found None none = sym (first_from-none p from end none)
  first_from-found (Some i) (low, high, on, none) = sym (first_from-some p from end i low high on none)

  pub found-below : (r : Option ℕ) (i : ℕ) → FoundFirst r → r ≡ Some i → i < end
  found-below r i found is = (subst FoundFirst is found).1

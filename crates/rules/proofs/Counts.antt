-- How many tests pass, one test further, and after the first of those that pass are dropped. Assumes nothing.
use Rattle.std.proofs.Common.{◌≡◌, ℕ, zero, suc, ◌+◌, ◌-◌, ◌<◌, ◌≤◌, Bool, true, false, cond, ◌&&◌, eqb, leb, ◌⊎◌, sym, refl, ap, ◌∙◌, subst, inl, inr, ⊎_elim, add-one, arith}
use Rattle.std.proofs.lemmas.Bool.{cases_order, cases_lt, cases_Bool, eq-eqb, ne_eqb, le-leb, lt-leb, leb-true, leb-false, and_parts, and_right}
use Rattle.rules.specs.Words.{count, bit_of}

pub count_none : (f : ℕ → Bool) → count f 0 ≡ 0
unfolding count
count_none f = refl

pub count-more : (f : ℕ → Bool) (x : ℕ) → count f (x + 1) ≡ count f x + bit_of (f x)
unfolding count
count-more f x = rw add-one refl

pub one-true : (b : Bool) → b ≡ true → bit_of b ≡ 1
one-true b e = ap bit_of e

pub one-false : (b : Bool) → b ≡ false → bit_of b ≡ 0
one-false b e = ap bit_of e

cases-le : (a b : ℕ) → (a ≤ b) ⊎ (b < a)
cases-le a b = ⊎_elim inr inl (cases_lt b a)

-- two tests that agree
pub count_same : (f g : ℕ → Bool) → ((y : ℕ) → f y ≡ g y) → (x : ℕ) → count f x ≡ count g x
unfolding count
count_same f g h zero = refl
count_same f g h (suc x) = let e : count f x ≡ count g x = count_same f g h x in let k : bit_of (f x) ≡ bit_of (g x) = ap bit_of (h x) in omega arith

-- what is left of f after the first d that pass are dropped
abbrev pub left : (ℕ → Bool) → ℕ → ℕ → Bool
left f d x = f x && leb d (count f x)

pub count-le : (f : ℕ → Bool) (x y : ℕ) → count f x ≤ count f (x + y)
unfolding count
count-le f x zero = simp native.Mathlib.Nat.add-zero (omega arith)
count-le f x (suc y) = let h = count-le f x y in simp native.Mathlib.Nat.add-suc (omega arith)

-- past one that passes there are more
pub count-apart : (f : ℕ → Bool) (x y : ℕ) → f x ≡ true → x < y → count f x < count f y
count-apart f x y on l =
    let m = count-more f x in
    let o = one-true (f x) on in
    let e : x + 1 + (y - x - 1) ≡ y = omega arith in
    let p : count f (x + 1) ≤ count f y = subst (λ z. count f (x + 1) ≤ count f z) e (count-le f (x + 1) (y - x - 1)) in
    omega arith

-- one that passes is known by how many pass before it
pub count-tells : (f : ℕ → Bool) (x y : ℕ) → f x ≡ true → f y ≡ true → count f x ≡ count f y → x ≡ y
count-tells f x y on also same =
    ⊎_elim (λ (e : x ≡ y). e)
    (⊎_elim (λ (l : x < y). let h = count-apart f x y on l in absurd (omega arith)) (λ (l : y < x). let h = count-apart f y x also l in absurd (omega arith)))
    (cases_order x y)

-- how many are left of the first x
pub count_left : (f : ℕ → Bool) (d x : ℕ) → count (left f d) x ≡ count f x - d
unfolding count
count_left f d zero = omega arith
count_left f d (suc x) =
    let h : count (left f d) x ≡ count f x - d = count_left f d x in
    ⊎_elim
    (λ (on : f x ≡ true).
    let o : bit_of (f x) ≡ 1 = ap bit_of on in
    ⊎_elim
    (λ (l : d ≤ count f x). let p : bit_of (left f d x) ≡ 1 = ap bit_of (ap (λ b. b && leb d (count f x)) on ∙ le-leb d (count f x) l) in omega arith)
    (λ (l : count f x < d). let p : bit_of (left f d x) ≡ 0 = ap bit_of (ap (λ b. b && leb d (count f x)) on ∙ lt-leb d (count f x) l) in omega arith)
    (cases-le d (count f x)))
    (λ (off : f x ≡ false). let o : bit_of (f x) ≡ 0 = ap bit_of off in let p : bit_of (left f d x) ≡ 0 = ap bit_of (ap (λ b. b && leb d (count f x)) off) in omega arith)
    (cases_Bool (f x))

pub count-below : (f : ℕ → Bool) (x : ℕ) → ((y : ℕ) → y < x → f y ≡ false) → count f x ≡ 0
unfolding count
count-below f zero none = refl
count-below f (suc x) none =
    let h : count f x ≡ 0 = count-below f x (λ y l. none y (omega arith)) in
    let o : bit_of (f x) ≡ 0 = ap bit_of (none x (omega arith)) in omega arith

-- the next one after the first d
module _ (f : ℕ → Bool) (d x : ℕ) (on : left f d x ≡ true) (first : (y : ℕ) → y < x → left f d y ≡ false) where
  pub next-passes : f x ≡ true
  next-passes = (and_parts (f x) (leb d (count f x)) on).0

  pub next-count : count f x ≡ d
  next-count =
      let a : count (left f d) x ≡ 0 = count-below (left f d) x first in
      let b = count_left f d x in
      let c : d ≤ count f x = leb-true d (count f x) (and_parts (f x) (leb d (count f x)) on).1 in
      omega arith

  pub next-left : (y : ℕ) → cond (eqb y x) false (left f d y) ≡ left f (d + 1) y
  next-left y =
      ⊎_elim
      (λ (e : y ≡ x).
      let n = next-count in
      let m : count f y ≡ d = ap (count f) e ∙ n in
      ap (λ b. cond b false (left f d y)) (eq-eqb y x e) ∙ sym (and_right (f y) (leb (d + 1) (count f y)) (lt-leb (d + 1) (count f y) (omega arith))))
      (⊎_elim
      (λ (l : y < x).
      let e : left f d y ≡ false = first y l in
      ap (λ b. cond b false (left f d y)) (ne_eqb y x (λ q. omega arith)) ∙ e ∙ sym (fewer (f y) (count f y) e))
      (λ (l : x < y).
      let n = next-count in
      let p = count-apart f x y next-passes l in
      ap (λ b. cond b false (left f d y)) (ne_eqb y x (λ q. omega arith)) ∙ ap (λ b. f y && b) (le-leb d (count f y) (omega arith) ∙ sym (le-leb (d + 1) (count f y) (omega arith)))))
      (cases_order y x)
    where
      fewer : (b : Bool) (k : ℕ) → (b && leb d k) ≡ false → (b && leb (d + 1) k) ≡ false
      fewer true k e = let l = leb-false d k e in lt-leb (d + 1) k (omega arith)
      fewer false k e = refl

  pub next-within : (z : ℕ) → x < z → d + 1 ≤ count f z
  next-within z l = let n = next-count in let p = count-apart f x z next-passes l in omega arith

-- k tests more, as another function has them
pub count-row : (f g : ℕ → Bool) (a k : ℕ) → ((n : ℕ) → n < k → f (a + n) ≡ g n) → count f (a + k) ≡ count f a + count g k
unfolding count
count-row f g a zero h = simp native.Mathlib.Nat.add-zero refl
count-row f g a (suc k) h =
    let e : count f (a + k) ≡ count f a + count g k = count-row f g a k (λ n l. h n (omega arith)) in
    let o : bit_of (f (a + k)) ≡ bit_of (g k) = ap bit_of (h k (omega arith)) in
    simp native.Mathlib.Nat.add-suc (omega arith)

-- where none passes
pub none_passes : (f : ℕ → Bool) (x : ℕ) → count f x ≡ 0 → (y : ℕ) → y < x → f y ≡ false
none_passes f x none y below =
    ⊎_elim
    (λ (on : f y ≡ true). let p = count-apart f y x on below in absurd (omega arith))
    (λ (off : f y ≡ false). off)
    (cases_Bool (f y))

-- at most all pass
pub count_most : (f : ℕ → Bool) (x : ℕ) → count f x ≤ x
unfolding count
count_most f zero = omega arith
count_most f (suc x) =
    let h = count_most f x in
    elim (f x) as (λ b. count f x + bit_of b ≤ suc x) [ true ↦ omega arith | false ↦ omega arith ]

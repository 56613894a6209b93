-- The bits of a word with one bit set or cleared, of a table of zeros, and how many and which is the lowest. Assumes nothing.
use Rattle.std.proofs.Common.{◌≡◌, ℕ, zero, suc, ◌+◌, ◌*◌, ◌/◌, ◌%◌, ◌^◌, ◌<◌, ◌≤◌, Bool, true, false, cond, not, ◌||◌, eqb, ◌⊎◌, get_or, replicate, sym, refl, ap, ◌∙◌, inl, inr, ⊎_elim, pow-suc, arith}
use native.Mathlib.Nat.{zero-div}
use lib.Bits.{bit_or, bit_xor, or_shr, or_mod, xor_shr, xor_mod}
use lib.Count.{ones, ones_step, ones-ones, count_trailing_zeros, under}
use lib.ListN.{length-replicate}
use Rattle.std.proofs.lemmas.Nat.{one_shl, shr-shr, div_below, mod_below}
use Rattle.std.proofs.lemmas.List.{get_or-replicate, get_or_past}
use Rattle.std.proofs.lemmas.Bool.{cases_lt, cases_eq}
use Rattle.rules.specs.Words.{bit, bit_of, count}
use Rattle.rules.proofs.Words.{bit_is, word-one, bit_of-bit}
use Rattle.rules.proofs.Counts.{count-row}

two : (x : ℕ) → x < 2 → (x ≡ 0) ⊎ (x ≡ 1)
two x h = ⊎_elim inl (λ ne. inr (omega (arith, ne))) (cases_eq x 0)

or-two : (x y : ℕ) → x < 2 → y < 2 → eqb (bit_or x y) 1 ≡ (eqb x 1 || eqb y 1)
or-two x y hx hy =
    ⊎_elim
    (λ (ex : x ≡ 0). ⊎_elim (λ (ey : y ≡ 0). simp (ex, ey)) (λ (ey : y ≡ 1). simp (ex, ey)) (two y hy))
    (λ (ex : x ≡ 1). ⊎_elim (λ (ey : y ≡ 0). simp (ex, ey)) (λ (ey : y ≡ 1). simp (ex, ey)) (two y hy))
    (two x hx)

xor-two : (x y : ℕ) → x < 2 → y < 2 → eqb (bit_xor x y) 1 ≡ cond (eqb y 1) (not (eqb x 1)) (eqb x 1)
xor-two x y hx hy =
    ⊎_elim
    (λ (ex : x ≡ 0). ⊎_elim (λ (ey : y ≡ 0). simp (ex, ey)) (λ (ey : y ≡ 1). simp (ex, ey)) (two y hy))
    (λ (ex : x ≡ 1). ⊎_elim (λ (ey : y ≡ 0). simp (ex, ey)) (λ (ey : y ≡ 1). simp (ex, ey)) (two y hy))
    (two x hx)

pub bit-or : (a b j : ℕ) → bit (bit_or a b) j ≡ (bit a j || bit b j)
unfolding bit
bit-or a b j =
    let e : bit_or a b / 2 ^ j % 2 ≡ bit_or (a / 2 ^ j % 2) (b / 2 ^ j % 2) = ap (λ x. x % 2) (or_shr a b j) ∙ or_mod (a / 2 ^ j) (b / 2 ^ j) 1 in
    ap (λ x. eqb x 1) e ∙ or-two (a / 2 ^ j % 2) (b / 2 ^ j % 2) (mod_below (a / 2 ^ j) 2 (omega arith)) (mod_below (b / 2 ^ j) 2 (omega arith))

pub bit-xor : (a b j : ℕ) → bit (bit_xor a b) j ≡ cond (bit b j) (not (bit a j)) (bit a j)
unfolding bit
bit-xor a b j =
    let e : bit_xor a b / 2 ^ j % 2 ≡ bit_xor (a / 2 ^ j % 2) (b / 2 ^ j % 2) = ap (λ x. x % 2) (xor_shr a b j) ∙ xor_mod (a / 2 ^ j) (b / 2 ^ j) 1 in
    ap (λ x. eqb x 1) e ∙ xor-two (a / 2 ^ j % 2) (b / 2 ^ j % 2) (mod_below (a / 2 ^ j) 2 (omega arith)) (mod_below (b / 2 ^ j) 2 (omega arith))

-- a power of two has one bit
pub bit-pow : (n j : ℕ) → bit (2 ^ n) j ≡ eqb j n
bit-pow n j =
    let w = n + j + 1 in
    ap (λ x. bit x j) (word-one n w (omega arith)) ∙ bit_is (λ i. eqb i n) j w (omega arith)

pub bit-zero : (j : ℕ) → bit 0 j ≡ false
unfolding bit
bit-zero j = simp zero-div

or-cond : (a b : Bool) → (a || b) ≡ cond b true a
or-cond true true = refl
or-cond true false = refl
or-cond false true = refl
or-cond false false = refl

xor-cond : (a b : Bool) → cond b (not (a || b)) (a || b) ≡ cond b false a
xor-cond true true = refl
xor-cond true false = refl
xor-cond false true = refl
xor-cond false false = refl

-- `w | (1 << n)`, and without that bit again, at a width
module _ (width w n j : ℕ) (h : n < width) where
  pub bit-set : bit (bit_or w ((1 * 2 ^ n) % 2 ^ width)) j ≡ cond (eqb j n) true (bit w j)
  bit-set =
      ap (λ f. bit (bit_or w f) j) (one_shl n width h) ∙ bit-or w (2 ^ n) j ∙ ap (λ b. bit w j || b) (bit-pow n j) ∙ or-cond (bit w j) (eqb j n)

  pub bit-clear : bit (bit_xor (bit_or w ((1 * 2 ^ n) % 2 ^ width)) ((1 * 2 ^ n) % 2 ^ width)) j ≡ cond (eqb j n) false (bit w j)
  bit-clear =
      ap (λ f. bit (bit_xor (bit_or w f) f) j) (one_shl n width h) ∙ bit-xor (bit_or w (2 ^ n)) (2 ^ n) j ∙ ap (λ b. cond (bit (2 ^ n) j) (not b) b) (bit-or w (2 ^ n) j)
      ∙ ap (λ b. cond b (not (bit w j || b)) (bit w j || b)) (bit-pow n j) ∙ xor-cond (bit w j) (eqb j n)

-- a table of zeros has no bit
pub no_bits : (size i n : ℕ) → bit (get_or (replicate size 0) i 0) n ≡ false
no_bits size i n =
    let zeros : ◌≡◌ {A = ℕ} (get_or (replicate size 0) i 0) 0 =
    ⊎_elim (λ (l : i < size). get_or-replicate size i 0 0 l) (λ (l : size ≤ i). get_or_past (replicate size 0) i 0 (simp length-replicate l)) (cases_lt i size) in
    ap (λ w. bit w n) zeros ∙ bit-zero n

-- the bits of the rest of a word
pub bit-half : (x i : ℕ) → bit x (1 + i) ≡ bit (x / 2) i
unfolding bit
bit-half x i = ap (λ y. eqb (y % 2) 1) (sym (shr-shr x 1 i))

bit-low : (x : ℕ) → x % 2 ≡ bit_of (bit x 0)
bit-low x = ap (λ y. y % 2) (omega arith) ∙ bit_of-bit x 0

bit-of-zero : (b : Bool) → bit_of b ≡ 0 → b ≡ false
bit-of-zero true e = absurd (omega arith)
bit-of-zero false e = refl

bit-of-one : (b : Bool) → bit_of b ≡ 1 → b ≡ true
bit-of-one true e = refl
bit-of-one false e = absurd (omega arith)

-- how many bits are set
pub ones-count : (k x : ℕ) → x < 2 ^ k → ones x ≡ count (bit x) k
unfolding count
ones-count zero x h = ap ones (omega arith) ∙ ones-ones 0
ones-count (suc k) x h =
    let less : x / 2 < 2 ^ k = div_below x 2 (2 ^ k) (omega arith) (simp (sym (pow-suc 2 k)) h) in
    let rest : ones (x / 2) ≡ count (bit (x / 2)) k = ones-count k (x / 2) less in
    let row : count (bit x) (1 + k) ≡ count (bit x) 1 + count (bit (x / 2)) k = count-row (bit x) (bit (x / 2)) 1 k (λ i l. bit-half x i) in
    let low : x % 2 ≡ bit_of (bit x 0) = bit-low x in
    let step : ones x ≡ x % 2 + ones (x / 2) = ones_step x in
    let more : suc k ≡ 1 + k = omega arith in
    let end : count (bit x) (suc k) ≡ count (bit x) (1 + k) = ap (count (bit x)) more in
    omega arith

-- the lowest bit that is set
pub trailing_below : (k x i : ℕ) → i < count_trailing_zeros k x → bit x i ≡ false
unfolding count_trailing_zeros
trailing_below zero x i l = absurd (omega arith)
trailing_below (suc k) x i l = at i l (two (x % 2) (omega arith)) (λ j h. trailing_below k (x / 2) j h)
  where
    at : (j : ℕ) → j < count_trailing_zeros (suc k) x → (x % 2 ≡ 0) ⊎ (x % 2 ≡ 1) → ((j : ℕ) → j < count_trailing_zeros k (x / 2) → bit (x / 2) j ≡ false) → bit x j ≡ false
    at j h (inr odd) rest = let z : count_trailing_zeros (suc k) x ≡ 0 = ap (λ d. under d (count_trailing_zeros k (x / 2))) odd in absurd (omega arith)
    at zero h (inl even) rest = bit-of-zero (bit x 0) (sym (bit-low x) ∙ even)
    at (suc j) h (inl even) rest =
        let t : count_trailing_zeros (suc k) x ≡ suc (count_trailing_zeros k (x / 2)) = ap (λ d. under d (count_trailing_zeros k (x / 2))) even in
        let e : suc j ≡ 1 + j = omega arith in
        ap (bit x) e ∙ bit-half x j ∙ rest j (omega arith)

pub trailing_at : (k x : ℕ) → count_trailing_zeros k x < k → bit x (count_trailing_zeros k x) ≡ true
unfolding count_trailing_zeros
trailing_at zero x l = absurd (omega arith)
trailing_at (suc k) x l =
    let t = count_trailing_zeros k (x / 2) in
    ⊎_elim
    (λ (even : x % 2 ≡ 0).
    let z : count_trailing_zeros (suc k) x ≡ suc t = ap (λ d. under d t) even in
    let e : count_trailing_zeros (suc k) x ≡ 1 + t = omega arith in
    ap (bit x) e ∙ bit-half x t ∙ trailing_at k (x / 2) (omega arith))
    (λ (odd : x % 2 ≡ 1). ap (λ d. bit x (under d t)) odd ∙ bit-of-one (bit x 0) (sym (bit-low x) ∙ odd))
    (two (x % 2) (omega arith))

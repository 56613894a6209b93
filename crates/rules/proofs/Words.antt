-- The laws of words that are rows of tests, over the width. Assumes nothing.
use Rattle.std.proofs.Common.{◌≡◌, ℕ, zero, suc, ◌+◌, ◌-◌, ◌*◌, ◌/◌, ◌%◌, ◌^◌, ◌<◌, ◌≤◌, Bool, true, false, not, ◌&&◌, ◌||◌, eqb, ltb, leb, Decides, sym, refl, ap, ◌∙◌, subst, ⊎_elim, mod-eq_of_lt, add-mul, suc-add, one-mul, zero-add, zero-mul, arith, pow-add}
use mathlib.Core.Bool.{and_comm}
use native.Mathlib.Nat.{two-pow-succ}
use lib.Bits.{bit_and, bit_or, and_block, or_block, and_mask}
use lib.Pow.{high, low, mod-pow-add}
use Rattle.std.proofs.lemmas.Bool.Decides.{nat_tests, Decides-below_and}
use Rattle.std.proofs.lemmas.Bool.{le-leb, eq-eqb, ne_eqb, cases_lt}
use Rattle.std.proofs.lemmas.Nat.{one_shl}
use Rattle.rules.specs.Words.{bit_of, word_of, bit, all}

-- a word is below its width's power
pub word_below : (p : ℕ → Bool) (w : ℕ) → word_of p w < 2 ^ w
unfolding word_of
word_below p zero = omega arith
word_below p (suc n) =
    let h = word_below p n in
    let e : 2 ^ suc n ≡ 2 ^ n + 2 ^ n = two-pow-succ n in
    elim (p n) as (λ b. bit_of b * 2 ^ n + word_of p n < 2 ^ suc n) [ true ↦ omega arith | false ↦ omega arith ]

-- only the tests below the width matter
pub word_same : (p q : ℕ → Bool) (w : ℕ) → ((i : ℕ) → i < w → p i ≡ q i) → word_of p w ≡ word_of q w
unfolding word_of
word_same p q zero h = refl
word_same p q (suc n) h =
    let e : p n ≡ q n = h n (omega arith) in
    let f = word_same p q n (λ i l. h i (omega arith)) in
    cc

or-bit : (a b : Bool) → bit_or (bit_of a) (bit_of b) ≡ bit_of (a || b)
or-bit true true = refl
or-bit true false = refl
or-bit false b = refl

pub word-or : (p q : ℕ → Bool) (w : ℕ) → bit_or (word_of p w) (word_of q w) ≡ word_of (λ i. p i || q i) w
unfolding word_of
word-or p q zero = refl
word-or p q (suc n) =
    or_block n (bit_of (p n)) (bit_of (q n)) (word_of p n) (word_of q n) (word_below p n) (word_below q n)
    ∙ let e = or-bit (p n) (q n) in let f = word-or p q n in cc

-- no bit
pub word_none : (p : ℕ → Bool) (w : ℕ) → ((i : ℕ) → i < w → p i ≡ false) → word_of p w ≡ 0
unfolding word_of
word_none p zero h = refl
word_none p (suc n) h =
    let e : p n ≡ false = h n (omega arith) in
    let f = word_none p n (λ i l. h i (omega arith)) in
    rw (e, f) (omega arith)

-- a word in two parts
pub word_split : (p : ℕ → Bool) (k j : ℕ) → word_of p (j + k) ≡ word_of (λ i. p (i + k)) j * 2 ^ k + word_of p k
unfolding word_of
word_split p k zero = rw zero-add (omega arith)
word_split p k (suc j) =
    let h = word_split p k j in
    let f : word_of p (suc j + k) ≡ word_of p (suc (j + k)) = ap (λ n. word_of p n) (suc-add j k) in
    let e = pow-add 2 j k in
    f ∙ elim (p (j + k)) as (λ t. bit_of t * 2 ^ (j + k) + word_of p (j + k) ≡ (bit_of t * 2 ^ j + word_of (λ i. p (i + k)) j) * 2 ^ k + word_of p k)
    [ true ↦ rw (add-mul, one-mul) (omega arith) | false ↦ rw (zero-mul, zero-mul, zero-add) (omega arith) ]

-- one bit
pub word-one : (k w : ℕ) → k < w → 2 ^ k ≡ word_of (λ i. eqb i k) w
unfolding word_of
word-one k zero l = absurd (omega arith)
word-one k (suc n) l =
    ⊎_elim
    (λ h. let f : eqb n k ≡ false = ne_eqb n k (omega arith) in rw f (omega (arith, word-one k n h)))
    (λ h.
    let e : k ≡ n = omega arith in
    let f : eqb n k ≡ true = eq-eqb n k (omega arith) in
    let z = word_none (λ i. eqb i k) n (λ i b. ne_eqb i k (omega arith)) in
    let g : 2 ^ k ≡ 2 ^ n = ap (λ x. 2 ^ x) e in
    rw (f, z) (omega arith))
    (cases_lt k n)

-- the lowest bits of a word, and what lies above
pub word_low : (p : ℕ → Bool) (k w : ℕ) → k ≤ w → word_of p w % 2 ^ k ≡ word_of p k
word_low p k w l =
    let e : w ≡ (w - k) + k = omega arith in
    let s = word_split p k (w - k) in
    let f = low (word_of (λ i. p (i + k)) (w - k)) k (word_below p k) in
    ap (λ n. word_of p n % 2 ^ k) e ∙ ap (λ x. x % 2 ^ k) s ∙ f

pub word-high : (p : ℕ → Bool) (k w : ℕ) → k ≤ w → word_of p w / 2 ^ k ≡ word_of (λ i. p (i + k)) (w - k)
word-high p k w l =
    let e : w ≡ (w - k) + k = omega arith in
    let s = word_split p k (w - k) in
    let f = high (word_of (λ i. p (i + k)) (w - k)) k (word_below p k) in
    ap (λ n. word_of p n / 2 ^ k) e ∙ ap (λ x. x / 2 ^ k) s ∙ f

-- reading one bit
pub word-bit : (p : ℕ → Bool) (i w : ℕ) → i < w → word_of p w / 2 ^ i % 2 ≡ bit_of (p i)
unfolding word_of
word-bit p i w l =
    let h = word-high p i w (omega arith) in
    let m = word_low (λ j. p (j + i)) 1 (w - i) (omega arith) in
    let e : p (0 + i) ≡ p i = ap p (zero-add i) in
    ap (λ x. x % 2) h ∙ m ∙ rw e (omega arith)

one-is : (b : Bool) → eqb (bit_of b) 1 ≡ b
one-is true = refl
one-is false = refl

-- bit i of such a word
pub bit_is : (p : ℕ → Bool) (i w : ℕ) → i < w → bit (word_of p w) i ≡ p i
unfolding bit
bit_is p i w l = ap (λ x. eqb x 1) (word-bit p i w l) ∙ one-is (p i)

bit-of : (y : ℕ) → y < 2 → y ≡ bit_of (eqb y 1)
bit-of zero l = refl
bit-of (suc zero) l = refl
bit-of (suc (suc y)) l = absurd (omega arith)

pub bit_of-bit : (x i : ℕ) → x / 2 ^ i % 2 ≡ bit_of (bit x i)
unfolding bit
bit_of-bit x i = bit-of (x / 2 ^ i % 2) (omega arith)

-- every number is such a word
pub word-of-rest : (w x : ℕ) → x % 2 ^ w ≡ word_of (bit x) w
unfolding word_of
word-of-rest zero x = omega arith
word-of-rest (suc n) x =
    let h = word-of-rest n x in
    let m : x % 2 ^ (1 + n) ≡ (x / 2 ^ n % 2 ^ 1) * 2 ^ n + x % 2 ^ n = mod-pow-add x 1 n in
    let e : x % 2 ^ suc n ≡ x % 2 ^ (1 + n) = ap (λ k. x % 2 ^ k) (omega arith) in
    let b : x / 2 ^ n % 2 ≡ bit_of (bit x n) = bit_of-bit x n in
    let g : x / 2 ^ n % 2 * 2 ^ n ≡ bit_of (bit x n) * 2 ^ n = ap (λ y. y * 2 ^ n) b in
    omega arith

pub word-of-bits : (w x : ℕ) → x < 2 ^ w → x ≡ word_of (bit x) w
word-of-bits w x l = sym (mod-eq_of_lt l) ∙ word-of-rest w x

-- `w | (1 << i)`
pub word_set : (p : ℕ → Bool) (i w : ℕ) → i < w → bit_or (word_of p w) (1 * 2 ^ i % 2 ^ w) ≡ word_of (λ j. p j || eqb j i) w
word_set p i w l =
    ap (λ x. bit_or (word_of p w) x) (one_shl i w l ∙ word-one i w l) ∙ word-or p (λ j. eqb j i) w

-- `(x >> i) & 1 == 1` of any number
pub bit_test : (x i : ℕ) → eqb (bit_and (x / 2 ^ i) 1) 1 ≡ bit x i
unfolding bit
bit_test x i = ap (λ y. eqb y 1) (and_mask (x / 2 ^ i) 1)

and-bit : (a b : Bool) → bit_and (bit_of a) (bit_of b) ≡ bit_of (a && b)
and-bit true true = refl
and-bit true false = refl
and-bit false b = refl

pub word_and : (p q : ℕ → Bool) (w : ℕ) → bit_and (word_of p w) (word_of q w) ≡ word_of (λ i. p i && q i) w
unfolding word_of
word_and p q zero = refl
word_and p q (suc n) =
    and_block n (bit_of (p n)) (bit_of (q n)) (word_of p n) (word_of q n) (word_below p n) (word_below q n)
    ∙ let e = and-bit (p n) (q n) in let f = word_and p q n in cc

-- the complement at the width
pub word-not : (p : ℕ → Bool) (w : ℕ) → (2 ^ w - 1) - word_of p w ≡ word_of (λ i. not (p i)) w
unfolding word_of
word-not p zero = refl
word-not p (suc n) =
    let h = word-not p n in
    let b = word_below p n in
    let e : 2 ^ suc n ≡ 2 ^ n + 2 ^ n = two-pow-succ n in
    elim (p n) as (λ t. (2 ^ suc n - 1) - (bit_of t * 2 ^ n + word_of p n) ≡ bit_of (not t) * 2 ^ n + word_of (λ i. not (p i)) n) [ true ↦ omega arith | false ↦ omega arith ]

pub word_ones : (w : ℕ) → 2 ^ w - 1 ≡ word_of (λ _. true) w
word_ones w =
    let z = word_none (λ _. false) w (λ _ _. refl) in
    let n = word-not (λ _. false) w in
    let e : (2 ^ w - 1) - 0 ≡ word_of (λ _. true) w = subst (λ (x : ℕ). (2 ^ w - 1) - x ≡ word_of (λ _. true) w) z n in
    omega arith

-- shifted left past no end
pub word-up : (p : ℕ → Bool) (j w : ℕ) → word_of p w * 2 ^ j ≡ word_of (λ i. leb j i && p (i - j)) (w + j)
word-up p j w =
    let s = word_split (λ i. leb j i && p (i - j)) j w in
    let z = word_none (λ i. leb j i && p (i - j)) j (λ i l. grind (arith, nat_tests)) in
    let f = word_same p (λ i. leb j (i + j) && p (i + j - j)) w
    (λ i l. let e : i + j - j ≡ i = omega arith in let g : leb j (i + j) ≡ true = le-leb j (i + j) (omega arith) in rw (g, e) refl) in
    rw (s, z, ← f) (omega arith)

-- a narrower word, at a wider type
pub word-widen : (p : ℕ → Bool) (k w : ℕ) → k ≤ w → word_of p k ≡ word_of (λ i. ltb i k && p i) w
word-widen p k w l =
    let e : w ≡ (w - k) + k = omega arith in
    let q : ℕ → Bool = λ i. ltb i k && p i in
    let s : word_of q (w - k + k) ≡ word_of (λ i. q (i + k)) (w - k) * 2 ^ k + word_of q k = word_split q k (w - k) in
    let z : word_of (λ i. q (i + k)) (w - k) ≡ 0 = word_none (λ i. q (i + k)) (w - k) (λ i b. grind (arith, nat_tests)) in
    let f : word_of p k ≡ word_of q k = word_same p q k (λ i b. grind (arith, nat_tests)) in
    let g : word_of q w ≡ word_of q (w - k + k) = ap (λ n. word_of q n) e in
    let m : word_of (λ i. q (i + k)) (w - k) * 2 ^ k ≡ 0 = rw z (omega arith) in
    omega arith

-- `<<` at a type of w bits
pub word_shl : (p : ℕ → Bool) (j w : ℕ) → word_of p w * 2 ^ j % 2 ^ w ≡ word_of (λ i. leb j i && p (i - j)) w
word_shl p j w = ap (λ x. x % 2 ^ w) (word-up p j w) ∙ word_low (λ i. leb j i && p (i - j)) w (w + j) (omega arith)

-- `>>`
pub word-shr : (p : ℕ → Bool) (j w : ℕ) → j ≤ w → word_of p w / 2 ^ j ≡ word_of (λ i. ltb i (w - j) && p (i + j)) w
word-shr p j w l = word-high p j w l ∙ word-widen (λ i. p (i + j)) (w - j) w (omega arith)

-- equal words have equal tests
pub bit-same : (a b : Bool) → bit_of a ≡ bit_of b → a ≡ b
bit-same true true e = refl
bit-same true false e = absurd (omega arith)
bit-same false true e = absurd (omega arith)
bit-same false false e = refl

pub word-inj : (p q : ℕ → Bool) (w : ℕ) → word_of p w ≡ word_of q w → (i : ℕ) → i < w → p i ≡ q i
word-inj p q w e i l = bit-same (p i) (q i) (sym (word-bit p i w l) ∙ ap (λ x. x / 2 ^ i % 2) e ∙ word-bit q i w l)

pub word-clear : (p : ℕ → Bool) (i w : ℕ) → i < w → bit_and (word_of p w) ((2 ^ w - 1) - 1 * 2 ^ i % 2 ^ w) ≡ word_of (λ j. p j && not (eqb j i)) w
word-clear p i w l =
    ap (λ x. bit_and (word_of p w) ((2 ^ w - 1) - x)) (one_shl i w l ∙ word-one i w l)
    ∙ ap (λ x. bit_and (word_of p w) x) (word-not (λ j. eqb j i) w)
    ∙ word_and p (λ j. not (eqb j i)) w

-- `(w >> i) & 1`
pub word_test : (p : ℕ → Bool) (i w : ℕ) → i < w → bit_and (word_of p w / 2 ^ i) 1 ≡ bit_of (p i)
word_test p i w l = and_mask (word_of p w / 2 ^ i) 1 ∙ word-bit p i w l

-- what a tested bit says
pub bit-none : (b : Bool) → bit_of b ≡ 0 → b ≡ false
bit-none true e = absurd (omega arith)
bit-none false e = refl

pub bit-some : (b : Bool) → (bit_of b ≡ 0 → ⊥) → b ≡ true
bit-some true e = refl
bit-some false e = absurd (e refl)

-- the bits from k on: `MAX << k`
pub word-ones-up : (k w : ℕ) → (2 ^ w - 1) * 2 ^ k % 2 ^ w ≡ word_of (λ i. leb k i) w
word-ones-up k w =
    ap (λ x. x * 2 ^ k % 2 ^ w) (word_ones w) ∙ word_shl (λ _. true) k w
    ∙ word_same (λ i. leb k i && true) (λ i. leb k i) w (λ i _. grind (arith, nat_tests))

-- a test passes at each place, both ways
pub all-is : (p : ℕ → Bool) (n : ℕ) → Decides (all p n) ((k : ℕ) → k < n → p k ≡ true)
unfolding all
all-is p n = Decides-below_and p (λ k. p k ≡ true) (all p) (λ k. (λ e. e, λ e. e)) refl (λ k. and_comm (all p k) (p k)) n

pub all_none : (p : ℕ → Bool) → all p 0 ≡ true
unfolding all
all_none p = refl

pub all_more : (p : ℕ → Bool) (n : ℕ) → all p (n + 1) ≡ (all p n && p n)
unfolding all
all_more p n = rw native.Mathlib.Numerals.add-one refl

pub all_same : (p q : ℕ → Bool) (n : ℕ) → ((i : ℕ) → i < n → p i ≡ q i) → all p n ≡ all q n
unfolding all
all_same p q zero h = refl
all_same p q (suc n) h =
    let e : p n ≡ q n = h n (omega arith) in
    let f = all_same p q n (λ i l. h i (omega arith)) in
    cc

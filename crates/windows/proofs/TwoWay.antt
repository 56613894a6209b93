-- The two-way rule, over the width and the term's length. Assumes nothing.
use Rattle.std.proofs.Common.{◌≡◌, ℕ, zero, suc, ◌+◌, ◌-◌, ◌*◌, ◌/◌, ◌%◌, ◌^◌, ◌<◌, ◌≤◌, Bool, true, false, cond, not, ◌&&◌, ◌||◌, ltb, leb, List, length, get_or, sym, refl, ap, ◌∙◌, ⊎_elim, suc-add, zero-add, arith}
use mathlib.Core.Bool.{and-true}
use lib.Bits.{bit_or}
use Rattle.std.proofs.lemmas.Bool.Decides.{nat_tests, same_from_decides}
use Rattle.std.proofs.lemmas.Bool.{ltb-true, lt-ltb, le-ltb, le-leb, cases_lt, cases_Bool, and_parts, and_from, or_parts, or_from, not-true, not-false, not_from_true, not_from_false}
use Rattle.rules.specs.Words.{word_of}
use Rattle.rules.specs.Terms.{Term, occurs}
use Rattle.rules.proofs.Words.{word-or, word_shl, word-shr, word_same}
use Rattle.matchers.specs.Places.{hits, clear_row}
use Rattle.windows.specs.Windows.{low_bit, full_word, word_at, window_state}
use Rattle.matchers.proofs.Forward.{occurs-each}

-- place i of the term matches the text's byte at p; no place matches past the text's end
abbrev pub fit_at : Term → List ℕ → ℕ → ℕ → Bool
fit_at t text i p = ltb p (length text) && hits t i (get_or text p 0)

-- the word at p: bit d + i is clear where place i matches, and so are the bits below d. `fit i p`: place i matches at p
abbrev pub lane : (ℕ → ℕ → Bool) → ℕ → ℕ → ℕ → Bool
lane fit d p i = leb d i && not (fit (i - d) p)

-- the state of the window at c after j steps: the word at c, and those up to j before it and behind it, shifted to its places
unfoldable pub spread : (ℕ → ℕ → Bool) → ℕ → ℕ → ℕ → ℕ → ℕ → Bool
spread fit d w c zero i = lane fit d c i
spread fit d w c (suc j) i =
    (spread fit d w c j i || (leb (suc j) i && lane fit d (c - suc j) (i - suc j))) || (ltb i (w - suc j) && lane fit d (c + suc j) (i + suc j))

-- one step of the words
pub spread-more : (fit : ℕ → ℕ → Bool) (d w c j : ℕ) → suc j ≤ w →
    bit_or (bit_or (word_of (spread fit d w c j) w) (word_of (lane fit d (c - suc j)) w * 2 ^ suc j % 2 ^ w)) (word_of (lane fit d (c + suc j)) w / 2 ^ suc j)
    ≡ word_of (spread fit d w c (suc j)) w
unfolding spread
spread-more fit d w c j l =
    ap (λ x. bit_or (bit_or (word_of (spread fit d w c j) w) x) (word_of (lane fit d (c + suc j)) w / 2 ^ suc j)) (word_shl (lane fit d (c - suc j)) (suc j) w)
    ∙ ap (λ x. bit_or x (word_of (lane fit d (c + suc j)) w / 2 ^ suc j)) (word-or (spread fit d w c j) (λ i. leb (suc j) i && lane fit d (c - suc j) (i - suc j)) w)
    ∙ ap (λ x. bit_or (word_of (λ i. spread fit d w c j i || (leb (suc j) i && lane fit d (c - suc j) (i - suc j))) w) x) (word-shr (lane fit d (c + suc j)) (suc j) w l)
    ∙ word-or (λ i. spread fit d w c j i || (leb (suc j) i && lane fit d (c - suc j) (i - suc j))) (λ i. ltb i (w - suc j) && lane fit d (c + suc j) (i + suc j)) w

-- a set bit stays set
pub spread-stays : (fit : ℕ → ℕ → Bool) (d w c j i n : ℕ) → spread fit d w c j i ≡ true → spread fit d w c (n + j) i ≡ true
unfolding spread
spread-stays fit d w c j i zero h = rw zero-add h
spread-stays fit d w c j i (suc n) h = rw (suc-add, spread-stays fit d w c j i n h) refl

-- The rule: bit d + q of the state after j steps is clear exactly where each place within j of q matches, the text's byte at c against place q.
module _ (fit : ℕ → ℕ → Bool) (d w c m q : ℕ) (whole : d + m ≡ w) (lq : q < m) (lc : m ≤ c + 1) where
  abbrev Near : ℕ → Type 0
  Near j = (r : ℕ) → r < m → r ≤ q + j → q ≤ r + j → fit r (c + r - q) ≡ true

  near_none : spread fit d w c 0 (d + q) ≡ not (fit q c)
  unfolding spread
  near_none = let a : d + q - d ≡ q = omega arith in let b : leb d (d + q) ≡ true = le-leb d (d + q) (omega arith) in rw (a, b)

  left_is : (k : ℕ) → k ≤ q → (leb k (d + q) && lane fit d (c - k) (d + q - k)) ≡ not (fit (q - k) (c - k))
  left_is k l =
      let a : leb k (d + q) ≡ true = le-leb k (d + q) (omega arith) in
      let b : leb d (d + q - k) ≡ true = le-leb d (d + q - k) (omega arith) in
      let e : d + q - k - d ≡ q - k = omega arith in
      rw (a, b, e)

  left-none : (k : ℕ) → q < k → (leb k (d + q) && lane fit d (c - k) (d + q - k)) ≡ false
  left-none k l = grind (arith, nat_tests)

  right_is : (k : ℕ) → q + k < m → (ltb (d + q) (w - k) && lane fit d (c + k) (d + q + k)) ≡ not (fit (q + k) (c + k))
  right_is k l =
      let a : ltb (d + q) (w - k) ≡ true = lt-ltb (d + q) (w - k) (omega arith) in
      let b : leb d (d + q + k) ≡ true = le-leb d (d + q + k) (omega arith) in
      let e : d + q + k - d ≡ q + k = omega arith in
      rw (a, b, e)

  right-none : (k : ℕ) → m ≤ q + k → (ltb (d + q) (w - k) && lane fit d (c + k) (d + q + k)) ≡ false
  right-none k l = let a : ltb (d + q) (w - k) ≡ false = le-ltb (d + q) (w - k) (omega arith) in rw a

  moved : (r s p o : ℕ) → r ≡ s → p ≡ o → fit s o ≡ true → fit r p ≡ true
  moved r s p o e f h = ap (λ x. fit x p) e ∙ ap (λ x. fit s x) f ∙ h

  pub spread-clear : (j : ℕ) → spread fit d w c j (d + q) ≡ false → Near j
  unfolding spread
  spread-clear zero h r lr u v = moved r q (c + r - q) c (omega arith) (omega arith) (not-false (fit q c) (sym near_none ∙ h))
  spread-clear (suc j) h r lr u v =
      let k = suc j in
      let left = leb k (d + q) && lane fit d (c - k) (d + q - k) in
      let right = ltb (d + q) (w - k) && lane fit d (c + k) (d + q + k) in
      let both = or_parts (spread fit d w c j (d + q) || left) right h in
      let one = or_parts (spread fit d w c j (d + q)) left both.0 in
      ⊎_elim
      (λ (a : q + j < r).
      let l : q + k < m = omega arith in
      moved r (q + k) (c + r - q) (c + k) (omega arith) (omega arith) (not-false (fit (q + k) (c + k)) (sym (right_is k l) ∙ both.1)))
      (λ (a : r ≤ q + j).
      ⊎_elim
      (λ (b : r + j < q).
      let l : k ≤ q = omega arith in
      moved r (q - k) (c + r - q) (c - k) (omega arith) (omega arith) (not-false (fit (q - k) (c - k)) (sym (left_is k l) ∙ one.1)))
      (λ (b : q ≤ r + j). spread-clear j one.0 r lr a b)
      (cases_lt (r + j) q))
      (cases_lt (q + j) r)

  pub spread-near : (j : ℕ) → Near j → spread fit d w c j (d + q) ≡ false
  unfolding spread
  spread-near zero h = near_none ∙ not_from_true (fit q c) (moved q q c (c + q - q) refl (omega arith) (h q lq (omega arith) (omega arith)))
  spread-near (suc j) h =
      let k = suc j in
      let left = leb k (d + q) && lane fit d (c - k) (d + q - k) in
      let right = ltb (d + q) (w - k) && lane fit d (c + k) (d + q + k) in
      or_from (spread fit d w c j (d + q) || left) right
      (or_from (spread fit d w c j (d + q)) left
      (spread-near j (λ r lr u v. h r lr (omega arith) (omega arith)))
      (⊎_elim
      (λ (l : q < k). left-none k l)
      (λ (l : k ≤ q). left_is k l ∙ not_from_true (fit (q - k) (c - k)) (moved (q - k) (q - k) (c - k) (c + (q - k) - q) refl (omega arith) (h (q - k) (omega arith) (omega arith) (omega arith))))
      (cases_lt q k)))
      (⊎_elim
      (λ (l : q + k < m). right_is k l ∙ not_from_true (fit (q + k) (c + k)) (moved (q + k) (q + k) (c + k) (c + (q + k) - q) refl (omega arith) (h (q + k) l (omega arith) (omega arith))))
      (λ (l : m ≤ q + k). right-none k l)
      (cases_lt (q + k) m))

-- after m - 1 steps a clear bit is an occurrence
pub window-occurs : (t : Term) (text : List ℕ) (d w c m q : ℕ) → d + m ≡ w → q < m → m ≤ c + 1 → m ≡ length t.bytes →
    not (spread (fit_at t text) d w c (m - 1) (d + q)) ≡ occurs t text (c - q)
window-occurs t text d w c m q whole lq lc e =
    let s = spread (fit_at t text) d w c (m - 1) (d + q) in
    let o = occurs-each t text (c - q) in
    same_from_decides (not s) (occurs t text (c - q)) (
      (λ h. spread-clear (fit_at t text) d w c m q whole lq lc (m - 1) (not-true s h)),
      (λ h. not_from_false s (spread-near (fit_at t text) d w c m q whole lq lc (m - 1) h)),
    ) (
      (λ h. let g = o.0 h in
          λ r lr u v.
          let f : c + r - q ≡ c - q + r = omega arith in
          let b : ltb (c + r - q) (length text) ≡ true = lt-ltb (c + r - q) (length text) (omega (arith, g.0)) in
          and_from (ltb (c + r - q) (length text)) (hits t r (get_or text (c + r - q) 0)) b
          (ap (λ x. hits t r (get_or text x 0)) f ∙ g.1 r (omega arith))),
      (λ h. o.1 (
        (let a = and_parts (ltb (c + (m - 1) - q) (length text)) (hits t (m - 1) (get_or text (c + (m - 1) - q) 0)) (h (m - 1) (omega arith) (omega arith) (omega arith)) in
            omega (arith, ltb-true (c + (m - 1) - q) (length text) a.0)),
        λ r lr.
            let f : c - q + r ≡ c + r - q = omega arith in
            ap (λ x. hits t r (get_or text x 0)) f
            ∙ (and_parts (ltb (c + r - q) (length text)) (hits t r (get_or text (c + r - q) 0)) (h r (omega arith) (omega arith) (omega arith))).1,
      )),
    )

-- the word at a place, as a row of places
word_lane : (t : Term) (text : List ℕ) (p : ℕ) → word_at t text p ≡ word_of (lane (fit_at t text) (low_bit t) p) 64
word_lane t text p = ⊎_elim
    (λ (e : ltb p (length text) ≡ true).
    ap (λ b. cond b (clear_row t (low_bit t) (get_or text p 0)) (full_word (low_bit t))) e
    ∙ word_same (λ j. leb (low_bit t) j && not (hits t (j - low_bit t) (get_or text p 0))) (lane (fit_at t text) (low_bit t) p) 64
    (λ j _. ap (λ b. leb (low_bit t) j && not (b && hits t (j - low_bit t) (get_or text p 0))) (sym e)))
    (λ (e : ltb p (length text) ≡ false).
    ap (λ b. cond b (clear_row t (low_bit t) (get_or text p 0)) (full_word (low_bit t))) e
    ∙ word_same (λ j. leb (low_bit t) j) (lane (fit_at t text) (low_bit t) p) 64
    (λ j _. sym (ap (λ b. leb (low_bit t) j && not (b && hits t (j - low_bit t) (get_or text p 0))) e ∙ and-true (leb (low_bit t) j))))
    (cases_Bool (ltb p (length text)))

-- what the states of a window say
pub window-spreads : (t : Term) (text : List ℕ) (c j : ℕ) → j ≤ 64 → window_state t text c j ≡ word_of (spread (fit_at t text) (low_bit t) 64 c j) 64
unfolding spread
window-spreads t text c zero l = word_lane t text c
window-spreads t text c (suc j) l =
    ap (λ x. bit_or (bit_or x (word_at t text (c - suc j) * 2 ^ suc j % 2 ^ 64)) (word_at t text (c + suc j) / 2 ^ suc j)) (window-spreads t text c j (omega arith))
    ∙ ap (λ x. bit_or (bit_or (word_of (spread (fit_at t text) (low_bit t) 64 c j) 64) (x * 2 ^ suc j % 2 ^ 64)) (word_at t text (c + suc j) / 2 ^ suc j)) (word_lane t text (c - suc j))
    ∙ ap (λ x. bit_or (bit_or (word_of (spread (fit_at t text) (low_bit t) 64 c j) 64) (word_of (lane (fit_at t text) (low_bit t) (c - suc j)) 64 * 2 ^ suc j % 2 ^ 64)) (x / 2 ^ suc j)) (word_lane t text (c + suc j))
    ∙ spread-more (fit_at t text) (low_bit t) 64 c j l

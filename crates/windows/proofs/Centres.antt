-- From a window's state to the starts that it settles, and from centre to centre. Assumes nothing.
use Rattle.std.proofs.Common.{◌≡◌, ℕ, ◌+◌, ◌-◌, ◌*◌, ◌/◌, ◌%◌, ◌^◌, ◌<◌, ◌≤◌, Bool, true, false, not, ◌&&◌, ◌||◌, eqb, ltb, leb, ◌⊎◌, List, length, min, refl, inl, inr, sym, ap, ◌∙◌, subst, ⊎_elim, arith}
use mathlib.Core.Bool.{not-not}
use lib.Bits.{bit_and, bit_or, and_mask}
use Rattle.std.proofs.lemmas.Bool.Decides.{nat_tests}
use Rattle.std.proofs.lemmas.Bool.{cases_lt, cases_eq, cases_Bool, le-leb, and_parts, eq-eqb, ne_eqb, eqb-true}
use Rattle.rules.specs.Words.{word_of, bit}
use Rattle.rules.specs.Terms.{Term, occurs, scanned}
use Rattle.rules.proofs.Words.{word_and, word_same, word-inj, word_set, word-of-bits, bit_is}
use Rattle.rules.proofs.Occurs.{occurs-ends}
use Rattle.windows.specs.Windows.{low_bit, full_word, is_full, window_state, window_marked}
use Rattle.matchers.proofs.Marking.{marked_below}
use Rattle.windows.proofs.TwoWay.{fit_at, spread, spread-stays, window-occurs, window-spreads}

-- `(x >> k) & 1` of any number
bit-zero : (x k : ℕ) → bit_and (x / 2 ^ k) 1 ≡ 0 → bit x k ≡ false
unfolding bit
bit-zero x k h = ne_eqb (x / 2 ^ k % 2) 1 (omega (arith, and_mask (x / 2 ^ k) 1))

bit-nonzero : (x k : ℕ) → (bit_and (x / 2 ^ k) 1 ≡ 0 → ⊥) → bit x k ≡ true
unfolding bit
bit-nonzero x k h = eq-eqb (x / 2 ^ k % 2) 1 (omega (arith, and_mask (x / 2 ^ k) 1))

-- each of the m bits says whether the term occurs at its start
abbrev pub Settled : Term → List ℕ → ℕ → ℕ → ℕ → Type 0
Settled t text m c state = (q : ℕ) → q < m → bit state (64 - m + q) ≡ not (occurs t text (c - q))

module _ (t : Term) (text : List ℕ) (m c state : ℕ) (some : 0 < m) (few : m ≤ 64) (long : m ≡ length t.bytes) (lc : m ≤ c + 1) where
  bit_at : (q : ℕ) → bit state (64 - m + q) ≡ bit state (low_bit t + q)
  bit_at q = ap (λ k. bit state (64 - k + q)) long

  -- after the last step
  pub settled-end : state ≡ window_state t text c (m - 1) → Settled t text m c state
  settled-end is q l =
      let d = low_bit t in
      let e = is ∙ window-spreads t text c (m - 1) (omega arith) in
      let s = spread (fit_at t text) d 64 c (m - 1) in
      bit_at q ∙ ap (λ x. bit x (d + q)) e ∙ bit_is s (d + q) 64 (omega arith)
      ∙ sym (not-not (s (d + q))) ∙ ap not (window-occurs t text d 64 c m q (omega arith) l lc long)

  -- as soon as all m bits are set
  pub settled-full : (j : ℕ) → j ≤ m - 1 → state ≡ window_state t text c j → bit_and state (full_word (low_bit t)) ≡ full_word (low_bit t) → Settled t text m c state
  settled-full j lj is h q l =
      let d = low_bit t in
      let e = is ∙ window-spreads t text c j (omega arith) in
      let s = spread (fit_at t text) d 64 c in
      let both : word_of (λ i. s j i && leb d i) 64 ≡ word_of (λ i. leb d i) 64 =
      sym (word_and (s j) (λ i. leb d i) 64) ∙ ap (λ x. bit_and x (word_of (λ i. leb d i) 64)) (sym e) ∙ h in
      let at : (s j (d + q) && leb d (d + q)) ≡ leb d (d + q) = word-inj (λ i. s j i && leb d i) (λ i. leb d i) 64 both (d + q) (omega arith) in
      let up : leb d (d + q) ≡ true = le-leb d (d + q) (omega arith) in
      let now : s j (d + q) ≡ true = (and_parts (s j (d + q)) (leb d (d + q)) (at ∙ up)).0 in
      let n : m - 1 - j + j ≡ m - 1 = omega arith in
      let last : s (m - 1) (d + q) ≡ true = subst (λ (n : ℕ). s n (d + q) ≡ true) n (spread-stays (fit_at t text) d 64 c j (d + q) (m - 1 - j) now) in
      bit_at q ∙ ap (λ x. bit x (d + q)) e ∙ bit_is (s j) (d + q) 64 (omega arith) ∙ now
      ∙ sym last ∙ sym (not-not (s (m - 1) (d + q))) ∙ ap not (window-occurs t text d 64 c m q (omega arith) l lc long)

  -- the starts of a window, after those before it
  pub decided-more : (word : ℕ) → word ≡ marked_below (occurs t text) (c + 1 - m) → Settled t text m c state → window_marked word state m c m ≡ marked_below (occurs t text) (c + 1)
  decided-more word e h =
      word_same (λ s. bit word s || (leb s c && (ltb (c - s) m && not (bit state (64 - m + (c - s)))))) (λ s. ltb s (c + 1) && occurs t text s) 64
      (λ s l. let old : bit word s ≡ (ltb s (c + 1 - m) && occurs t text s) = ap (λ x. bit x s) e ∙ bit_is (λ s. ltb s (c + 1 - m) && occurs t text s) s 64 l in
      ⊎_elim
      (λ (a : c < s). grind (arith, nat_tests, cases_Bool (occurs t text s)))
      (λ (a : s ≤ c). ⊎_elim
      (λ (b : c - s < m).
      let back : c - (c - s) ≡ s = omega arith in
      let f : bit state (64 - m + (c - s)) ≡ not (occurs t text s) = h (c - s) b ∙ ap (λ k. not (occurs t text k)) back in
      grind (arith, nat_tests, cases_Bool (occurs t text s)))
      (λ (b : m ≤ c - s). grind (arith, nat_tests, cases_Bool (occurs t text s)))
      (cases_lt (c - s) m))
      (cases_lt c s))

pub decided-all : (t : Term) (text : List ℕ) (m c : ℕ) → 0 < m → m ≡ length t.bytes → (length text ≤ c) ⊎ (63 < c + 1 - m) → m ≤ c + 1 → marked_below (occurs t text) (c + 1 - m) ≡ scanned t text
decided-all t text m c z e h lc =
    word_same (λ s. ltb s (c + 1 - m) && occurs t text s) (occurs t text) 64
    (λ s l. ⊎_elim
    (λ (y : occurs t text s ≡ true). let f = occurs-ends t text s y in grind (arith, nat_tests, h, e))
    (λ (y : occurs t text s ≡ false). grind (arith, nat_tests))
    (cases_Bool (occurs t text s)))

-- past the last centre
pub decided-end : (t : Term) (text : List ℕ) (c : ℕ) → 0 < length t.bytes → min (length text) (63 + length t.bytes) ≤ c → length t.bytes ≤ c + 1 →
    marked_below (occurs t text) (c + 1 - length t.bytes) ≡ scanned t text
decided-end t text c some end lc =
    decided-all t text (length t.bytes) c some refl (⊎_elim (λ (l : c < length text). inr (omega arith)) (λ (l : length text ≤ c). inl l) (cases_lt c (length text))) lc

-- a window whose steps are at their end, or that was left before
pub decided-window : (t : Term) (text : List ℕ) (c j word state marked : ℕ) → 0 < length t.bytes → length t.bytes ≤ 64 → length t.bytes ≤ c + 1 → j ≤ length t.bytes →
    state ≡ window_state t text c (j - 1) → (length t.bytes ≤ j) ⊎ (is_full t state ≡ true) → word ≡ marked_below (occurs t text) (c + 1 - length t.bytes) →
    marked ≡ window_marked word state (length t.bytes) c (length t.bytes) → marked ≡ marked_below (occurs t text) (c + 1)
decided-window t text c j word state marked some few lc lj is ends w e =
    let m = length t.bytes in
    e ∙ decided-more t text m c state some few refl lc word w
    (⊎_elim
    (λ (l : m ≤ j). settled-end t text m c state some few refl lc (let last : j - 1 ≡ m - 1 = omega arith in is ∙ ap (window_state t text c) last))
    (λ (full : is_full t state ≡ true). settled-full t text m c state some few refl lc (j - 1) (omega arith) is (eqb-true _ _ full)) ends)

-- the loop over the bits of a window
pub window-none : (word state m c : ℕ) → word < 2 ^ 64 → word ≡ window_marked word state m c 0
window-none word state m c l = word-of-bits 64 word l
    ∙ word_same (bit word) (λ s. bit word s || (leb s c && (ltb (c - s) 0 && not (bit state (64 - m + (c - s)))))) 64 (λ s _. grind (arith, nat_tests, cases_Bool (bit word s)))

pub window-hit : (word state m c q : ℕ) → q ≤ c → c - q < 64 → bit_and (state / 2 ^ (64 - m + q)) 1 ≡ 0 →
    bit_or (window_marked word state m c q) (1 * 2 ^ (c - q) % 2 ^ 64) ≡ window_marked word state m c (q + 1)
window-hit word state m c q lq l h =
    let b : ℕ → Bool = λ s. bit state (64 - m + (c - s)) in
    word_set (λ s. bit word s || (leb s c && (ltb (c - s) q && not (b s)))) (c - q) 64 l
    ∙ word_same (λ s. (bit word s || (leb s c && (ltb (c - s) q && not (b s)))) || eqb s (c - q)) (λ s. bit word s || (leb s c && (ltb (c - s) (q + 1) && not (b s)))) 64
    (λ s _. ⊎_elim
    (λ (e : s ≡ c - q).
    let back : c - s ≡ q = omega arith in
    let f : b s ≡ false = ap (λ k. bit state (64 - m + k)) back ∙ bit-zero state (64 - m + q) h in
    grind (arith, nat_tests, cases_Bool (bit word s)))
    (λ (e : s ≡ c - q → ⊥). grind (arith, nat_tests, cases_Bool (bit word s), cases_Bool (b s)))
    (cases_eq s (c - q)))

pub window-miss : (word state m c q : ℕ) → q ≤ c → ((bit_and (state / 2 ^ (64 - m + q)) 1 ≡ 0 → ⊥) ⊎ (63 < c - q)) →
    window_marked word state m c q ≡ window_marked word state m c (q + 1)
window-miss word state m c q lq h =
    let b : ℕ → Bool = λ s. bit state (64 - m + (c - s)) in
    word_same (λ s. bit word s || (leb s c && (ltb (c - s) q && not (b s)))) (λ s. bit word s || (leb s c && (ltb (c - s) (q + 1) && not (b s)))) 64
    (λ s l. ⊎_elim
    (λ (e : s ≡ c - q).
    let back : c - s ≡ q = omega arith in
    ⊎_elim
    (λ (n : bit_and (state / 2 ^ (64 - m + q)) 1 ≡ 0 → ⊥).
    let f : b s ≡ true = ap (λ k. bit state (64 - m + k)) back ∙ bit-nonzero state (64 - m + q) n in
    grind (arith, nat_tests, cases_Bool (bit word s)))
    (λ (n : 63 < c - q). absurd (omega arith)) h)
    (λ (e : s ≡ c - q → ⊥). grind (arith, nat_tests, cases_Bool (bit word s), cases_Bool (b s)))
    (cases_eq s (c - q)))

-- The packing law, over the group: three bytes, four codes, and back. Assumes nothing.
use Rattle.std.specs.Prelude.{◌≡◌, ℕ, zero, suc, ◌+◌, ◌-◌, ◌*◌, ◌/◌, ◌%◌, ◌^◌, ◌<◌, ◌≤◌, min, cond, List, length, take, drop, ◌==◌, ◌≢◌, slice_index, slice_index_or, slice_set, refl}
use Rattle.std.proofs.Common.{sym, ap, ◌∙◌, subst, ⊎_elim, arith, length-set, length-take, length-drop}
use Rattle.std.proofs.lemmas.List.FromFn.{length-map-range_with_len, get_or-map-range_with_len}
use Rattle.std.proofs.lemmas.List.{get_or-set_same, get_or-set_other, get_or-take, get_or-drop, ext_get_or}
use Rattle.std.proofs.lemmas.Bool.{cases_eq, eq-eqb, ne_eqb}
use Rattle.std.proofs.lemmas.Bool.Decides.{nat_tests}
use Rattle.galleys.specs.SixBit.{six_shown}
use Rattle.galleys.specs.Packing.{group, code_in, recoded_group, code_at, characters, six_length, code_text, Recoded}

-- the code as it is read by a shift
pub code-shifted : (v g r : ℕ) → v ≡ g → v / 2 ^ (18 - 6 * r) % 64 ≡ code_in g r
unfolding code_in
code-shifted v g r e = ap (λ x. x / 2 ^ (18 - 6 * r) % 64) e

-- what holds of each of a group's four codes
four : (P : ℕ → Type 0) → P 0 → P 1 → P 2 → P 3 → (r : ℕ) → r < 4 → P r
four P a b c d zero l = a
four P a b c d (suc zero) l = b
four P a b c d (suc (suc zero)) l = c
four P a b c d (suc (suc (suc zero))) l = d
four P a b c d (suc (suc (suc (suc r)))) l = absurd (omega arith)

-- one code is made c, and the others stay
pub code-recoded : (v c : ℕ) → v < 16777216 → c < 64 → (r : ℕ) → r < 4 → (q : ℕ) → q < 4 → code_in (recoded_group v r c) q ≡ cond (q == r) c (code_in v q)
unfolding code_in recoded_group
code-recoded v c lv lc =
    four (λ r. (q : ℕ) → q < 4 → code_in (recoded_group v r c) q ≡ cond (q == r) c (code_in v q))
    (four (λ q. code_in (recoded_group v 0 c) q ≡ cond (q == 0) c (code_in v q)) (omega arith) (omega arith) (omega arith) (omega arith))
    (four (λ q. code_in (recoded_group v 1 c) q ≡ cond (q == 1) c (code_in v q)) (omega arith) (omega arith) (omega arith) (omega arith))
    (four (λ q. code_in (recoded_group v 2 c) q ≡ cond (q == 2) c (code_in v q)) (omega arith) (omega arith) (omega arith) (omega arith))
    (four (λ q. code_in (recoded_group v 3 c) q ≡ cond (q == 3) c (code_in v q)) (omega arith) (omega arith) (omega arith) (omega arith))

pub recoded-below : (v c : ℕ) → v < 16777216 → c < 64 → (r : ℕ) → r < 4 → recoded_group v r c < 16777216
unfolding code_in recoded_group
recoded-below v c lv lc = four (λ r. recoded_group v r c < 16777216) (omega arith) (omega arith) (omega arith) (omega arith)

-- by shifts: the old code out, the new one in
abbrev pub Shifts : ℕ → ℕ → ℕ → Type 0
Shifts v c r =
    let p = 2 ^ (18 - 6 * r) in
    (v / p % 64 * p % 2 ^ 32 ≤ v) × (v - v / p % 64 * p % 2 ^ 32 + c * p % 2 ^ 32 < 2 ^ 32) × (v - v / p % 64 * p % 2 ^ 32 + c * p % 2 ^ 32 ≡ recoded_group v r c)

pub shifts : (v c : ℕ) → v < 16777216 → c < 64 → (r : ℕ) → r < 4 → Shifts v c r
unfolding code_in recoded_group
shifts v c lv lc = four (Shifts v c)
    (omega arith, omega arith, omega arith) (omega arith, omega arith, omega arith) (omega arith, omega arith, omega arith) (omega arith, omega arith, omega arith)

-- a group's bytes
pub bytes_of : (v : ℕ) → v < 16777216 → v / 65536 * 65536 + (v / 256 % 256 * 256 + v % 256) ≡ v
bytes_of v l = omega arith

-- one byte of a list after a write
set_at : (xs : List ℕ) (i x k : ℕ) → i < length xs → slice_index (slice_set xs i x) k ≡ cond (k == i) x (slice_index xs k)
set_at xs i x k l = ⊎_elim
    (λ (e : k ≡ i). ap (λ j. slice_index (slice_set xs i x) j) e ∙ get_or-set_same xs i x 0 l ∙ sym (ap (λ b. cond b x (slice_index xs k)) (eq-eqb k i e)))
    (λ (d : k ≡ i → ⊥). get_or-set_other xs i k x 0 d ∙ sym (ap (λ b. cond b x (slice_index xs k)) (ne_eqb k i d)))
    (cases_eq k i)

-- the buffer with the three bytes of a group written
abbrev pub written : List ℕ → ℕ → ℕ → ℕ → ℕ → List ℕ
written buffer g a b c = slice_set (slice_set (slice_set buffer (3 * g) a) (3 * g + 1) b) (3 * g + 2) c

module _ (buffer : List ℕ) (g a b c : ℕ) (l : 3 * g + 2 < length buffer) where
  written_at : (k : ℕ) → slice_index (written buffer g a b c) k ≡ cond (k == 3 * g + 2) c (cond (k == 3 * g + 1) b (cond (k == 3 * g) a (slice_index buffer k)))
  written_at k =
      let n = length-set buffer (3 * g) a in
      let m = length-set (slice_set buffer (3 * g) a) (3 * g + 1) b in
      set_at (slice_set (slice_set buffer (3 * g) a) (3 * g + 1) b) (3 * g + 2) c k (omega arith)
      ∙ ap (cond (k == 3 * g + 2) c) (set_at (slice_set buffer (3 * g) a) (3 * g + 1) b k (omega arith)
      ∙ ap (cond (k == 3 * g + 1) b) (set_at buffer (3 * g) a k (omega arith)))

  pub length-written : length (written buffer g a b c) ≡ length buffer
  length-written = length-set (slice_set (slice_set buffer (3 * g) a) (3 * g + 1) b) (3 * g + 2) c ∙ length-set (slice_set buffer (3 * g) a) (3 * g + 1) b ∙ length-set buffer (3 * g) a

  written_same : group (written buffer g a b c) g ≡ a * 65536 + (b * 256 + c)
  written_same =
      let x : slice_index_or (written buffer g a b c) (3 * g) 0 ≡ a = written_at (3 * g) ∙ grind (arith, nat_tests) in
      let y : slice_index_or (written buffer g a b c) (3 * g + 1) 0 ≡ b = written_at (3 * g + 1) ∙ grind (arith, nat_tests) in
      let z : slice_index_or (written buffer g a b c) (3 * g + 2) 0 ≡ c = written_at (3 * g + 2) ∙ grind (arith, nat_tests) in
      rw (x, y, z)

  written-other : (k : ℕ) → (k ≢ 3 * g) → (k ≢ 3 * g + 1) → (k ≢ 3 * g + 2) → slice_index (written buffer g a b c) k ≡ slice_index buffer k
  written-other k x y z = written_at k ∙ grind (arith, nat_tests)

  written-group : (h : ℕ) → (h ≢ g) → group (written buffer g a b c) h ≡ group buffer h
  written-group h d =
      let x = written-other (3 * h) (omega arith) (omega arith) (omega arith) in
      let y = written-other (3 * h + 1) (omega arith) (omega arith) (omega arith) in
      let z = written-other (3 * h + 2) (omega arith) (omega arith) (omega arith) in
      rw (x, y, z)

-- the three bytes of a group in which one code was made another, written back
pub recoded-written : (old : List ℕ) (at c v : ℕ) → at < characters (length old) → c < 64 → group old (at / 4) < 16777216 → v ≡ recoded_group (group old (at / 4)) (at % 4) c →
    Recoded old at c (written old (at / 4) (v / 65536) (v / 256 % 256) (v % 256))
recoded-written old at c v l lc lv e =
    let g = at / 4 in
    let w = written old g (v / 65536) (v / 256 % 256) (v % 256) in
    let room : 3 * g + 2 < length old = omega arith in
    let below : v < 16777216 = subst (λ x. x < 16777216) (sym e) (recoded-below (group old g) c lv lc (at % 4) (omega arith)) in
    let here : group w g ≡ v = written_same old g (v / 65536) (v / 256 % 256) (v % 256) room ∙ bytes_of v below in
    record {
      long = length-written old g (v / 65536) (v / 256 % 256) (v % 256) room;
      codes = λ p lp. ⊎_elim
          (λ (s : p / 4 ≡ g).
          ap (λ h. code_in (group w h) (p % 4)) s ∙ ap (λ x. code_in x (p % 4)) (here ∙ e)
          ∙ code-recoded (group old g) c lv lc (at % 4) (omega arith) (p % 4) (omega arith)
          ∙ ap (λ b. cond b c (code_in (group old g) (p % 4))) (same_test p at s)
          ∙ ap (λ h. cond (p == at) c (code_in (group old h) (p % 4))) (sym s))
          (λ (d : p / 4 ≡ g → ⊥).
          ap (λ x. code_in x (p % 4)) (written-group old g (v / 65536) (v / 256 % 256) (v % 256) room (p / 4) d)
          ∙ sym (ap (λ b. cond b c (code_at old p)) (ne_eqb p at (λ q. d (ap (λ x. x / 4) q)))))
          (cases_eq (p / 4) g);
      rest = λ i li. written-other old g (v / 65536) (v / 256 % 256) (v % 256) room i (omega arith) (omega arith) (omega arith);
    }
  where
    same_test : (p q : ℕ) → p / 4 ≡ q / 4 → (p % 4 == q % 4) ≡ (p == q)
    same_test p q s = ⊎_elim
        (λ (e : p ≡ q). eq-eqb (p % 4) (q % 4) (ap (λ x. x % 4) e) ∙ sym (eq-eqb p q e))
        (λ (d : p ≡ q → ⊥). ne_eqb (p % 4) (q % 4) (λ e. d (omega arith)) ∙ sym (ne_eqb p q d))
        (cases_eq p q)

-- the text after a code was made another
pub text-recoded : (old new : List ℕ) (at c : ℕ) → at < six_length old → Recoded old at c new → code_text new 0 (six_length new) ≡ slice_set (code_text old 0 (six_length old)) at (32 + c)
text-recoded old new at c l r =
    let n = six_length old in
    let f : ℕ → ℕ = λ p. 32 + code_at new p in
    let h : ℕ → ℕ = λ p. 32 + code_at old p in
    let m : six_length new ≡ n = ap (λ k. min (characters k) 16384) r.long in
    let u = length-map-range_with_len h 0 n in
    let k = length-map-range_with_len f 0 n in
    ap (code_text new 0) m
    ∙ ext_get_or 0 (code_text new 0 n) (slice_set (code_text old 0 n) at (32 + c)) (k ∙ sym (length-set (code_text old 0 n) at (32 + c) ∙ u))
    (λ p lp.
    let b : p < n = omega arith in
    get_or-map-range_with_len f 0 n p p 0 b (omega arith) ∙ ap (λ x. 32 + x) (r.codes p (omega arith))
    ∙ ⊎_elim
    (λ (e : p ≡ at).
    ap (λ t. 32 + cond t c (code_at old p)) (eq-eqb p at e) ∙ sym (ap (λ k. slice_index (slice_set (code_text old 0 n) at (32 + c)) k) e ∙ get_or-set_same (code_text old 0 n) at (32 + c) 0 (omega arith)))
    (λ (d : p ≡ at → ⊥).
    ap (λ t. 32 + cond t c (code_at old p)) (ne_eqb p at d) ∙ sym (get_or-set_other (code_text old 0 n) at p (32 + c) 0 d ∙ get_or-map-range_with_len h 0 n p p 0 b (omega arith)))
    (cases_eq p at))

pub length-text : (buffer : List ℕ) (at l : ℕ) → length (code_text buffer at l) ≡ l
length-text buffer at l = length-map-range_with_len (λ p. 32 + code_at buffer p) at l

-- a part of the text
pub text-part : (buffer : List ℕ) (at l n : ℕ) → at + l ≤ n → code_text buffer at l ≡ take l (drop at (code_text buffer 0 n))
text-part buffer at l n h =
    let f : ℕ → ℕ = λ p. 32 + code_at buffer p in
    let whole = length-map-range_with_len f 0 n in
    let part = length-map-range_with_len f at l in
    let rest = length-drop at (code_text buffer 0 n) in
    let size : length (take l (drop at (code_text buffer 0 n))) ≡ l = length-take l (drop at (code_text buffer 0 n)) ∙ omega arith in
    ext_get_or 0 (code_text buffer at l) (take l (drop at (code_text buffer 0 n))) (part ∙ sym size)
    (λ p lp.
    let b : p < l = omega arith in
    get_or-map-range_with_len f at l p (at + p) 0 b refl
    ∙ sym (get_or-take l (drop at (code_text buffer 0 n)) p 0 b ∙ get_or-drop at (code_text buffer 0 n) p 0 ∙ get_or-map-range_with_len f 0 n (at + p) (at + p) 0 (omega arith) (omega arith)))

-- filled character by character
pub text-filled : (buffer : List ℕ) (at : ℕ) (xs : List ℕ) → ((k : ℕ) → k < length xs → slice_index xs k ≡ 32 + code_at buffer (at + k)) → xs ≡ code_text buffer at (length xs)
text-filled buffer at xs h =
    let f : ℕ → ℕ = λ p. 32 + code_at buffer p in
    ext_get_or 0 xs (code_text buffer at (length xs)) (sym (length-map-range_with_len f at (length xs)))
    (λ k l. h k l ∙ sym (get_or-map-range_with_len f at (length xs) k (at + k) 0 l refl))

-- what is shown has a code
pub shown-coded : (b : ℕ) → (32 ≤ six_shown b) × (six_shown b < 96)
shown-coded b = (grind (arith, nat_tests), grind (arith, nat_tests))

-- An occurrence depends on the bytes of its stretch alone. Assumes nothing.
use Rattle.std.proofs.Common.{◌≡◌, ℕ, zero, suc, ◌+◌, ◌-◌, ◌<◌, ◌≤◌, true, false, ◌&&◌, eqb, leb, ◌⊎◌, List, length, get_or, take, drop, Decides, sym, ap, ◌∙◌, ⊎_elim, arith}
use Rattle.std.proofs.lemmas.List.{ext_get_or, get_or-take, get_or-drop, length-take, length-drop}
use Rattle.std.proofs.lemmas.Bool.{leb-true, le-leb, lt-leb, and_left, and_right, cases_Bool, eqb-true, eq-eqb}
use Rattle.std.proofs.lemmas.Bool.Decides.{nat_tests, Decides-at, Decides-like}
use Rattle.rules.specs.Terms.{Term, same_byte, byte_matches, front, occurs}
use Rattle.rules.proofs.Words.{all_none, all_more, all_same, all-is}

-- one byte of the term further
pub front-none : (t : Term) (text : List ℕ) (s : ℕ) → front t text s 0 ≡ true
unfolding front
front-none t text s = all_none _

pub front-more : (t : Term) (text : List ℕ) (s r : ℕ) → front t text s (r + 1) ≡ (front t text s r && byte_matches t r (get_or text (s + r) 0))
unfolding front
front-more t text s r = all_more (λ i. byte_matches t i (get_or text (s + i) 0)) r

-- a front that fails at some byte fails as a whole
pub front-fails : (t : Term) (text : List ℕ) (s r m : ℕ) → r ≤ m → front t text s r ≡ false → front t text s m ≡ false
front-fails t text s r m h e = ap (λ n. front t text s n) at ∙ more (m - r)
  where
    at : m ≡ r + (m - r)
    at = omega arith

    more : (d : ℕ) → front t text s (r + d) ≡ false
    more zero = ap (λ n. front t text s n) (native.Mathlib.Nat.add-zero r) ∙ e
    more (suc d) =
        let step : r + suc d ≡ r + d + 1 = omega arith in
        ap (λ n. front t text s n) step ∙ front-more t text s (r + d) ∙ and_left (front t text s (r + d)) _ (more d)

pub front_same : (t : Term) (x y : List ℕ) (s u r : ℕ) → ((i : ℕ) → i < r → get_or x (s + i) 0 ≡ get_or y (u + i) 0) → front t x s r ≡ front t y u r
unfolding front
front_same t x y s u r h = all_same (λ i. byte_matches t i (get_or x (s + i) 0)) (λ i. byte_matches t i (get_or y (u + i) 0)) r (λ i l. ap (byte_matches t i) (h i l))

-- whether the term ends within the text decides first
pub occurs-past : (t : Term) (text : List ℕ) (s : ℕ) → length text < s + length t.bytes → occurs t text s ≡ false
unfolding occurs
occurs-past t text s h = and_left (leb (s + length t.bytes) (length text)) _ (lt-leb (s + length t.bytes) (length text) h)

pub occurs-within : (t : Term) (text : List ℕ) (s : ℕ) → s + length t.bytes ≤ length text → occurs t text s ≡ front t text s (length t.bytes)
unfolding occurs
occurs-within t text s h = ap (λ b. b && front t text s (length t.bytes)) (le-leb (s + length t.bytes) (length text) h)

pub occurs-ends : (t : Term) (text : List ℕ) (s : ℕ) → occurs t text s ≡ true → s + length t.bytes ≤ length text
unfolding occurs
occurs-ends t text s e = leb-true (s + length t.bytes) (length text) (Rattle.std.proofs.lemmas.Bool.and_parts (leb (s + length t.bytes) (length text)) _ e).0

-- two texts and two starts, where both stretches end within their texts or neither does, and their bytes agree
pub occurs-same : (t : Term) (x y : List ℕ) (s u : ℕ) →
    leb (s + length t.bytes) (length x) ≡ leb (u + length t.bytes) (length y) →
    (s + length t.bytes ≤ length x → (i : ℕ) → i < length t.bytes → get_or x (s + i) 0 ≡ get_or y (u + i) 0) → occurs t x s ≡ occurs t y u
unfolding occurs
occurs-same t x y s u ends same =
    ⊎_elim
    (λ (e : leb (s + length t.bytes) (length x) ≡ true).
    let a : front t x s (length t.bytes) ≡ front t y u (length t.bytes) = front_same t x y s u (length t.bytes) (same (leb-true _ _ e)) in
    cc)
    (λ (e : leb (s + length t.bytes) (length x) ≡ false).
    and_left _ _ e ∙ sym (and_left _ _ (sym ends ∙ e)))
    (cases_Bool (leb (s + length t.bytes) (length x)))

-- the stretch of l bytes from `start` on shows the occurrences at its first 64 starts, where it is long enough or ends with the text
pub occurs-stretch : (t : Term) (text : List ℕ) (start l s : ℕ) → s < 64 → start + l ≤ length text → (63 + length t.bytes ≤ l) ⊎ (start + l ≡ length text) →
    occurs t (take l (drop start text)) s ≡ occurs t text (start + s)
occurs-stretch t text start l s h fits long =
    let m = length t.bytes in
    let size : length (take l (drop start text)) ≡ l = simp (length-take, length-drop) (omega arith) in
    let ends : leb (s + m) (length (take l (drop start text))) ≡ leb (start + s + m) (length text) =
    ap (λ x. leb (s + m) x) size ∙ ⊎_elim (λ (e : 63 + length t.bytes ≤ l). le-leb (s + m) l (omega arith) ∙ sym (le-leb (start + s + m) (length text) (omega arith))) (λ (e : start + l ≡ length text). grind (arith, nat_tests)) long in
    occurs-same t (take l (drop start text)) text s (start + s) ends (λ within i below.
    let lt : s + i < l = omega arith in
    get_or-take l (drop start text) (s + i) 0 lt ∙ get_or-drop start text (s + i) 0 ∙ ap (λ x. get_or text x 0) (omega arith))

-- with no byte in either case a byte matches exactly when it is the term's
own-byte : (i p b : ℕ) → same_byte 0 i p b ≡ eqb b p
own-byte i p b = grind (arith, nat_tests)

-- a term's own bytes stand at s exactly when the text's bytes there are these
pub own-occurs : (bytes text : List ℕ) (s : ℕ) → s + length bytes ≤ length text → Decides (occurs (record { bytes = bytes; limit = 0 }) text s) (take (length bytes) (drop s text) ≡ bytes)
unfolding front
own-occurs bytes text s fits =
    Decides-at (occurs own text s) (front own text s (length bytes)) (occurs-within own text s fits)
    (Decides-like (front own text s (length bytes)) same each (all-is (λ i. byte_matches own i (get_or text (s + i) 0)) (length bytes)))
  where
    own : Term
    own = record { bytes = bytes; limit = 0 }

    here : (i : ℕ) → i < length bytes → get_or (take (length bytes) (drop s text)) i 0 ≡ get_or text (s + i) 0
    here i l = get_or-take (length bytes) (drop s text) i 0 l ∙ get_or-drop s text i 0

    same : ((i : ℕ) → i < length bytes → byte_matches own i (get_or text (s + i) 0) ≡ true) → take (length bytes) (drop s text) ≡ bytes
    same h = ext_get_or 0 (take (length bytes) (drop s text)) bytes (simp (length-take, length-drop) (omega arith)) (λ i below.
        let l : i < length bytes = let b = simp (length-take, length-drop) at below in omega arith in
        here i l ∙ eqb-true (get_or text (s + i) 0) (get_or bytes i 0) (sym (own-byte i (get_or bytes i 0) (get_or text (s + i) 0)) ∙ h i l))

    each : take (length bytes) (drop s text) ≡ bytes → (i : ℕ) → i < length bytes → byte_matches own i (get_or text (s + i) 0) ≡ true
    each e i l = own-byte i (get_or bytes i 0) (get_or text (s + i) 0) ∙ eq-eqb (get_or text (s + i) 0) (get_or bytes i 0) (sym (here i l) ∙ ap (λ xs. get_or xs i 0) e)

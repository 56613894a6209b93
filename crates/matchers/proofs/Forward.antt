-- The forward rule, once for every view of a row of places as a word, and what a marked start means. Assumes nothing.
use Rattle.std.proofs.Common.{◌≡◌, ℕ, zero, suc, ◌+◌, ◌-◌, ◌*◌, ◌/◌, ◌%◌, ◌^◌, ◌<◌, ◌≤◌, Bool, true, false, not, ◌&&◌, ◌||◌, eqb, ltb, leb, List, length, get_or, Decides, sym, refl, ap, ◌∙◌, ⊎_elim, arith, lit<}
use mathlib.Core.Bool.{and-true, and-false, and_comm}
use lib.Bits.{bit_and, bit_or}
use Rattle.std.proofs.lemmas.Bool.Decides.{nat_tests, Decides-and}
use Rattle.std.proofs.lemmas.Bool.{lt-ltb, le-ltb, le-leb, leb-true, lt-leb, ne_eqb, cases_lt, cases_Bool}
use Rattle.rules.specs.Words.{bit_of, word_of, all}
use Rattle.rules.specs.Terms.{Term, byte_matches, front, occurs}
use Rattle.rules.proofs.Words.{word_none, word_ones, word-or, word_and, word_shl, word_same, word-one, word_test, all-is, all_same}
use Rattle.matchers.specs.Places.{hits, state_after, ends_at, or_step, or_state, and_step, and_state}

-- the first r places match the text's bytes from s on
abbrev pub places_from : Term → List ℕ → ℕ → ℕ → Bool
places_from t text s r = all (λ j. hits t j (get_or text (s + j) 0)) r

-- after n bytes of the text bit i lives: the first i + 1 places match the last i + 1 of these bytes
abbrev pub live : Term → List ℕ → ℕ → ℕ → Bool
live t text n i = ltb i n && places_from t text (n - suc i) (suc i)

-- one byte more: row i says whether the byte matches place i
abbrev pub next : (ℕ → Bool) → (ℕ → Bool) → ℕ → Bool
next row was i = row i && (eqb i 0 || was (i - 1))

pub live-next : (t : Term) (text : List ℕ) (n i : ℕ) → next (λ j. hits t j (get_or text n 0)) (live t text n) i ≡ live t text (suc n) i
unfolding all
live-next t text n zero =
    let a : suc n - 1 + 0 ≡ n = omega arith in
    let b : ltb 0 (suc n) ≡ true = lt-ltb 0 (suc n) (omega arith) in
    rw (a, b) (and-true (hits t 0 (get_or text n 0)))
live-next t text n (suc i) =
    let x = hits t (suc i) (get_or text n 0) in
    let e : suc i - 1 ≡ i = omega arith in
    let z : eqb (suc i) 0 ≡ false = ne_eqb (suc i) 0 (omega arith) in
    let l : live t text n (suc i - 1) ≡ live t text n i = ap (live t text n) e in
    ap (λ b. x && (b || live t text n (suc i - 1))) z ∙ ap (λ b. x && b) l ∙
    ⊎_elim
    (λ (h : i < n).
    let a : suc n - suc (suc i) ≡ n - suc i = omega arith in
    let b : n - suc i + suc i ≡ n = omega arith in
    let y = places_from t text (n - suc i) (suc i) in
    let f : places_from t text (suc n - suc (suc i)) (suc (suc i)) ≡ (y && x) =
    ap (λ s. places_from t text s (suc (suc i))) a ∙ ap (λ k. y && hits t (suc i) (get_or text k 0)) b in
    let g : ltb i n ≡ true = lt-ltb i n h in
    let k : ltb (suc i) (suc n) ≡ true = lt-ltb (suc i) (suc n) (omega arith) in
    ap (λ b. x && (b && y)) g ∙ and_comm x y ∙ sym f ∙ ap (λ b. b && places_from t text (suc n - suc (suc i)) (suc (suc i))) (sym k))
    (λ (h : n ≤ i).
    let g : ltb i n ≡ false = le-ltb i n h in
    let k : ltb (suc i) (suc n) ≡ false = le-ltb (suc i) (suc n) (omega arith) in
    ap (λ b. x && (b && places_from t text (n - suc i) (suc i))) g ∙ and-false x ∙ ap (λ b. b && places_from t text (suc n - suc (suc i)) (suc (suc i))) (sym k))
    (cases_lt i n)

-- The rule: whatever the word shows of a row of places, it shows of the places that live after n steps.
module _
    (V : (ℕ → Bool) → ℕ) (same : (p q : ℕ → Bool) → ((j : ℕ) → p j ≡ q j) → V p ≡ V q)
    (start : ℕ) (step : ℕ → ℕ → ℕ) (begins : start ≡ V (λ _. false)) (steps : (p r : ℕ → Bool) → step (V p) (V r) ≡ V (next r p))
    (t : Term) (text : List ℕ)
  where
    pub state-lives : (n : ℕ) → state_after start step (λ b. V (λ i. hits t i b)) text n ≡ V (live t text n)
    state-lives zero = begins ∙ same (λ _. false) (live t text 0) (λ i. grind (arith, nat_tests))
    state-lives (suc n) =
        ap (λ x. step x (V (λ i. hits t i (get_or text n 0)))) (state-lives n)
        ∙ steps (live t text n) (λ i. hits t i (get_or text n 0))
        ∙ same (next (λ i. hits t i (get_or text n 0)) (live t text n)) (live t text (suc n)) (live-next t text n)

-- set is a match: shift, set bit 0, and the row
pub step_set : (p r : ℕ → Bool) (w : ℕ) → 0 < w → bit_and (bit_or (word_of p w * 2 ^ 1 % 2 ^ w) 1) (word_of r w) ≡ word_of (next r p) w
step_set p r w l =
    ap (λ x. bit_and (bit_or x 1) (word_of r w)) (word_shl p 1 w)
    ∙ ap (λ x. bit_and (bit_or (word_of (λ i. leb 1 i && p (i - 1)) w) x) (word_of r w)) (word-one 0 w l)
    ∙ ap (λ x. bit_and x (word_of r w)) (word-or (λ i. leb 1 i && p (i - 1)) (λ i. eqb i 0) w)
    ∙ word_and (λ i. (leb 1 i && p (i - 1)) || eqb i 0) r w
    ∙ word_same (λ i. ((leb 1 i && p (i - 1)) || eqb i 0) && r i) (next r p) w
    (λ i _. grind (arith, nat_tests, cases_Bool (p (i - 1)), cases_Bool (r i)))

-- clear is a match: shift, or the row
pub step_clear : (p r : ℕ → Bool) (w : ℕ) → bit_or (word_of (λ i. not (p i)) w * 2 ^ 1 % 2 ^ w) (word_of (λ i. not (r i)) w) ≡ word_of (λ i. not (next r p i)) w
step_clear p r w =
    ap (λ x. bit_or x (word_of (λ i. not (r i)) w)) (word_shl (λ i. not (p i)) 1 w)
    ∙ word-or (λ i. leb 1 i && not (p (i - 1))) (λ i. not (r i)) w
    ∙ word_same (λ i. (leb 1 i && not (p (i - 1))) || not (r i)) (λ i. not (next r p i)) w
    (λ i _. grind (arith, nat_tests, cases_Bool (p (i - 1)), cases_Bool (r i)))

-- below its length a place of the term is matched as the term's byte is
hits-within : (t : Term) (i b : ℕ) → i < length t.bytes → hits t i b ≡ byte_matches t i b
unfolding hits
hits-within t i b l = ap (λ x. x && byte_matches t i b) (lt-ltb i (length t.bytes) l)

-- what a marked start means
pub occurs-places : (t : Term) (text : List ℕ) (s : ℕ) → occurs t text s ≡ (leb (s + length t.bytes) (length text) && places_from t text s (length t.bytes))
unfolding occurs front
occurs-places t text s =
    ap (λ x. leb (s + length t.bytes) (length text) && x)
    (all_same (λ j. byte_matches t j (get_or text (s + j) 0)) (λ j. hits t j (get_or text (s + j) 0)) (length t.bytes) (λ j l. sym (hits-within t j (get_or text (s + j) 0) l)))

pub occurs-each : (t : Term) (text : List ℕ) (s : ℕ) → Decides (occurs t text s) ((s + length t.bytes ≤ length text) × ((i : ℕ) → i < length t.bytes → hits t i (get_or text (s + i) 0) ≡ true))
occurs-each t text s =
    let m = length t.bytes in
    let d = Decides-and (leb (s + m) (length text)) (places_from t text s m) (leb-true (s + m) (length text), le-leb (s + m) (length text)) (all-is (λ j. hits t j (get_or text (s + j) 0)) m) in
    (λ e. d.0 (sym (occurs-places t text s) ∙ e), λ h. occurs-places t text s ∙ d.1 h)

-- where the last place lives, an occurrence ends; not elsewhere
pub live-last : (t : Term) (text : List ℕ) (n m : ℕ) → m ≡ length t.bytes → 0 < m → n ≤ length text → live t text n (m - 1) ≡ ends_at t text m n
live-last t text n m is z l =
    let e : suc (m - 1) ≡ length t.bytes = omega arith in
    ap (λ r. leb r n && places_from t text (n - r) r) e
    ∙ ⊎_elim
    (λ (h : n < length t.bytes). let f : leb (length t.bytes) n ≡ false = lt-leb (length t.bytes) n h in rw f)
    (λ (h : length t.bytes ≤ n).
    let g : leb (n - length t.bytes + length t.bytes) (length text) ≡ true = le-leb (n - length t.bytes + length t.bytes) (length text) (omega arith) in
    ap (λ b. leb (length t.bytes) n && (b && places_from t text (n - length t.bytes) (length t.bytes))) (sym g)
    ∙ ap (λ b. leb (length t.bytes) n && b) (sym (occurs-places t text (n - length t.bytes))))
    (cases_lt n (length t.bytes))
    ∙ ap (λ k. ends_at t text k n) (sym is)

-- the words of the two polarities
pub clear-same : (w : ℕ) (p q : ℕ → Bool) → ((j : ℕ) → p j ≡ q j) → word_of (λ i. not (p i)) w ≡ word_of (λ i. not (q i)) w
clear-same w p q h = word_same (λ i. not (p i)) (λ i. not (q i)) w (λ i _. ap not (h i))

pub set_same : (w : ℕ) (p q : ℕ → Bool) → ((j : ℕ) → p j ≡ q j) → word_of p w ≡ word_of q w
set_same w p q h = word_same p q w (λ i _. h i)

zero_clear : (b : Bool) → eqb (bit_of (not b)) 0 ≡ b
zero_clear true = refl
zero_clear false = refl

one_set : (b : Bool) → eqb (bit_of b) 1 ≡ b
one_set true = refl
one_set false = refl

-- the test of bit i
pub test-clear : (p : ℕ → Bool) (i w : ℕ) → i < w → eqb (bit_and (word_of (λ j. not (p j)) w / 2 ^ i) 1) 0 ≡ p i
test-clear p i w l = ap (λ x. eqb x 0) (word_test (λ j. not (p j)) i w l) ∙ zero_clear (p i)

pub test-set : (p : ℕ → Bool) (i w : ℕ) → i < w → eqb (bit_and (word_of p w / 2 ^ i) 1) 1 ≡ p i
test-set p i w l = ap (λ x. eqb x 1) (word_test p i w l) ∙ one_set (p i)

-- what the states of the two forward matchers say
pub or-lives : (t : Term) (text : List ℕ) (n : ℕ) → or_state t text n ≡ word_of (λ i. not (live t text n i)) 64
or-lives t text n =
    state-lives (λ p. word_of (λ i. not (p i)) 64) (clear-same 64) (2 ^ 64 - 1) or_step (word_ones 64) (λ p r. step_clear p r 64) t text n

pub and-lives : (t : Term) (text : List ℕ) (n : ℕ) → and_state t text n ≡ word_of (live t text n) 32
and-lives t text n =
    state-lives (λ p. word_of p 32) (set_same 32) 0 and_step (sym (word_none (λ _. false) 32 (λ _ _. refl))) (λ p r. step_set p r 32 (lit< tt)) t text n

-- where an occurrence ends
module _ (t : Term) (text : List ℕ) (n m : ℕ) (is : m ≡ length t.bytes) (some : 0 < m) (within : n ≤ length text) where
  pub or-ends : m ≤ 64 → eqb (bit_and (or_state t text n / 2 ^ (m - 1)) 1) 0 ≡ ends_at t text m n
  or-ends few = ap (λ x. eqb (bit_and (x / 2 ^ (m - 1)) 1) 0) (or-lives t text n) ∙ test-clear (live t text n) (m - 1) 64 (omega arith) ∙ live-last t text n m is some within

  pub and-ends : m ≤ 32 → eqb (bit_and (and_state t text n / 2 ^ (m - 1)) 1) 1 ≡ ends_at t text m n
  and-ends few = ap (λ x. eqb (bit_and (x / 2 ^ (m - 1)) 1) 1) (and-lives t text n) ∙ test-set (live t text n) (m - 1) 32 (omega arith) ∙ live-last t text n m is some within

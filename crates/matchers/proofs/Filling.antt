-- How a table of 256 words is filled, one place of the term after the other. Assumes nothing.
use Rattle.std.proofs.Common.{◌≡◌, ℕ, ◌+◌, ◌-◌, ◌*◌, ◌%◌, ◌^◌, ◌<◌, ◌≤◌, Bool, true, false, cond, not, ◌&&◌, ◌||◌, eqb, ltb, leb, List, [], length, get_or, set, replicate, sym, ap, ◌∙◌, subst, ⊎_elim, arith, get_or-set_other, get_or-set_same}
use mathlib.Core.Bool.{or-false}
use lib.Bits.{bit_and, bit_or}
use Rattle.std.proofs.lemmas.List.{get_or-replicate}
use Rattle.std.proofs.lemmas.Bool.Decides.{nat_tests}
use Rattle.std.proofs.lemmas.Bool.{cases_eq, cases_Bool, lt-ltb, le-ltb, eq-eqb, ne_eqb, cond_both, cond-true, cond-false, le-leb}
use Rattle.rules.specs.Words.{word_of}
use Rattle.rules.specs.Terms.{Term, folded}
use Rattle.rules.proofs.Words.{word_same, word_none, word_set, word-clear, word_ones, word-ones-up}
use Rattle.matchers.specs.Places.{hits, Rows, or_row, and_row, clear_row}
use Rattle.matchers.proofs.Forward.{set_same}

-- the places below i + 1: those below i, and i
pub places-hit : (fit : ℕ → Bool) (i j : ℕ) → fit i ≡ true → ((ltb j i && fit j) || eqb j i) ≡ (ltb j (i + 1) && fit j)
places-hit fit i j h = ⊎_elim
    (λ (e : j ≡ i). let f : fit j ≡ true = ap fit e ∙ h in grind (arith, nat_tests))
    (λ (d : j ≡ i → ⊥). grind (arith, nat_tests, cases_Bool (fit j)))
    (cases_eq j i)

pub places-miss : (fit : ℕ → Bool) (i j : ℕ) → fit i ≡ false → (ltb j i && fit j) ≡ (ltb j (i + 1) && fit j)
places-miss fit i j h = ⊎_elim
    (λ (e : j ≡ i). let f : fit j ≡ false = ap fit e ∙ h in grind (arith, nat_tests))
    (λ (d : j ≡ i → ⊥). grind (arith, nat_tests, cases_Bool (fit j)))
    (cases_eq j i)

-- a place that matches in its own case only
pub hits-exact : (t : Term) (i b : ℕ) → i < length t.bytes → t.limit ≤ i → hits t i b ≡ eqb b (get_or t.bytes i 0)
unfolding hits
hits-exact t i b l k =
    let e : ltb i (length t.bytes) ≡ true = lt-ltb i (length t.bytes) l in
    let z : ltb i t.limit ≡ false = le-ltb i t.limit k in
    rw (e, z) (or-false (eqb b (get_or t.bytes i 0)))

-- after all places
pub places-all : (t : Term) (i j b : ℕ) → length t.bytes ≤ i → (ltb j i && hits t j b) ≡ hits t j b
unfolding hits
places-all t i j b l = grind (arith, nat_tests)

-- The next place of the term, in any view V of a row of places as a word: the words of the bytes that match it are marked.
module _
    (V : (ℕ → Bool) → ℕ) (same : (p q : ℕ → Bool) → ((j : ℕ) → p j ≡ q j) → V p ≡ V q)
    (mark : ℕ → ℕ) (t : Term) (i : ℕ) (marks : (p : ℕ → Bool) → mark (V p) ≡ V (λ j. p j || eqb j i))
  where
    -- at one byte
    pub row_more : (b word : ℕ) → word ≡ V (λ j. ltb j i && hits t j b) → cond (hits t i b) (mark word) word ≡ V (λ j. ltb j (i + 1) && hits t j b)
    row_more b word h = cond_both (hits t i b) (mark word) word (λ x. x ≡ V (λ j. ltb j (i + 1) && hits t j b))
        (λ f. ap mark h ∙ marks (λ j. ltb j i && hits t j b)
        ∙ same (λ j. (ltb j i && hits t j b) || eqb j i) (λ j. ltb j (i + 1) && hits t j b) (λ j. places-hit (λ j. hits t j b) i j f))
        (λ f. h ∙ same (λ j. ltb j i && hits t j b) (λ j. ltb j (i + 1) && hits t j b) (λ j. places-miss (λ j. hits t j b) i j f))

    -- all words that match it are marked
    pub rows_more : (table more : List ℕ) → ((b : ℕ) → b < 256 → get_or more b 0 ≡ cond (hits t i b) (mark (get_or table b 0)) (get_or table b 0)) →
        Rows table (λ b. V (λ j. ltb j i && hits t j b)) → Rows more (λ b. V (λ j. ltb j (i + 1) && hits t j b))
    rows_more table more g h b l = g b l ∙ row_more b (get_or table b 0) (h b l)

    -- a place that matches in its own case only: the word of that place's byte is marked
    pub rows-more-exact : (table : List ℕ) → length table ≡ 256 → i < length t.bytes → t.limit ≤ i → get_or t.bytes i 0 < 256 →
        Rows table (λ b. V (λ j. ltb j i && hits t j b)) →
        Rows (set table (get_or t.bytes i 0) (mark (get_or table (get_or t.bytes i 0) 0))) (λ b. V (λ j. ltb j (i + 1) && hits t j b))
    rows-more-exact table long l k lc h =
        let c = get_or t.bytes i 0 in
        let at : (b : ℕ) → hits t i b ≡ eqb b c = λ b. hits-exact t i b l k in
        rows_more table (set table c (mark (get_or table c 0)))
        (λ b lb. ⊎_elim
        (λ (s : b ≡ c).
        let f : hits t i b ≡ true = at b ∙ eq-eqb b c s in
        let g = get_or-set_same table c (mark (get_or table c 0)) 0 (omega arith) in
        ap (λ k. get_or (set table c (mark (get_or table c 0))) k 0) s ∙ g ∙ ap (λ k. mark (get_or table k 0)) (sym s) ∙ sym (cond-true (hits t i b) (mark (get_or table b 0)) (get_or table b 0) f))
        (λ (d : b ≡ c → ⊥).
        get_or-set_other table c b (mark (get_or table c 0)) 0 d ∙ sym (cond-false (hits t i b) (mark (get_or table b 0)) (get_or table b 0) (at b ∙ ne_eqb b c d)))
        (cases_eq b c)) h

-- the words from bit d up, in which a clear bit is a match
unfoldable pub clear_view : ℕ → (ℕ → Bool) → ℕ
clear_view d p = word_of (λ j. leb d j && not (p (j - d))) 64

pub clear_view-same : (d : ℕ) (p q : ℕ → Bool) → ((j : ℕ) → p j ≡ q j) → clear_view d p ≡ clear_view d q
unfolding clear_view
clear_view-same d p q h = word_same (λ j. leb d j && not (p (j - d))) (λ j. leb d j && not (q (j - d))) 64 (λ j _. ap (λ b. leb d j && not b) (h (j - d)))

pub clear_view-marks : (d i : ℕ) → d + i < 64 → (p : ℕ → Bool) → bit_and (clear_view d p) ((2 ^ 64 - 1) - 1 * 2 ^ (d + i) % 2 ^ 64) ≡ clear_view d (λ j. p j || eqb j i)
unfolding clear_view
clear_view-marks d i l p = word-clear (λ j. leb d j && not (p (j - d))) (d + i) 64 l
    ∙ word_same (λ j. (leb d j && not (p (j - d))) && not (eqb j (d + i))) (λ j. leb d j && not (p (j - d) || eqb (j - d) i)) 64
    (λ j _. grind (arith, nat_tests, cases_Bool (p (j - d))))

-- before the first place
pub clear_none : (t : Term) (d : ℕ) → Rows (replicate 256 ((2 ^ 64 - 1) * 2 ^ d % 2 ^ 64)) (λ b. clear_view d (λ j. ltb j 0 && hits t j b))
unfolding clear_view
clear_none t d b l =
    get_or-replicate 256 b ((2 ^ 64 - 1) * 2 ^ d % 2 ^ 64) 0 l ∙ word-ones-up d 64
    ∙ word_same (λ j. leb d j) (λ j. leb d j && not (ltb (j - d) 0 && hits t (j - d) b)) 64 (λ j _. grind (arith, nat_tests))

-- after the last
pub clear-all : (t : Term) (d i : ℕ) (table : List ℕ) → length t.bytes ≤ i → Rows table (λ b. clear_view d (λ j. ltb j i && hits t j b)) → Rows table (clear_row t d)
unfolding clear_view
clear-all t d i table l rows b h =
    rows b h ∙ clear_view-same d (λ j. ltb j i && hits t j b) (λ j. hits t j b) (λ j. places-all t i j b l)

-- Shift-Or's row is the one from bit 0 up
pub clear_or : (t : Term) (table : List ℕ) → Rows table (clear_row t 0) → Rows table (or_row t)
clear_or t table rows b h =
    rows b h ∙ word_same (λ j. leb 0 j && not (hits t (j - 0) b)) (λ j. not (hits t j b)) 64
    (λ j _. let z : j - 0 ≡ j = omega arith in let e : leb 0 j ≡ true = le-leb 0 j (omega arith) in rw (z, e))

-- with no term, every word of Shift-Or has all bits set
pub or-none : Rows (replicate 256 (2 ^ 64 - 1)) (or_row (record { bytes = []; limit = 0 }))
unfolding hits
or-none b l =
    get_or-replicate 256 b (2 ^ 64 - 1) 0 l ∙ word_ones 64
    ∙ word_same (λ _. true) (λ j. not (hits (record { bytes = []; limit = 0 }) j b)) 64 (λ j _. grind (arith, nat_tests))

-- a loop over a table, which writes at each place that the test takes: `start` is the table as it was
module _ (start table : List ℕ) (hit : ℕ → Bool) (F : ℕ → ℕ) (b : ℕ)
    (h : (c : ℕ) → c < 256 → get_or table c 0 ≡ cond (ltb c b && hit c) (F (get_or start c 0)) (get_or start c 0))
  where
    pub fill-hit : b < 256 → b < length table → hit b ≡ true →
        (c : ℕ) → c < 256 → get_or (set table b (F (get_or table b 0))) c 0 ≡ cond (ltb c (b + 1) && hit c) (F (get_or start c 0)) (get_or start c 0)
    fill-hit lb l y c lc = ⊎_elim
        (λ (s : c ≡ b).
        let u : (ltb b b && hit b) ≡ false = grind (arith, nat_tests) in
        let v : (ltb b (b + 1) && hit b) ≡ true = grind (arith, nat_tests) in
        let o : get_or table b 0 ≡ get_or start b 0 = h b lb ∙ cond-false (ltb b b && hit b) (F (get_or start b 0)) (get_or start b 0) u in
        subst (λ (k : ℕ). get_or (set table b (F (get_or table b 0))) k 0 ≡ cond (ltb k (b + 1) && hit k) (F (get_or start k 0)) (get_or start k 0)) (sym s)
        (get_or-set_same table b (F (get_or table b 0)) 0 l ∙ ap F o ∙ sym (cond-true (ltb b (b + 1) && hit b) (F (get_or start b 0)) (get_or start b 0) v)))
        (λ (d : c ≡ b → ⊥).
        let u : ltb c b ≡ ltb c (b + 1) = grind (arith, nat_tests) in
        get_or-set_other table b c (F (get_or table b 0)) 0 d ∙ h c lc ∙ ap (λ x. cond (x && hit c) (F (get_or start c 0)) (get_or start c 0)) u)
        (cases_eq c b)

    pub fill-miss : hit b ≡ false → (c : ℕ) → c < 256 → get_or table c 0 ≡ cond (ltb c (b + 1) && hit c) (F (get_or start c 0)) (get_or start c 0)
    fill-miss y c lc =
        h c lc ∙ ap (λ x. cond x (F (get_or start c 0)) (get_or start c 0)) (places-miss hit b c y)

-- Shift-And's words: a set bit is a match
pub set-marks : (i : ℕ) → i < 32 → (p : ℕ → Bool) → bit_or (word_of p 32) (1 * 2 ^ i % 2 ^ 32) ≡ word_of (λ j. p j || eqb j i) 32
set-marks i l p = word_set p i 32 l

pub set-none : (t : Term) → Rows (replicate 256 0) (λ b. word_of (λ j. ltb j 0 && hits t j b) 32)
set-none t b l = get_or-replicate 256 b 0 0 l ∙ sym (word_none (λ j. ltb j 0 && hits t j b) 32 (λ j _. grind (arith, nat_tests)))

pub set_all : (t : Term) (i : ℕ) (table : List ℕ) → length t.bytes ≤ i → Rows table (λ b. word_of (λ j. ltb j i && hits t j b) 32) → Rows table (and_row t)
set_all t i table l rows b h = rows b h ∙ set_same 32 (λ j. ltb j i && hits t j b) (λ j. hits t j b) (λ j. places-all t i j b l)

-- a place below the limit matches by its fold
pub hits-folded : (t : Term) (i b : ℕ) → i < length t.bytes → i < t.limit → hits t i b ≡ eqb (folded b) (folded (get_or t.bytes i 0))
unfolding hits
hits-folded t i b l k =
    let e : ltb i (length t.bytes) ≡ true = lt-ltb i (length t.bytes) l in
    let z : ltb i t.limit ≡ true = lt-ltb i t.limit k in
    rw (e, z) (same_fold b (get_or t.bytes i 0))
  where
    same_fold : (x p : ℕ) → (eqb x p || eqb (folded x) (folded p)) ≡ eqb (folded x) (folded p)
    same_fold x p = ⊎_elim
        (λ (s : x ≡ p). ap (λ b. b || eqb (folded x) (folded p)) (eq-eqb x p s) ∙ sym (eq-eqb (folded x) (folded p) (ap folded s)))
        (λ (d : x ≡ p → ⊥). ap (λ b. b || eqb (folded x) (folded p)) (ne_eqb x p d))
        (cases_eq x p)

-- and every word of Shift-And is clear
pub and_none : Rows (replicate 256 0) (and_row (record { bytes = []; limit = 0 }))
unfolding hits
and_none b l = get_or-replicate 256 b 0 0 l ∙ sym (word_none (λ j. hits (record { bytes = []; limit = 0 }) j b) 32 (λ j _. grind (arith, nat_tests)))

-- and so is every word of the two-way matcher
pub two-way-none : Rows (replicate 256 0) (clear_row (record { bytes = []; limit = 0 }) 64)
two-way-none b l =
    get_or-replicate 256 b 0 0 l ∙ sym (word_none (λ j. leb 64 j && not (hits (record { bytes = []; limit = 0 }) (j - 64) b)) 64 (λ j h. grind (arith, nat_tests)))

-- the word with all bits from d up
pub full-word : (d : ℕ) → (2 ^ 64 - 1) * 2 ^ d % 2 ^ 64 ≡ word_of (λ i. leb d i) 64
full-word d = word-ones-up d 64

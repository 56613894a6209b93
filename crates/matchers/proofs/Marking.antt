-- A word that is filled start by start. Assumes nothing.
use Rattle.std.proofs.Common.{◌≡◌, ℕ, ◌+◌, ◌*◌, ◌%◌, ◌^◌, ◌<◌, ◌≤◌, Bool, true, false, ◌&&◌, ◌||◌, eqb, ltb, sym, ap, ◌∙◌, ⊎_elim, arith}
use lib.Bits.{bit_or}
use Rattle.std.proofs.lemmas.Bool.{cases_Bool, ltb-false, le-ltb, and_left, cases_eq}
use Rattle.std.proofs.lemmas.Bool.Decides.{nat_tests}
use Rattle.rules.specs.Words.{word_of}
use Rattle.rules.proofs.Words.{word_none, word_same, word_set}

-- the word of the tests that pass before n
abbrev pub marked_below : (ℕ → Bool) → ℕ → ℕ
marked_below p n = word_of (λ s. ltb s n && p s) 64

pub marked-none : (p : ℕ → Bool) → 0 ≡ marked_below p 0
marked-none p = sym (word_none (λ s. ltb s 0 && p s) 64 (λ s _. and_left (ltb s 0) (p s) (le-ltb s 0 (omega arith))))

below_more : (p : ℕ → Bool) (n s : ℕ) → p n ≡ true → (ltb s n && p s || eqb s n) ≡ (ltb s (n + 1) && p s)
below_more p n s e =
    ⊎_elim
    (λ (q : s ≡ n). let here : p s ≡ true = ap p q ∙ e in rw here (grind (arith, nat_tests)))
    (λ (q : s ≡ n → ⊥). grind (arith, nat_tests))
    (cases_eq s n)

below_other : (p : ℕ → Bool) (n s : ℕ) → p n ≡ false → (ltb s n && p s) ≡ (ltb s (n + 1) && p s)
below_other p n s e =
    ⊎_elim
    (λ (q : s ≡ n). let here : p s ≡ false = ap p q ∙ e in rw here (grind (arith, nat_tests)))
    (λ (q : s ≡ n → ⊥). grind (arith, nat_tests))
    (cases_eq s n)

-- one start further, marked or not
pub marked_more : (p : ℕ → Bool) (n : ℕ) → n < 64 → p n ≡ true → bit_or (marked_below p n) (1 * 2 ^ n % 2 ^ 64) ≡ marked_below p (n + 1)
marked_more p n h e = word_set (λ s. ltb s n && p s) n 64 h ∙ word_same _ _ 64 (λ s _. below_more p n s e)

pub marked_other : (p : ℕ → Bool) (n : ℕ) → p n ≡ false → marked_below p n ≡ marked_below p (n + 1)
marked_other p n e = word_same _ _ 64 (λ s _. below_other p n s e)

-- every start that the stretch has room for
pub marked_all : (p : ℕ → Bool) (n : ℕ) → ((s : ℕ) → s < 64 → n ≤ s → p s ≡ false) → marked_below p n ≡ word_of p 64
marked_all p n none = word_same _ _ 64 (λ s h. ⊎_elim (λ (e : ltb s n ≡ true). ap (λ b. b && p s) e) (λ (e : ltb s n ≡ false). ap (λ b. b && p s) e ∙ sym (none s h (ltb-false s n e))) (cases_Bool (ltb s n)))

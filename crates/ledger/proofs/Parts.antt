-- A list after a write to a part of it. Assumes nothing.
use Rattle.std.proofs.Common.{◌≡◌, ℕ, ◌+◌, ◌-◌, ◌<◌, ◌≤◌, Bool, cond, ◌&&◌, ltb, leb, List, length, get_or, sym, ap, ◌∙◌, ⊎_elim, rules, arith}
use Rattle.std.proofs.lemmas.Bool.{cases_lt, le-leb, lt-leb, lt-ltb, le-ltb, and_left, and_right, and_from}
use Rattle.std.proofs.lemmas.List.{places}
use Rattle.rules.specs.Words.{bit}
use borrow.Rule.Slice.PartMut.{put_mid, mid_of}

pub in-part : (a k : ℕ) (xs ys : List ℕ) (i : ℕ) → a + k ≤ length xs → length ys ≡ k → a ≤ i → i < a + k → get_or (put_mid a k xs ys) i 0 ≡ get_or ys (i - a) 0
in-part a k xs ys i fits long low high = search (rules, places)

pub before-part : (a k : ℕ) (xs ys : List ℕ) (i : ℕ) → a + k ≤ length xs → i < a → get_or (put_mid a k xs ys) i 0 ≡ get_or xs i 0
before-part a k xs ys i fits low = search (rules, places)

pub behind-part : (a k : ℕ) (xs ys : List ℕ) (i : ℕ) → a + k ≤ length xs → length ys ≡ k → a + k ≤ i → get_or (put_mid a k xs ys) i 0 ≡ get_or xs i 0
behind-part a k xs ys i fits long high = search (rules, places)

part-at : (a k : ℕ) (xs : List ℕ) (i : ℕ) → a + k ≤ length xs → i < k → get_or (mid_of a k xs) i 0 ≡ get_or xs (a + i) 0
part-at a k xs i fits l = search (rules, places)

-- each word of the part was changed by f, and no other word
module _ (a k : ℕ) (xs ys : List ℕ) (fits : a + k ≤ length xs) (long : length ys ≡ k) (f : ℕ → ℕ → Bool → Bool)
    (changed : (n i : ℕ) → i < k → bit (get_or ys i 0) n ≡ f n (a + i) (bit (get_or (mid_of a k xs) i 0) n)) where
  pub part-changed : (n b : ℕ) → bit (get_or (put_mid a k xs ys) b 0) n ≡ cond (leb a b && ltb b (a + k)) (f n b (bit (get_or xs b 0) n)) (bit (get_or xs b 0) n)
  part-changed n b =
      let old = bit (get_or xs b 0) n in
      ⊎_elim
      (λ (low : b < a).
      ap (λ x. bit x n) (before-part a k xs ys b fits low) ∙ ap (λ t. cond t (f n b old) old) (sym (and_left (leb a b) (ltb b (a + k)) (lt-leb a b low))))
      (λ (high : a ≤ b).
      ⊎_elim
      (λ (l : b < a + k).
      let at : a + (b - a) ≡ b = omega arith in
      ap (λ x. bit x n) (in-part a k xs ys b fits long high l) ∙ changed n (b - a) (omega arith) ∙ ap (λ x. f n (a + (b - a)) (bit x n)) (part-at a k xs (b - a) fits (omega arith)) ∙ ap (λ i. f n i (bit (get_or xs i 0) n)) at
      ∙ ap (λ t. cond t (f n b old) old) (sym (and_from (leb a b) (ltb b (a + k)) (le-leb a b high) (lt-ltb b (a + k) l))))
      (λ (h : a + k ≤ b).
      ap (λ x. bit x n) (behind-part a k xs ys b fits long h) ∙ ap (λ t. cond t (f n b old) old) (sym (and_right (leb a b) (ltb b (a + k)) (le-ltb b (a + k) h))))
      (cases_lt b (a + k)))
      (cases_lt b a)

-- The last page, and the page of a start. Assumes nothing.
use Rattle.std.proofs.Common.{◌≡◌, ℕ, zero, suc, ◌+◌, ◌-◌, ◌<◌, ◌≤◌, Bool, true, false, cond, leb, List, length, get_or, sym, take, drop, ap, ◌∙◌, ⊎_elim, arith}
use Rattle.std.specs.List.Sorted.{IsNonDecreasing, IsPartitionedBy, IsPartitionPoint}
use Rattle.std.proofs.lemmas.Bool.{cases_eq, cases_lt, le-leb, lt-leb, leb-true, leb-false, true≢false}
use Rattle.std.proofs.lemmas.List.{length-drop, length-take-le, get_or-take, get_or-drop}
use Rattle.ledger.specs.Pages.{last_passing, page_at, place_at}

-- the last place that passes
pub last_passing-at : (q : ℕ → Bool) (n i : ℕ) → i < n → q i ≡ true → ((k : ℕ) → i < k → k < n → q k ≡ false) → last_passing q n ≡ i + 1
unfolding last_passing
last_passing-at q zero i l on off = absurd (omega arith)
last_passing-at q (suc n) i l on off =
    ⊎_elim
    (λ (e : i ≡ n). ap (λ b. cond b (suc n) (last_passing q n)) (ap q (sym e) ∙ on) ∙ omega arith)
    (λ (e : i ≡ n → ⊥).
    ap (λ b. cond b (suc n) (last_passing q n)) (off n (omega (arith, e)) (omega arith))
    ∙ last_passing-at q n i (omega (arith, e)) on (λ k a b. off k a (omega arith)))
    (cases_eq i n)

-- page i + 1 begins at or before s, and no later page does
module _ (starts : List ℕ) (s i : ℕ) (l : i < length starts) (on : get_or starts i 0 ≤ s) (off : (k : ℕ) → i < k → k < length starts → s < get_or starts k 0) where
  pub page-found : page_at starts s ≡ i + 1
  page-found =
      last_passing-at (λ k. leb (get_or starts k 0) s) (length starts) i l (le-leb _ _ on) (λ k a b. lt-leb _ _ (off k a b))

  pub place_found : place_at starts s ≡ s - get_or starts i 0
  place_found =
      let e : i + 1 - 1 ≡ i = omega arith in
      ap (λ n. s - get_or starts (n - 1) 0) page-found ∙ ap (λ n. s - get_or starts n 0) e

-- starts that do not descend are parted by any place of the text
pub parted : (starts : List ℕ) (s : ℕ) → IsNonDecreasing starts → IsPartitionedBy (λ first. leb first s) starts
parted starts s up i j d l h on =
    let low = up i j d l h in
    let high : get_or starts j d ≤ s = leb-true _ _ on in
    le-leb _ _ (omega arith)

-- the first i starts are those at or before s
module _ (starts : List ℕ) (s i : ℕ) (some : 1 ≤ length starts) (first : get_or starts 0 0 ≡ 0) (within : i ≤ length starts) (point : IsPartitionPoint (λ start. leb start s ≡ true) (λ start. leb start s ≡ false) starts i) where
  pub point-some : 1 ≤ i
  point-some =
      ⊎_elim
      (λ (none : i < 1). absurd (true≢false (sym (le-leb (get_or starts 0 0) s (omega (arith, first))) ∙ point.1 0 0 (omega arith) (omega arith))))
      (λ (l : 1 ≤ i). l)
      (cases_lt i 1)

  pub point-before : get_or starts (i - 1) 0 ≤ s
  point-before = let l = point-some in leb-true _ _ (point.0 (i - 1) 0 (omega arith) (omega arith))

  pub point-page : i ≡ page_at starts s
  point-page =
      let l = point-some in
      let last =
      last_passing-at (λ k. leb (get_or starts k 0) s) (length starts) (i - 1) (omega arith) (point.0 (i - 1) 0 (omega arith) (omega arith))
      (λ k a b. point.1 k 0 (omega arith) b) in
      omega (arith, last)

-- the page of s is sought from starts[from], which is at or before s, up to starts[behind], which is not: of the starts between them the first j are
module _ (starts : List ℕ) (s from behind j : ℕ) (low : from < behind) (high : behind ≤ length starts) (up : IsNonDecreasing starts) (on : get_or starts from 0 ≤ s) (past : behind < length starts → s < get_or starts behind 0) (within : j ≤ behind - (from + 1)) (point : IsPartitionPoint (λ start. leb start s ≡ true) (λ start. leb start s ≡ false) (take (behind - (from + 1)) (drop (from + 1) starts)) j) where
  between-at : (k : ℕ) → k < behind - (from + 1) → get_or (take (behind - (from + 1)) (drop (from + 1) starts)) k 0 ≡ get_or starts (from + 1 + k) 0
  between-at k l = get_or-take _ _ k 0 l ∙ get_or-drop _ starts k 0

  between-length : length (take (behind - (from + 1)) (drop (from + 1) starts)) ≡ behind - (from + 1)
  between-length = length-take-le _ _ (omega (arith, length-drop (from + 1) starts))

  between-on : get_or starts (from + j) 0 ≤ s
  between-on =
      ⊎_elim
      (λ (none : j < 1). let e : from + j ≡ from = omega arith in omega (arith, ap (λ k. get_or starts k 0) e, on))
      (λ (l : 1 ≤ j).
      let e : from + 1 + (j - 1) ≡ from + j = omega arith in
      let at = between-at (j - 1) (omega arith) ∙ ap (λ k. get_or starts k 0) e in
      omega (arith, sym at, leb-true _ _ (point.0 (j - 1) 0 (omega arith) (omega arith))))
      (cases_lt j 1)

  pub between-before : get_or starts (from + 1 + j - 1) 0 ≤ s
  between-before = let e : from + 1 + j - 1 ≡ from + j = omega arith in omega (arith, ap (λ k. get_or starts k 0) e, between-on)

  pub between-past : (k : ℕ) → from + j < k → k < length starts → s < get_or starts k 0
  between-past k a b =
      ⊎_elim
      (λ (l : k < behind).
      let e : from + 1 + (k - (from + 1)) ≡ k = omega arith in
      let at = between-at (k - (from + 1)) (omega arith) ∙ ap (λ i. get_or starts i 0) e in
      omega (arith, sym at, leb-false _ _ (point.1 (k - (from + 1)) 0 (omega arith) (omega (arith, between-length)))))
      (λ (l : behind ≤ k). omega (arith, past (omega arith), up behind k 0 l b))
      (cases_lt k behind)

  pub between-page : from + 1 + j ≡ page_at starts s
  between-page = omega (arith, page-found starts s (from + j) (omega arith) between-on between-past)

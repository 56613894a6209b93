-- Comparing a term with a stretch, pair by pair. Assumes nothing.
use Rattle.std.proofs.Common.{◌≡◌, ℕ, zero, suc, ◌+◌, ◌-◌, ◌<◌, ◌≤◌, min, Bool, cond, ◌&&◌, leb, List, [], ◌∷◌, length, get_or, take, drop, sym, refl, ap, ◌∙◌, subst, ⊎_elim, arith, length-take}
use Rattle.std.specs.declared.slice.Windows.{Windows}
use Rattle.std.specs.Slice.Iter.{windows_rest, windows_size, windows_steps}
use Rattle.std.proofs.lemmas.Bool.{le-leb, lt-leb, cases_lt}
use Rattle.std.specs.declared.iter.Enumerate.{Enumerate}
use Rattle.std.specs.declared.iter.Take.{Take}
use Rattle.std.specs.Iterator.Adapters.{enumerate_source, enumerate_count, enumerate_steps, take_source, take_count, take_steps}
use Rattle.std.proofs.lemmas.Iterator.{YieldsList, YieldsList-from_take}
use Rattle.std.proofs.lemmas.Iterator.Consumers.{YieldsList-at, YieldsList-from_enumerate}
use Rattle.std.proofs.lemmas.Iterator.Splits.{YieldsList-from_shown_while}
use Rattle.std.proofs.lemmas.List.FromFn.{length-enumerate_from, get_or-enumerate_from}
use Rattle.std.specs.List.{list_all, enumerate_from, zip}
use Rattle.std.proofs.lemmas.List.{get_or-drop, get_or-take}
use mathlib.Core.Bool.{and-true, and_assoc}
use Rattle.rules.specs.Words.{all}
use Rattle.rules.specs.Terms.{Term, front, occurs, same_byte, byte_matches}
use Rattle.rules.proofs.Occurs.{occurs-within}
use Rattle.rules.proofs.Words.{all_same, all_none}

-- the first test apart from the others
all-first : (p : ℕ → Bool) (n : ℕ) → all p (suc n) ≡ (p 0 && all (λ i. p (suc i)) n)
unfolding all
all-first p zero = sym (and-true (p 0))
all-first p (suc n) = ap (λ b. b && p (suc n)) (all-first p n) ∙ and_assoc (p 0) (all (λ i. p (suc i)) n) (p (suc n))

-- all of the pairs, counted from k on
all-pairs : (f : ℕ → ℕ → ℕ → Bool) (k : ℕ) (xs ys : List ℕ) → length xs ≤ length ys →
    list_all (λ (p : ℕ × (ℕ × ℕ)). f p.0 p.1.0 p.1.1) (enumerate_from k (zip xs ys)) ≡ all (λ i. f (k + i) (get_or xs i 0) (get_or ys i 0)) (length xs)
all-pairs f k [] ys l = sym (all_none _)
all-pairs f k (x ∷ xs) [] l = absurd (omega arith)
all-pairs f k (x ∷ xs) (y ∷ ys) l =
    let here : k ≡ k + 0 = omega arith in
    ap (λ n. f n x y && list_all (λ (p : ℕ × (ℕ × ℕ)). f p.0 p.1.0 p.1.1) (enumerate_from (k + 1) (zip xs ys))) here
    ∙ ap (λ b. f (k + 0) x y && b)
    (all-pairs f (k + 1) xs ys (omega arith)
    ∙ all_same (λ i. f (k + 1 + i) (get_or xs i 0) (get_or ys i 0)) (λ i. f (k + suc i) (get_or xs i 0) (get_or ys i 0)) (length xs)
    (λ i _. let e : k + 1 + i ≡ k + suc i = omega arith in ap (λ n. f n (get_or xs i 0) (get_or ys i 0)) e))
    ∙ sym (all-first (λ i. f (k + i) (get_or (x ∷ xs) i 0) (get_or (y ∷ ys) i 0)) (length xs))

-- the term's bytes beside those of the window
pub front-pairs : (t : Term) (window : List ℕ) → length t.bytes ≤ length window →
    list_all (λ (p : ℕ × (ℕ × ℕ)). same_byte t.limit p.0 p.1.0 p.1.1) (enumerate_from 0 (zip t.bytes window)) ≡ front t window 0 (length t.bytes)
unfolding front
front-pairs t window l =
    all-pairs (same_byte t.limit) 0 t.bytes window l
    ∙ all_same (λ i. same_byte t.limit (0 + i) (get_or t.bytes i 0) (get_or window i 0)) (λ i. same_byte t.limit i (get_or t.bytes i 0) (get_or window (0 + i) 0)) (length t.bytes)
    (λ i _. let from : 0 + i ≡ i = omega arith in ap (λ k. same_byte t.limit k (get_or t.bytes i 0) (get_or window i 0)) from ∙ ap (λ k. same_byte t.limit i (get_or t.bytes i 0) (get_or window k 0)) (sym from))

-- a window of the text, compared from its first byte
pub front-window : (t : Term) (text : List ℕ) (s : ℕ) → front t (take (length t.bytes) (drop s text)) 0 (length t.bytes) ≡ front t text s (length t.bytes)
unfolding front
front-window t text s =
    all_same (λ i. byte_matches t i (get_or (take (length t.bytes) (drop s text)) (0 + i) 0)) (λ i. byte_matches t i (get_or text (s + i) 0)) (length t.bytes)
    (λ i l. let from : 0 + i ≡ i = omega arith in
    ap (λ k. byte_matches t i (get_or (take (length t.bytes) (drop s text)) k 0)) from
    ∙ ap (byte_matches t i) (get_or-take (length t.bytes) (drop s text) i 0 l ∙ get_or-drop s text i 0))

-- the windows of m bytes, one at each start
abbrev pub window_list : ℕ → List ℕ → List (List ℕ)
window_list m [] = []
window_list m (x ∷ xs) = cond (leb m (suc (length xs))) (take m (x ∷ xs) ∷ window_list m xs) []

pub window_list-none : (m : ℕ) (xs : List ℕ) → length xs < m → window_list m xs ≡ []
window_list-none m [] l = refl
window_list-none m (x ∷ xs) l = ap (λ b. cond b (take m (x ∷ xs) ∷ window_list m xs) []) (lt-leb m (suc (length xs)) l)

pub window_list-some : (m : ℕ) (xs : List ℕ) → 0 < m → m ≤ length xs → window_list m xs ≡ take m xs ∷ window_list m (drop 1 xs)
window_list-some m [] some l = absurd (omega arith)
window_list-some m (x ∷ xs) some l = ap (λ b. cond b (take m (x ∷ xs) ∷ window_list m xs) []) (le-leb m (suc (length xs)) l)

pub window_list-length : (m : ℕ) (xs : List ℕ) → 0 < m → length (window_list m xs) ≡ length xs + 1 - m
window_list-length m [] some = omega arith
window_list-length m (x ∷ xs) some = ⊎_elim
    (λ (l : suc (length xs) < m). ap length (window_list-none m (x ∷ xs) l) ∙ omega arith)
    (λ (l : m ≤ suc (length xs)). let rest = window_list-length m xs some in ap length (window_list-some m (x ∷ xs) some l) ∙ omega arith)
    (cases_lt (suc (length xs)) m)

pub window_list-at : (m : ℕ) (xs : List ℕ) (i : ℕ) (d : List ℕ) → 0 < m → i + m ≤ length xs → get_or (window_list m xs) i d ≡ take m (drop i xs)
window_list-at m [] i d some l = absurd (omega arith)
window_list-at m (x ∷ xs) zero d some l = ap (λ ws. get_or ws 0 d) (window_list-some m (x ∷ xs) some (omega arith))
window_list-at m (x ∷ xs) (suc i) d some l =
    ap (λ ws. get_or ws (suc i) d) (window_list-some m (x ∷ xs) some (omega arith)) ∙ window_list-at m xs i d some (omega arith)

-- what `windows` gives
pub YieldsList-from_windows : (m : ℕ) (xs : List ℕ) (s : Windows ℕ) → 0 < m → windows_rest s ≡ xs → windows_size s ≡ m → YieldsList windows_steps (λ w. w.now) s (window_list m xs)
YieldsList-from_windows m xs s some rest size =
    subst (λ (ws : List (List ℕ)). YieldsList windows_steps (λ w. w.now) s ws) (ap (λ k. window_list k (windows_rest s)) size ∙ ap (window_list m) rest)
    (YieldsList-from_shown_while windows_steps (λ w. w.now) (λ u. window_list (windows_size u) (windows_rest u)) (λ u. 0 < windows_size u)
    (λ u v p e. ap length (window_list-none (windows_size u) (windows_rest u) e.1.0))
    (λ u x v p e. (
      subst (λ (k : ℕ). 0 < k) (sym e.0) p,
      window_list-some (windows_size u) (windows_rest u) p e.1.0
          ∙ ap (λ w. w ∷ window_list (windows_size u) (drop 1 (windows_rest u))) (sym e.1.1)
          ∙ ap (λ ws. x.now ∷ ws) (ap (λ k. window_list k (drop 1 (windows_rest u))) (sym e.0) ∙ ap (window_list (windows_size v)) (sym e.1.2)),
    ))
    s (subst (λ (k : ℕ). 0 < k) (sym size) some))

-- the first 64 windows, each with its start: what the comparison of window i says, and how many there are
pub placed-window : (t : Term) (text : List ℕ) (i : ℕ) (p : ℕ × List ℕ) (b : Bool) → 0 < length t.bytes →
    (i < length (take 64 (enumerate_from 0 (window_list (length t.bytes) text)))) × (p ≡ get_or (take 64 (enumerate_from 0 (window_list (length t.bytes) text))) i p) →
    b ≡ front t p.1 0 (length t.bytes) → (i < 64) × ((p.0 ≡ i) × (occurs t text i ≡ b))
placed-window t text i p b some h e =
    let m = length t.bytes in
    let counted = length-enumerate_from 0 (window_list m text) in
    let many = window_list-length m text some in
    let short = length-take 64 (enumerate_from 0 (window_list m text)) in
    let below : i < 64 = omega (arith, h.0) in
    let within : i < length (window_list m text) = omega (arith, h.0) in
    let fit : i + m ≤ length text = omega arith in
    let is : p ≡ (0 + i, get_or (window_list m text) i p.1) = h.1 ∙ get_or-take 64 (enumerate_from 0 (window_list m text)) i p below ∙ get_or-enumerate_from 0 (window_list m text) i p within in
    let at : 0 + i ≡ i = omega arith in
    let window : p.1 ≡ take m (drop i text) = ap (λ (x : ℕ × List ℕ). x.1) is ∙ window_list-at m text i p.1 some fit in (
      below,
      (ap (λ (x : ℕ × List ℕ). x.0) is ∙ at, occurs-within t text i fit ∙ sym (e ∙ ap (λ w. front t w 0 m) window ∙ front-window t text i)),
    )

pub placed-windows : (m : ℕ) (text : List ℕ) → 0 < m → length (take 64 (enumerate_from 0 (window_list m text))) ≡ min 64 (length text + 1 - m)
placed-windows m text some = length-take 64 (enumerate_from 0 (window_list m text)) ∙ ap (min 64) (length-enumerate_from 0 (window_list m text) ∙ window_list-length m text some)

-- the loop over them
module _
    (m : ℕ) (text : List ℕ) (w : Windows ℕ) (e : Enumerate (Windows ℕ)) (k s : Take (Enumerate (Windows ℕ)))
    (some : 0 < m) (rest : windows_rest w ≡ text) (size : windows_size w ≡ m)
    (source : enumerate_source e ≡ w) (count : enumerate_count e ≡ 0) (taken : take_source k ≡ e) (most : take_count k ≡ 64) (is : s ≡ k)
  where
    pub windows-road : YieldsList {B = ℕ × List ℕ} (take_steps (enumerate_steps windows_steps)) (λ p. (p.0, p.1.now)) s (take 64 (enumerate_from 0 (window_list m text)))
    windows-road = YieldsList-at is (YieldsList-from_take 64 (YieldsList-at taken (YieldsList-from_enumerate (YieldsList-at source (YieldsList-from_windows m text w some rest size)) count)) most)

-- A forward matcher reads on: its state, where an occurrence ends, and the starts it marks. Assumes nothing.
use Rattle.std.proofs.Common.{◌≡◌, ℕ, zero, suc, ◌+◌, ◌-◌, ◌*◌, ◌%◌, ◌^◌, ◌<◌, ◌≤◌, min, Bool, true, false, cond, ◌&&◌, leb, List, length, take, get_or, sym, refl, ap, ◌∙◌, ⊎_elim, add-one, arith, length-take}
use lib.Bits.{bit_or}
use Rattle.std.specs.List.{enumerate_from, fold}
use Rattle.std.specs.declared.slice.Iter.{Iter}
use Rattle.std.specs.Slice.Iter.{iter_rest, iter_steps}
use Rattle.std.specs.declared.iter.Enumerate.{Enumerate}
use Rattle.std.specs.declared.iter.Take.{Take}
use Rattle.std.specs.Iterator.Adapters.{enumerate_source, enumerate_count, enumerate_steps, take_source, take_count, take_steps}
use Rattle.std.proofs.lemmas.Iterator.{YieldsList, YieldsList-from_slice, YieldsList-from_take}
use Rattle.std.proofs.lemmas.Iterator.Consumers.{YieldsList-at, YieldsList-from_enumerate}
use Rattle.std.proofs.lemmas.List.FromFn.{length-enumerate_from, get_or-enumerate_from}
use Rattle.std.proofs.lemmas.List.{take_all, take_more, get_or-take, get_or_default}
use Rattle.std.proofs.lemmas.List.Sums.{fold_push}
use Rattle.std.proofs.lemmas.Bool.{cases_Bool, cases_lt, le-leb, lt-leb}
use Rattle.rules.specs.Terms.{Term, occurs, scanned}
use Rattle.rules.proofs.Occurs.{occurs-past}
use Rattle.matchers.specs.Places.{Filled, ends_at, state_after}
use Rattle.shifts.specs.Marks.{marked_at}
use Rattle.matchers.proofs.Marking.{marked_below, marked-none, marked_more, marked_other, marked_all}

-- one byte more
pub state-more : {S W : Type 0} (start : S) (step : S → W → S) (words : ℕ → W) (text : List ℕ) (n : ℕ) (state more : S) (word : W) →
    word ≡ words (get_or text n 0) → more ≡ step state word → state ≡ state_after start step words text n → more ≡ state_after start step words text (n + 1)
state-more start step words text n state more word w e s =
    e ∙ ap (λ x. step x word) s ∙ ap (λ x. step (state_after start step words text n) x) w ∙ sym (ap (λ k. state_after start step words text k) (add-one n))

-- all bytes, from first to last
pub state-fold : {S W : Type 0} (start : S) (step : S → W → S) (words due : ℕ → W) (text : List ℕ) → Filled words due → ((i : ℕ) → get_or text i 0 < 256) →
    fold (λ a b. step a (words b)) start text ≡ state_after start step due text (length text)
state-fold start step words due text filled fits = ap (fold (λ a b. step a (words b)) start) (sym (take_all (length text) text (omega arith))) ∙ so_far (length text) (omega arith)
  where
    so_far : (n : ℕ) → n ≤ length text → fold (λ a b. step a (words b)) start (take n text) ≡ state_after start step due text n
    so_far zero l = refl
    so_far (suc n) l =
        ap (fold (λ a b. step a (words b)) start) (ap (λ k. take k text) (sym (add-one n)) ∙ take_more text n 0 (omega arith))
        ∙ fold_push (λ a b. step a (words b)) start (take n text) (get_or text n 0)
        ∙ ap (λ a. step a (words (get_or text n 0))) (so_far n (omega arith))
        ∙ ap (step (state_after start step due text n)) (filled (get_or text n 0) (fits n))

-- the starts whose occurrences end within the bytes read are marked
module _ (p : ℕ → Bool) (m : ℕ) where
  pub mark-more : (n word : ℕ) (ends : Bool) → n < 63 + m → word ≡ marked_below p (n + 1 - m) → ends ≡ (leb m (n + 1) && p (n + 1 - m)) → marked_at word ends (n + 1) m ≡ marked_below p (n + 1 + 1 - m)
  mark-more n word ends few w e =
      ⊎_elim
      (λ (l : n + 1 < m).
      let off : leb m (n + 1) ≡ false = lt-leb m (n + 1) l in
      let stays : n + 1 - m ≡ n + 1 + 1 - m = omega arith in
      ap (λ b. cond (ends && b) (bit_or word (1 * 2 ^ (n + 1 - m) % 2 ^ 64)) word) off ∙ both ends ∙ w ∙ ap (marked_below p) stays)
      (λ (l : m ≤ n + 1).
      let on : leb m (n + 1) ≡ true = le-leb m (n + 1) l in
      let step : n + 1 - m + 1 ≡ n + 1 + 1 - m = omega arith in
      let here : ends ≡ p (n + 1 - m) = e ∙ ap (λ b. b && p (n + 1 - m)) on in
      ap (λ b. cond (ends && b) (bit_or word (1 * 2 ^ (n + 1 - m) % 2 ^ 64)) word) on
      ∙ ⊎_elim
      (λ (y : p (n + 1 - m) ≡ true).
      ap (λ b. cond (b && true) (bit_or word (1 * 2 ^ (n + 1 - m) % 2 ^ 64)) word) (here ∙ y)
      ∙ ap (λ x. bit_or x (1 * 2 ^ (n + 1 - m) % 2 ^ 64)) w ∙ marked_more p (n + 1 - m) (omega arith) y)
      (λ (y : p (n + 1 - m) ≡ false).
      ap (λ b. cond (b && true) (bit_or word (1 * 2 ^ (n + 1 - m) % 2 ^ 64)) word) (here ∙ y) ∙ w ∙ marked_other p (n + 1 - m) y)
      (cases_Bool (p (n + 1 - m)))
      ∙ ap (marked_below p) step)
      (cases_lt (n + 1) m)
    where
      both : (b : Bool) → cond (b && false) (bit_or word (1 * 2 ^ (n + 1 - m) % 2 ^ 64)) word ≡ word
      both true = refl
      both false = refl

-- A forward matcher has read n bytes of the text: its state, and the word of the starts that it has marked.
pub record Read {S W : Type 0} (start : S) (step : S → W → S) (words : ℕ → W) (t : Term) (text : List ℕ) (n : ℕ) (state : S) (word : ℕ) : Type 0 where
  pub state_is : state ≡ state_after start step words text n
  pub word_is : word ≡ marked_below (occurs t text) (n + 1 - length t.bytes)

module _ {S W : Type 0} (start : S) (step : S → W → S) (words : ℕ → W) (t : Term) (text : List ℕ) where
  pub read_none : 0 < length t.bytes → Read start step words t text 0 start 0
  read_none some =
      let none : 0 ≡ 0 + 1 - length t.bytes = omega arith in
      record { state_is = refl; word_is = marked-none (occurs t text) ∙ ap (marked_below (occurs t text)) none }

  -- the test of a state says whether an occurrence ends there
  pub read_more : (test : S → Bool) (n marked : ℕ) (state more : S) (word : ℕ) (w : W) → ((k : ℕ) → k ≤ length text → test (state_after start step words text k) ≡ ends_at t text (length t.bytes) k) →
      n < length text → n < 63 + length t.bytes → w ≡ words (get_or text n 0) → more ≡ step state w → marked ≡ marked_at word (test more) (n + 1) (length t.bytes) →
      Read start step words t text n state word → Read start step words t text (n + 1) more marked
  read_more test n marked state more word w ends within few b e is h =
      let now = state-more start step words text n state more w b e h.state_is in
      record {
        state_is = now;
        word_is = is ∙ mark-more (occurs t text) (length t.bytes) n word (test more) few h.word_is (ap test now ∙ ends (n + 1) (omega arith));
      }

  -- all that the stretch can hold
  pub read_all : (n word : ℕ) (state : S) → min (length text) (63 + length t.bytes) ≤ n → Read start step words t text n state word → word ≡ scanned t text
  read_all n word state all h = h.word_is ∙ marked_all (occurs t text) (n + 1 - length t.bytes) (λ s below past. occurs-past t text s (omega arith))

-- the first k bytes of the text, each with its place: item i, and how many there are
pub placed : (text : List ℕ) (k i : ℕ) (p : ℕ × ℕ) → (i < length (take k (enumerate_from 0 text))) × (p ≡ get_or (take k (enumerate_from 0 text)) i p) →
    (i < length text) × ((i < k) × ((p.0 ≡ i) × (p.1 ≡ get_or text i 0)))
placed text k i p h =
    let counted = length-enumerate_from 0 text in
    let short = length-take k (enumerate_from 0 text) in
    let below : i < k = omega (arith, h.0) in
    let within : i < length text = omega (arith, h.0) in
    let is : p ≡ (0 + i, get_or text i p.1) = h.1 ∙ get_or-take k (enumerate_from 0 text) i p below ∙ get_or-enumerate_from 0 text i p within in
    let at : 0 + i ≡ i = omega arith in
    (within, (below, (ap (λ (x : ℕ × ℕ). x.0) is ∙ at, ap (λ (x : ℕ × ℕ). x.1) is ∙ get_or_default text i p.1 0 within)))

pub placed-count : (text : List ℕ) (k : ℕ) → length (take k (enumerate_from 0 text)) ≡ min k (length text)
placed-count text k = length-take k (enumerate_from 0 text) ∙ ap (min k) (length-enumerate_from 0 text)

-- the loop over them
module _
    (text : List ℕ) (many : ℕ) (b : Iter ℕ) (e : Enumerate (Iter ℕ)) (k s : Take (Enumerate (Iter ℕ)))
    (rest : iter_rest b ≡ text) (source : enumerate_source e ≡ b) (count : enumerate_count e ≡ 0) (taken : take_source k ≡ e) (most : take_count k ≡ many) (is : s ≡ k)
  where
    pub bytes-road : YieldsList {B = ℕ × ℕ} (take_steps (enumerate_steps iter_steps)) (λ p. (p.0, p.1.now)) s (take many (enumerate_from 0 text))
    bytes-road = YieldsList-at is (YieldsList-from_take many (YieldsList-at taken (YieldsList-from_enumerate (YieldsList-at source (YieldsList-from_slice text rest)) count)) most)

-- What every galley keeps and answers. Assumes nothing.
use Rattle.std.specs.Prelude.{◌≡◌, ℕ, ◌+◌, ◌<◌, ◌≤◌, Bool, false, cond, List, length, take, drop, is_ok, Some, None, Result, nat_le, nat_lt, slice_index, slice_set}
use Rattle.rules.specs.declared.refusal.Refusal.{Refusal}
use Rattle.rules.specs.declared.refusal.Refusal.TheVariants.{PastText}
use Rattle.rules.specs.Refusals.{answer_of}
use Rattle.rules.specs.Terms.{folded}

-- what a galley shows for a byte: shown again it is the same, and folding a byte first does not matter to its fold
pub record Showing (shows : ℕ → ℕ) : Type 0 where
  pub again : (b : ℕ) → shows (shows b) ≡ shows b
  pub fold : (b : ℕ) → folded (shows (folded b)) ≡ folded (shows b)

-- a galley's text: at most 16,384 bytes, each of which shows as itself
pub record Text (shows : ℕ → ℕ) (text : List ℕ) : Type 0 where
  pub short : length text ≤ 16384
  pub shown : (p : ℕ) → p < length text → shows (slice_index text p) ≡ slice_index text p

-- the stretch of l bytes from `at` lies within the text
abbrev pub within : List ℕ → ℕ → ℕ → Bool
within text at l = nat_le (at + l) (length text)

-- a fetch fills the whole buffer with the text from `at`, or is refused with PastText and leaves it
pub record Fetched (text : List ℕ) (at : ℕ) (before : List ℕ) (r : Result (Unit {0}) Refusal) (filled : List ℕ) : Type 0 where
  pub value : r ≡ answer_of (cond (within text at (length before)) None (Some PastText))
  pub after : filled ≡ cond (within text at (length before)) (take (length before) (drop at text)) before

-- a put makes the text's byte at `at` the shown byte and leaves the others, or is refused with PastText and leaves the galley
pub record Put {G : Type 0} (text : G → List ℕ) (old : G) (at shown : ℕ) (r : Result (Unit {0}) Refusal) (new : G) : Type 0 where
  pub value : r ≡ answer_of (cond (nat_lt at (length (text old))) None (Some PastText))
  pub after : text new ≡ slice_set (text old) at shown
  pub same : is_ok r ≡ false → new ≡ old

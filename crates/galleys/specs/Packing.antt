-- Four six-bit codes in each three bytes, highest bits first. Assumes nothing.
use Rattle.std.specs.Prelude.{◌≡◌, ℕ, ◌+◌, ◌-◌, ◌*◌, ◌/◌, ◌%◌, ◌^◌, ◌<◌, ◌≤◌, min, cond, List, map, length, ◌==◌, slice_index}
use Rattle.std.specs.List.{range_with_len}

-- group g of a buffer, its bytes 3g to 3g + 2, as one number of 24 bits
abbrev pub group : List ℕ → ℕ → ℕ
group buffer g = slice_index buffer (3 * g) * 65536 + (slice_index buffer (3 * g + 1) * 256 + slice_index buffer (3 * g + 2))

-- code r of a group, of four, the highest first
unfoldable pub code_in : ℕ → ℕ → ℕ
code_in v r = v / 2 ^ (18 - 6 * r) % 64

-- the group with its code r made c
unfoldable pub recoded_group : ℕ → ℕ → ℕ → ℕ
recoded_group v r c = v - code_in v r * 2 ^ (18 - 6 * r) + c * 2 ^ (18 - 6 * r)

-- the code of character p of a buffer
abbrev pub code_at : List ℕ → ℕ → ℕ
code_at buffer p = code_in (group buffer (p / 4)) (p % 4)

-- how many characters the whole groups of l bytes hold
abbrev pub characters : ℕ → ℕ
characters l = l / 3 * 4

-- how many of them are in use
abbrev pub six_length : List ℕ → ℕ
six_length buffer = min (characters (length buffer)) 16384

-- the l characters from `at` on; a character is its code and 32
abbrev pub code_text : List ℕ → ℕ → ℕ → List ℕ
code_text buffer at l = map (λ p. 32 + code_at buffer p) (range_with_len at l)

-- only the code of character `at` is another: every other character, also those past the ones in use, and the bytes after the last whole group are as they were
pub record Recoded (old : List ℕ) (at c : ℕ) (new : List ℕ) : Type 0 where
  pub long : length new ≡ length old
  pub codes : (p : ℕ) → p < characters (length old) → code_at new p ≡ cond (p == at) c (code_at old p)
  pub rest : (i : ℕ) → length old / 3 * 3 ≤ i → slice_index new i ≡ slice_index old i

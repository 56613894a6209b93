-- What the buffer of a six-bit galley holds, and what is shown. Assumes nothing.
use Rattle.std.specs.Prelude.{ℕ, ◌-◌, cond, ◌&&◌, List, nat_le}
use Rattle.galleys.specs.Packing.{code_text, six_length}

-- 32 to 95 as they are, the small letters 97 to 122 as their capitals, every other byte as a space
abbrev pub six_shown : ℕ → ℕ
six_shown b = cond (nat_le 32 b && nat_le b 95) b (cond (nat_le 97 b && nat_le b 122) (b - 32) 32)

-- the text is the first 16,384 characters of the buffer
abbrev pub six_text : List ℕ → List ℕ
six_text buffer = code_text buffer 0 (six_length buffer)

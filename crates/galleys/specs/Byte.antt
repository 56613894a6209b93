-- What the buffer of a byte galley holds. Assumes nothing.
use Rattle.std.specs.Prelude.{ℕ, List, take}

-- the text is the first 16,384 bytes of the buffer
abbrev pub byte_text : List ℕ → List ℕ
byte_text buffer = take 16384 buffer

-- A word of starts that is marked as a matcher reads on. Assumes nothing.
use Rattle.std.specs.Prelude.{ℕ, ◌-◌, ◌*◌, ◌%◌, ◌^◌, Bool, cond, ◌&&◌, bit_or, nat_le}

-- the word with the start marked whose m bytes are the last of those read, where an occurrence ends there
abbrev pub marked_at : ℕ → Bool → ℕ → ℕ → ℕ
marked_at word ends read m = cond (ends && nat_le m read) (bit_or word (1 * 2 ^ (read - m) % 2 ^ 64)) word

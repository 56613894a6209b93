-- The two-way matcher: windows that are read from their centre both ways. Words have 64 bits, of which the m highest, from d = 64 - m up, are the term's places. Assumes nothing.
use Rattle.std.specs.Prelude.{ℕ, zero, suc, ◌+◌, ◌-◌, ◌*◌, ◌/◌, ◌%◌, ◌^◌, Bool, cond, not, ◌&&◌, ◌||◌, List, length, Some, None, Option, ◌==◌, bit_and, bit_or, nat_le, nat_lt, slice_index}
use Rattle.rules.specs.Words.{word_of, bit, all}
use Rattle.rules.specs.Terms.{Term}
use Rattle.matchers.specs.Places.{clear_row}

-- the lowest of the m bits
abbrev pub low_bit : Term → ℕ
low_bit t = 64 - length t.bytes

-- the table's word for the byte b: bit d + i is clear exactly when the byte matches place i, and the bits below d are clear
abbrev pub two_way_row : Term → ℕ → ℕ
two_way_row t b = clear_row t (low_bit t) b

-- the word with every one of the m bits set
abbrev pub full_word : ℕ → ℕ
full_word d = word_of (λ i. nat_le d i) 64

-- the word at the place p: the table's for the text's byte there, and past the text all m bits set
abbrev pub word_at : Term → List ℕ → ℕ → ℕ
word_at t text p = cond (nat_lt p (length text)) (two_way_row t (slice_index text p)) (full_word (low_bit t))

-- the state of the window at the centre c after j steps: it starts as the word at c, and step j ors the word at c - j shifted left by j and the word at c + j shifted right by j
abbrev pub window_state : Term → List ℕ → ℕ → ℕ → ℕ
window_state t text c zero = word_at t text c
window_state t text c (suc j) = bit_or (bit_or (window_state t text c j) (word_at t text (c - suc j) * 2 ^ suc j % 2 ^ 64)) (word_at t text (c + suc j) / 2 ^ suc j)

-- every one of the m bits is set, so that the window is left
abbrev pub is_full : Term → ℕ → Bool
is_full t state = bit_and state (full_word (low_bit t)) == full_word (low_bit t)

-- the centres are m - 1, 2m - 1 and so on
abbrev pub centre : Term → ℕ → ℕ
centre t w = (w + 1) * length t.bytes - 1

-- window w is looked at: its centre lies within the text, and its first start is at most 63
abbrev pub is_window : Term → List ℕ → ℕ → Bool
is_window t text w = nat_lt (centre t w) (length text) && nat_le (w * length t.bytes) 63

-- the state of the window at the centre c after step j, 0 for its start; none where the window was left before
abbrev pub window_steps : Term → List ℕ → ℕ → ℕ → Option ℕ
window_steps t text c j = cond (all (λ i. not (is_full t (window_state t text c i))) j) (Some (window_state t text c j)) None

-- the state of window w after step j, of steps up to m - 1; none where there is no such window or step
abbrev pub two_way_state : Term → List ℕ → ℕ → ℕ → Option ℕ
two_way_state t text w j = cond (is_window t text w && nat_lt j (length t.bytes)) (window_steps t text (centre t w) j) None

-- the word of the starts with those marked that the first n clear bits of a window's state say: bit 64 - m + q for the start c - q
abbrev pub window_marked : ℕ → ℕ → ℕ → ℕ → ℕ → ℕ
window_marked word state m c n = word_of (λ s. bit word s || (nat_le s c && (nat_lt (c - s) n && not (bit state (64 - m + (c - s)))))) 64

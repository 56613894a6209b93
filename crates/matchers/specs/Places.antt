-- What the bits of a matcher's words mean: places of the term. Assumes nothing.
use Rattle.std.specs.Prelude.{◌≡◌, ℕ, zero, suc, ◌-◌, ◌*◌, ◌%◌, ◌^◌, ◌<◌, Bool, not, ◌&&◌, List, [], length, Some, None, Option, bit_and, bit_or, nat_le, nat_lt, slice_index}
use Rattle.rules.specs.declared.held.HeldTerm.{HeldTerm}
use Rattle.rules.specs.Held.{term_of}
use Rattle.rules.specs.Words.{word_of}
use Rattle.rules.specs.Terms.{Term, byte_matches, occurs}

-- the byte b matches place i of the term, of which there are m
unfoldable pub hits : Term → ℕ → ℕ → Bool
hits t i b = nat_lt i (length t.bytes) && byte_matches t i b

-- the term that is held; where none is, the term with no place
abbrev pub held_places : Option HeldTerm → Term
held_places None = record { bytes = []; limit = 0 }
held_places (Some h) = term_of h

-- the word that stands for each byte is the one that is to stand for it
abbrev pub Filled : {W : Type 0} → (ℕ → W) → (ℕ → W) → Type 0
Filled words due = (b : ℕ) → b < 256 → words b ≡ due b

-- a table of 256 words, one for each byte
abbrev pub Rows : List ℕ → (ℕ → ℕ) → Type 0
Rows table row = Filled (λ b. slice_index table b) row

-- the state after the first n bytes of the text: from the start, one step for each byte, with the byte's table word
abbrev pub state_after : {S W : Type 0} → S → (S → W → S) → (ℕ → W) → List ℕ → ℕ → S
state_after start step row text zero = start
state_after start step row text (suc n) = step (state_after start step row text n) (row (slice_index text n))

-- an occurrence of m bytes ends after the first n bytes of the text
abbrev pub ends_at : Term → List ℕ → ℕ → ℕ → Bool
ends_at t text m n = nat_le m n && occurs t text (n - m)

-- Shift-Or, 64 bits. The table's word: bit i is clear exactly when the byte matches place i
abbrev pub or_row : Term → ℕ → ℕ
or_row t b = word_of (λ i. not (hits t i b)) 64

-- a step shifts the state left by one and ors the table's word; the state starts with all bits set
abbrev pub or_step : ℕ → ℕ → ℕ
or_step state word = bit_or (state * 2 ^ 1 % 2 ^ 64) word

abbrev pub or_state : Term → List ℕ → ℕ → ℕ
or_state t text n = state_after (2 ^ 64 - 1) or_step (or_row t) text n

-- Shift-And, 32 bits. The table's word: bit i is set exactly when the byte matches place i
abbrev pub and_row : Term → ℕ → ℕ
and_row t b = word_of (λ i. hits t i b) 32

-- a step shifts the state left by one, sets bit 0 and ands the table's word; the state starts with all bits clear
abbrev pub and_step : ℕ → ℕ → ℕ
and_step state word = bit_and (bit_or (state * 2 ^ 1 % 2 ^ 32) 1) word

abbrev pub and_state : Term → List ℕ → ℕ → ℕ
and_state t text n = state_after 0 and_step (and_row t) text n

-- the word of 64 bits whose bit d + i is clear exactly when the byte matches place i, and so are the bits below d
abbrev pub clear_row : Term → ℕ → ℕ → ℕ
clear_row t d b = word_of (λ j. nat_le d j && not (hits t (j - d) b)) 64

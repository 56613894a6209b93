-- What a term is, when a byte matches it, and where it occurs. Assumes nothing.
use Rattle.std.specs.Prelude.{ℕ, ◌+◌, Bool, cond, ◌&&◌, ◌||◌, List, length, ◌==◌, nat_le, nat_lt, slice_index}
use Rattle.rules.specs.Words.{word_of, all}

-- 'A' to 'Z' as 'a' to 'z'; tab, line feed and carriage return as a space; every other byte as it is
abbrev pub folded : ℕ → ℕ
folded b = cond (nat_le 65 b && nat_le b 90) (b + 32) (cond (b == 9 || (b == 10 || b == 13)) 32 b)

-- a term: its bytes, and its limit, the number of its first bytes that match by their fold
pub record Term : Type 0 where
  pub bytes : List ℕ
  pub limit : ℕ

-- the byte b matches p, the term's byte i, under the limit k: it is p or, for i below k, has the same fold
abbrev pub same_byte : ℕ → ℕ → ℕ → ℕ → Bool
same_byte k i p b = b == p || (nat_lt i k && folded b == folded p)

-- the byte b matches the term's byte i
abbrev pub byte_matches : Term → ℕ → ℕ → Bool
byte_matches t i b = same_byte t.limit i (slice_index t.bytes i) b

-- the first r bytes of the term match the text's bytes from s on
unfoldable pub front : Term → List ℕ → ℕ → ℕ → Bool
front t text s r = all (λ i. byte_matches t i (slice_index text (s + i))) r

-- the term occurs in the text at s: its m bytes end within the text, and each is matched by the text's byte there
unfoldable pub occurs : Term → List ℕ → ℕ → Bool
occurs t text s = nat_le (s + length t.bytes) (length text) && front t text s (length t.bytes)

-- the word of a scan: bit s, of 64, is set exactly when the term occurs in the stretch at s
abbrev pub scanned : Term → List ℕ → ℕ
scanned t stretch = word_of (occurs t stretch) 64

-- the term with no byte in either case: it occurs exactly where the term's own bytes stand
abbrev pub own_term : Term → Term
own_term t = record { bytes = t.bytes; limit = 0 }

-- the variant of the term at s: 0 where the text's bytes from s are the term's own, and 1 otherwise
abbrev pub variant_at : Term → List ℕ → ℕ → ℕ
variant_at t text s = cond (occurs (own_term t) text s) 0 1

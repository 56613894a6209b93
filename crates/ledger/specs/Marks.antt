-- Which terms are marked where. Assumes nothing.
use Rattle.std.specs.Prelude.{◌≡◌, ℕ, ◌/◌, ◌%◌, Bool, cond, ◌&&◌, ◌==◌, slice_index}
use Rattle.rules.specs.Words.{bit}
use Rattle.ledger.specs.declared.marks.Marks.{Marks}
use Rattle.ledger.specs.declared.unit.Unit.{Unit}

-- the term under the number n is marked at the start s
abbrev pub marked : Marks → ℕ → ℕ → Bool
marked m n s = bit (slice_index m.words s) n

-- the marks of the unit's number at the starts of the unit's block are the word's bits, and the others as before
abbrev pub Stored : Marks → Unit → ℕ → Marks → Type 0
Stored m u word o = (n s : ℕ) → marked o n s ≡ cond (n == u.number.value && s / 64 == u.block) (bit word (s % 64)) (marked m n s)

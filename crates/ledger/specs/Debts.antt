-- Which units are owed. Assumes nothing.
use Rattle.std.specs.Prelude.{◌≡◌, ℕ, ◌*◌, ◌/◌, ◌%◌, ◌<◌, ◌≤◌, min, Bool, true, false, cond, ◌&&◌, Some, None, Option, ◌==◌, nat_le, nat_lt, slice_index}
use Rattle.rules.specs.Words.{bit}
use Rattle.rules.specs.declared.numbers.TermNumber.{TermNumber}
use Rattle.ledger.specs.declared.debts.Debts.{Debts}
use Rattle.ledger.specs.declared.unit.Unit.{Unit}
use Rattle.ledger.specs.Units.{unit_index}

-- the unit of the number n at the block b is owed
abbrev pub owes : Debts → ℕ → ℕ → Bool
owes d n b = bit (slice_index d.words b) n

-- the same by the unit's place in the order of work
abbrev pub owed : Debts → ℕ → Bool
owed d x = owes d (x % 16) (x / 16)

-- the number's units at the blocks from `from` to before `to` are owed, of the 256 blocks, and the others as before
abbrev pub Owed : Debts → ℕ → ℕ → ℕ → Debts → Type 0
Owed d number from to e = (n b : ℕ) → owes e n b ≡ cond (n == number && (nat_le from b && nat_lt b (min to 256))) true (owes d n b)

-- the same, but that the units are owed or not, as `on` says
abbrev pub Turned : Debts → ℕ → ℕ → ℕ → Bool → Debts → Type 0
Turned d number from to on e = (n b : ℕ) → owes e n b ≡ cond (n == number && (nat_le from b && nat_lt b (min to 256))) on (owes d n b)

-- the unit is owed no more, and the others as before
abbrev pub Cleared : Debts → Unit → Debts → Type 0
Cleared d u e = (n b : ℕ) → owes e n b ≡ cond (n == u.number.value && b == u.block) false (owes d n b)

-- the lowest number whose bit in the word is set; none where no number's bit is
abbrev pub Lowest : ℕ → Option TermNumber → Type 0
Lowest word None = (n : ℕ) → n < 16 → bit word n ≡ false
Lowest word (Some number) = (bit word number.value ≡ true) × ((n : ℕ) → n < number.value → bit word n ≡ false)

-- the unit is owed, at a block from `from` on, and no unit of those blocks that comes before it is
pub record Foremost (d : Debts) (from : ℕ) (u : Unit) : Type 0 where
  pub low : 16 * from ≤ unit_index u
  pub high : unit_index u < 4096
  pub here : owed d (unit_index u) ≡ true
  pub before : (x : ℕ) → 16 * from ≤ x → x < unit_index u → owed d x ≡ false

-- the first owed unit at the blocks from `from` on; none where none of them is owed
abbrev pub FirstOwed : Debts → ℕ → Option Unit → Type 0
FirstOwed d from None = (x : ℕ) → 16 * from ≤ x → x < 4096 → owed d x ≡ false
FirstOwed d from (Some u) = Foremost d from u

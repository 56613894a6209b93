-- The order of work. Assumes nothing.
use Rattle.std.specs.Prelude.{ℕ, ◌+◌, ◌*◌}
use Rattle.ledger.specs.declared.unit.Unit.{Unit}

-- the unit's place in the order of work: by blocks, and within a block by numbers
abbrev pub unit_index : Unit → ℕ
unit_index u = 16 * u.block + u.number.value

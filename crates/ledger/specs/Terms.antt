-- Which terms stand. Assumes nothing.
use Rattle.std.specs.Prelude.{◌≡◌, ℕ, cond, map, Some, None, Option, ◌==◌, slice_index_or}
use Rattle.std.specs.Option.{option_map}
use Rattle.rules.specs.Terms.{Term}
use Rattle.rules.specs.Held.{term_of}
use Rattle.ledger.specs.declared.row.Row.{Row}
use Rattle.ledger.specs.declared.row.Table.{Table}
use Rattle.ledger.specs.declared.row.Terms.{Terms}

-- the term that stands in a row
abbrev pub row_term : Row → Option Term
row_term r = option_map term_of r.term

-- the term in row n of the table; none where there is no such row
abbrev pub term_at : Table → ℕ → Option Term
term_at t n = slice_index_or (map row_term t.rows) n None

-- the term under the number n; none past 15
abbrev pub standing : Terms → ℕ → Option Term
standing ts n = term_at ts.table n

-- the term stands under the number, and under every other number what stood there before
abbrev pub Stood : Terms → ℕ → Term → Terms → Type 0
Stood ts number term us = (n : ℕ) → standing us n ≡ cond (n == number) (Some term) (standing ts n)

-- the same of a term or of none
abbrev pub Stands : Terms → ℕ → Option Term → Terms → Type 0
Stands ts number term us = (n : ℕ) → standing us n ≡ cond (n == number) term (standing ts n)

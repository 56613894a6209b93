-- Which locators are listed, and the first of them. Assumes nothing.
use Rattle.std.specs.Prelude.{ℕ, ◌+◌, ◌*◌, ◌/◌, Bool, cond, not, ◌&&◌, length, Some, None, Ok, Err, Option, Result, nat_lt}
use Rattle.std.specs.Option.{option_map}
use Rattle.rules.specs.declared.refusal.Refusal.{Refusal}
use Rattle.rules.specs.declared.refusal.Refusal.TheVariants.{NumberTooHigh, NoTermStands}
use Rattle.rules.specs.declared.locator.Locator.{Locator}
use Rattle.rules.specs.Terms.{Term, occurs, variant_at}
use Rattle.ledger.specs.Pages.{page_at, place_at}
use Rattle.ledger.specs.Books.{first_from}
use Rattle.indexer.specs.Machine.{Machine}

-- the locator of the term at the start s: the page is the last that begins at or before it
abbrev pub locator_at : Machine → Term → ℕ → Locator
locator_at m t s = record { start = s; page = page_at m.pages s; place = place_at m.pages s; variant = variant_at t m.text s }

-- the term t, which stands under the number, is listed at s: it occurs there, and its unit is not owed
abbrev pub listed : Machine → ℕ → Term → ℕ → Bool
listed m number t s = occurs t m.text s && not (m.owed (16 * (s / 64) + number))

abbrev pub first_of : (Term → ℕ → Bool) → Machine → Option Term → ℕ → Result (Option Locator) Refusal
first_of found m None from = Err NoTermStands
first_of found m (Some t) from = Ok (option_map (locator_at m t) (first_from (found t) from (length m.text)))

-- the first locator of the number's term at or after `from`, of those found; refused for the number, then where no term stands under it
abbrev pub locating : (Term → ℕ → Bool) → Machine → ℕ → ℕ → Result (Option Locator) Refusal
locating found m number from = cond (nat_lt number 16) (first_of found m (m.stands number) from) (Err NumberTooHigh)

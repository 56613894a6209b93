-- What a comparer holds and takes. Assumes nothing.
use Rattle.std.specs.Prelude.{ℕ, Bool, ◌&&◌, Option, nat_le, nat_lt}
use Rattle.std.specs.Option.{option_map}
use Rattle.rules.specs.Held.{term_of}
use Rattle.rules.specs.Terms.{Term}
use Rattle.matchers.specs.declared.comparer.Comparer.{Comparer}

abbrev pub comparer_term : Comparer → Option Term
comparer_term c = option_map term_of c.term

-- every term of 1 to 64 bytes with a limit below its length
abbrev pub comparer_fits : ℕ → ℕ → Bool
comparer_fits m k = nat_le 1 m && (nat_le m 64 && nat_lt k m)

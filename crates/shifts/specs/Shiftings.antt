-- What a matcher that shifts its state holds. Assumes nothing.
use Rattle.std.specs.Prelude.{Option}
use Rattle.std.specs.Option.{option_map}
use Rattle.rules.specs.Held.{term_of}
use Rattle.rules.specs.Terms.{Term}
use Rattle.shifts.specs.declared.shifting.Shifting.{Shifting}

abbrev pub shifting_term : {T W : Type 0} {rule : _} → Shifting T W rule → Option Term
shifting_term s = option_map term_of s.term

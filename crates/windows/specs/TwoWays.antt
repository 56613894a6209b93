-- What a two-way Shift-Or matcher holds. Assumes nothing.
use Rattle.std.specs.Prelude.{Option}
use Rattle.std.specs.Option.{option_map}
use Rattle.rules.specs.Held.{term_of}
use Rattle.rules.specs.Terms.{Term}
use Rattle.windows.specs.declared.two_way.TwoWayShiftOr.{TwoWayShiftOr}

abbrev pub two_way_term : TwoWayShiftOr → Option Term
two_way_term s = option_map term_of s.term

use Rattle.matchers.proofs.Filling.{two-way-none}
use Rattle.windows.proofs.two_way.TwoWayShiftOr.new.Goals as goal

pub invariant_of-result : goal.invariant_of-result
invariant_of-result c = record { rows = two-way-none }

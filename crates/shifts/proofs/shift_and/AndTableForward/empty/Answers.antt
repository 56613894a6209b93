use Rattle.matchers.proofs.Filling.{and_none}
use Rattle.shifts.proofs.shift_and.AndTableForward.empty.Goals as goal

pub returns : goal.returns
returns c = and_none

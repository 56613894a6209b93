use Rattle.matchers.proofs.Filling.{or-none}
use Rattle.shifts.proofs.shift_or.OrTableForward.empty.Goals as goal

pub returns : goal.returns
returns c = or-none

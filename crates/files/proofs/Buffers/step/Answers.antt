use Rattle.std.proofs.Common.{refl}
use Rattle.files.specs.Steps.Tried.{at_once, spared}
use Rattle.files.proofs.Buffers.step.Goals as goal

pub returns-in-Ok : goal.returns-in-Ok
returns-in-Ok g c = record { tried = at_once (record { lent = _; shows = refl; left = _; met = c.in-Ok.ensures }) }

pub returns : goal.returns
returns g c = record { tried = spared (record { lent = _; shows = refl; left = _; met = c.in-Err.ensures }) (record { lent = _; shows = refl; left = _; met = c.step-in-Err.ensures }) }

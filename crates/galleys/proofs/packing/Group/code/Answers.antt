use Rattle.std.proofs.Common.{refl}
use Rattle.galleys.proofs.Codes.{code-shifted}
use Rattle.galleys.proofs.packing.Group.code.Goals as goal

pub returns : goal.returns
returns c = record { value = code-shifted c.args.self.bits c.args.self.bits c.args.r refl }

use Rattle.std.proofs.Common.{arith, length-take}
use Rattle.galleys.proofs.byte.BytesEncoding.length.Goals as goal

pub returns : goal.returns
returns c = record { value = simp length-take (omega arith) }

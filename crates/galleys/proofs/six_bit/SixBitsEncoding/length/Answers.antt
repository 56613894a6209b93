use Rattle.std.proofs.Common.{arith}
use Rattle.galleys.specs.Packing.{six_length}
use Rattle.galleys.proofs.Codes.{length-text}
use Rattle.galleys.proofs.six_bit.SixBitsEncoding.length.Goals as goal

pub returns : goal.returns
returns c = let n = length-text c.args.buffer.now 0 (six_length c.args.buffer.now) in record { value = omega arith }

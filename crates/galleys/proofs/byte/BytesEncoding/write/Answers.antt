use Rattle.std.proofs.Common.{arith, length-take}
use Rattle.galleys.proofs.Parts.{take-set-in}
use Rattle.galleys.proofs.byte.BytesEncoding.write.Goals as goal

pub bounds-buffer-at : goal.bounds-buffer-at
bounds-buffer-at c = let n = length-take 16384 c.args.buffer.now in omega (arith, c.requires)

pub returns-clause-text : goal.returns-clause-text
returns-clause-text c =
    let buffer = c.args.buffer.now in
    let n = length-take 16384 buffer in
    take-set-in 16384 buffer c.args.at c.args.b (omega (arith, c.requires)) (omega (arith, c.requires))

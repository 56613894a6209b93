use Rattle.std.proofs.Common.{◌∙◌, length, arith, length-take}
use Rattle.galleys.proofs.Parts.{part_of}
use Rattle.galleys.proofs.byte.BytesEncoding.read.Goals as goal

pub overflow_add-end : goal.overflow_add-end
overflow_add-end c = let n = length-take 16384 c.args.buffer.now in omega (arith, c.requires)

pub slice_bounds-copy_from_slice-end : goal.slice_bounds-copy_from_slice-end
slice_bounds-copy_from_slice-end c = let n = length-take 16384 c.args.buffer.now in omega (arith, c.requires)

pub returns : goal.returns
returns c =
    let buffer = c.args.buffer.now in
    let n = length-take 16384 buffer in
    record { filled = c.copy_from_slice.ensures.after ∙ part_of 16384 buffer c.args.at (length c.args.part.now) (omega (arith, c.requires)) (omega (arith, c.requires)) }

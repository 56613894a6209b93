use Rattle.std.proofs.Common.{refl, arith}
use Rattle.std.proofs.lemmas.List.{length-append}
use Rattle.index_file.proofs.Writing.{two-parts}
use Rattle.index_file.proofs.placing.place.Goals as goal

pub returns : goal.returns
returns g c =
    let front = c.args.front.now in
    let rest = c.args.rest.now in
    let long = length-append front rest in
    let copied = c.copy_from_slice.ensures.after in
    let then = c.copy_from_slice-2.ensures.after in
    record { placed = (omega arith, refl, omega arith, two-parts c.args.buffer.now front rest _ _ c.args.at _ _ _ _ copied then (omega arith) (omega arith) (omega arith) (omega arith) (omega arith)) }

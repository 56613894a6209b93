use Rattle.std.proofs.Common.{get_or, set, ap, ◌∙◌, arith}
use Rattle.std.proofs.lemmas.List.{get_or_default}
use Rattle.std.proofs.lemmas.List.Edits.{map_over_more}
use Rattle.indexer.proofs.shown.show_all.Goals as goal

pub loop-b-preserved : goal.loop-b-preserved
loop-b-preserved g c =
    let ys = c.loop-b.bytes in
    let i = c.loop-b.b-index in
    ap (set ys i) c.show.ensures.value
    ∙ map_over_more g.G.Galley.shows c.args.bytes.now ys i (get_or ys i 0) (omega arith) c.loop-b.invariant (get_or_default ys i 0 (get_or ys i 0) (omega (arith, c.loop-b.auto.bytes)))

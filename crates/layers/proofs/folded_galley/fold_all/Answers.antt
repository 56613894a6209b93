use Rattle.std.proofs.Common.{get_or, set, ap, ◌∙◌, arith}
use Rattle.std.proofs.lemmas.List.{get_or_default}
use Rattle.std.proofs.lemmas.List.Edits.{map_over_more}
use Rattle.rules.specs.Terms.{folded}
use Rattle.layers.proofs.folded_galley.fold_all.Goals as goal

pub loop-b-preserved : goal.loop-b-preserved
loop-b-preserved c =
    let ys = c.loop-b.bytes in
    let i = c.loop-b.b-index in
    ap (set ys i) c.fold.ensures.value
    ∙ map_over_more folded c.args.bytes.now ys i (get_or ys i 0) (omega arith) c.loop-b.invariant (get_or_default ys i 0 (get_or ys i 0) (omega (arith, c.loop-b.auto.bytes)))

use Rattle.std.proofs.Common.{map, length, take, drop, sym, ap, ◌∙◌}
use lib.ListN.{length-map}
use Rattle.std.proofs.lemmas.List.{take-map, drop-map}
use Rattle.rules.specs.Terms.{folded}
use Rattle.galleys.proofs.Calls.{fetched-within}
use Rattle.layers.specs.Folded.{folded_text}
use Rattle.layers.proofs.Fetches.{fetched-through}
use Rattle.layers.proofs.folded_galley.FoldedGalleyGalley.fetch.Goals as goal

pub returns : goal.returns
returns g c =
    let text = g.G.Galley.text c.args.self.now.below in
    let at = c.args.at in
    let old = c.args.buffer.now in
    let l = length old in
    let got = c.in_ok-fetch.ensures.fetched in
    record {
      fetched = fetched-through text (folded_text text) (length-map text folded) at old c.fetch.new.buffer _ _ got
          (c.fold_all.ensures.after ∙ ap (map folded) (fetched-within text at old _ _ got).1 ∙ sym (ap (take l) (drop-map folded at text) ∙ take-map folded l (drop at text)));
    }

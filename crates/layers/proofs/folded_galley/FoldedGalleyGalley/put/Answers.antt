use Rattle.std.proofs.Common.{ap}
use Rattle.layers.specs.declared.folded.FoldedGalley.{FoldedGalley}
use Rattle.layers.proofs.Folds.{folded-put}
use Rattle.layers.proofs.folded_galley.FoldedGalleyGalley.put.Goals as goal

pub returns-clause-put : goal.returns-clause-put
returns-clause-put g c =
    folded-put g.G.Galley.text (λ (s : FoldedGalley g.row.G.Denot). s.below) g.G.Galley.shows c.args.self.now (record { below = c.put.new.self }) c.args.at c.args.b c.put.result c.put.ensures.put (λ e. ap (λ b. record { below = b }) e)

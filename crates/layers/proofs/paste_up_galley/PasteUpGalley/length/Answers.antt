use Rattle.std.proofs.Common.{sym, ◌∙◌}
use Rattle.layers.specs.Pasted.{paste_list}
use Rattle.layers.specs.PastedTexts.{length_over}
use Rattle.layers.proofs.paste_up_galley.PasteUpGalley.length.Goals as goal

pub returns : goal.returns
returns g c =
    let s = c.args.self.now in
    record { value = c.length.ensures.value ∙ sym (length_over g.G.Galley.shows (g.G.Galley.text s.below) (paste_list s.pastes)) }

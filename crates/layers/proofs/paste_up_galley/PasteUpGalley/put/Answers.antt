use Rattle.std.proofs.Common.{refl, arith}
use Rattle.galleys.proofs.Calls.{put_one, put-none}
use Rattle.layers.specs.Pasted.{paste_list, pasted_text}
use Rattle.layers.specs.PastedTexts.{length_over}
use Rattle.layers.proofs.Overlays.{pasting-text}
use Rattle.layers.proofs.paste_up_galley.PasteUpGalley.put.Goals as goal

pub returns-then-at-length-clause-put : goal.returns-then-at-length-clause-put
returns-then-at-length-clause-put g c =
    let s = c.args.self.now in
    let shows = g.G.Galley.shows in
    let n = length_over shows (g.G.Galley.text s.below) (paste_list s.pastes) in
    put-none (pasted_text g.G.Galley) s c.args.at (shows c.args.b) s (omega (arith, c.length.ensures.value)) refl

pub returns-clause-put : goal.returns-clause-put
returns-clause-put g c =
    let s = c.args.self.now in
    let shows = g.G.Galley.shows in
    let n = length_over shows (g.G.Galley.text s.below) (paste_list s.pastes) in
    put_one (pasted_text g.G.Galley) s c.args.at (shows c.args.b) _ (omega (arith, c.length.ensures.value))
    (pasting-text g.G.Galley s.below (paste_list s.pastes) c.args.at c.args.b c.paste.new.self.below (paste_list c.paste.new.self.pastes) c.paste.ensures.pasted)

use Rattle.std.proofs.Common.{◌≡◌, length, take, drop, sym, ap, ◌∙◌, arith}
use Rattle.std.proofs.lemmas.Result.{err_from_is_err_and}
use Rattle.galleys.proofs.Calls.{fetched-within}
use Rattle.layers.specs.Pasted.{over, paste_list}
use Rattle.layers.proofs.Fetches.{fetched-through, refused-through}
use Rattle.layers.specs.PastedTexts.{length_over}
use Rattle.layers.proofs.paste_up_galley.PasteUpGalley.fetch.Goals as goal

pub returns-in_err-fetch : goal.returns-in_err-fetch
returns-in_err-fetch g c =
    let s = c.args.self.now in
    let text = g.G.Galley.text s.below in
    let shows = g.G.Galley.shows in
    let p = err_from_is_err_and c.from_residual.result c.from_residual.ensures.1 in
    rw (p.1, p.2) (record { fetched = refused-through text (over shows text (paste_list s.pastes)) (length_over shows text (paste_list s.pastes)) c.args.at c.args.buffer.now _ _ c.in_err-fetch.ensures.fetched })

pub returns : goal.returns
returns g c =
    let s = c.args.self.now in
    let text = g.G.Galley.text s.below in
    let shows = g.G.Galley.shows in
    let at = c.args.at in
    let old = c.args.buffer.now in
    let got = c.in_ok-fetch.ensures.fetched in
    let in-text = fetched-within text at old _ _ got in
    let long : length c.fetch.new.buffer ≡ length old = c.fetch.auto.buffer in
    let laid = c.lay.ensures.laid text (omega (arith, in-text.0)) (in-text.1 ∙ ap (λ l. take l (drop at text)) (sym long)) in
    record {
      fetched = fetched-through text (over shows text (paste_list s.pastes)) (length_over shows text (paste_list s.pastes)) at old c.fetch.new.buffer _ _ got
          (laid ∙ ap (λ l. take l (drop at (over shows text (paste_list s.pastes)))) long);
    }

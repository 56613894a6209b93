use Rattle.std.proofs.Common.{◌∷◌, arith, length}
use Rattle.layers.specs.Pasted.{paste_list}
use Rattle.layers.proofs.Overlays.{one-more, laid_in, laid-before, laid-behind}
use Rattle.layers.proofs.paste_up.PasteUp.lay.Goals as goal
use Rattle.layers.proofs.paste_up.PasteUp.lay.Goals.{else-at-place-via-then-at-place+else-place-at, else-at-place-via-else-at-place}

pub loop-place-preserved-then-place-at : goal.loop-place-preserved-then-place-at
loop-place-preserved-then-place-at g c =
    let h = c.loop-place.invariant in
    let p = c.in-Some.field-0.now in (
      p ∷ h.0,
      one-more (paste_list c.args.self.now.pastes) c.loop-place.place-iterator.iter.rest.now c.next.new.self.iter.rest.now h.0 p h.1 c.in-Some.ensures.steps,
      λ text l e.
          laid_in g.G.Galley.shows text p h.0 c.args.at (length c.args.part.now) l c.loop-place.part (h.2 text l e) c.show.result c.if-at-place.true (omega (arith, c.if-place-at.true, c.loop-place.auto.part)) c.show.ensures.value,
    )

pub loop-place-preserved : goal.loop-place-preserved
loop-place-preserved g c =
    let h = c.loop-place.invariant in
    let p = c.in-Some.field-0.now in (
      p ∷ h.0,
      one-more (paste_list c.args.self.now.pastes) c.loop-place.place-iterator.iter.rest.now c.next.new.self.iter.rest.now h.0 p h.1 c.in-Some.ensures.steps,
      λ text l e.
          elim c.else-at-place.branch [
            | else-at-place-via-then-at-place+else-place-at w ↦
                laid-behind g.G.Galley.shows text p h.0 c.args.at (length c.args.part.now) l c.loop-place.part (h.2 text l e) w.if-at-place.true (omega (arith, w.if-place-at.false, c.loop-place.auto.part))
            | else-at-place-via-else-at-place w ↦
                laid-before g.G.Galley.shows text p h.0 c.args.at (length c.args.part.now) l c.loop-place.part (h.2 text l e) w.if-at-place.false
          ],
    )

use Rattle.std.proofs.Common.{◌≡◌, List, ◌++◌}
use Rattle.layers.specs.declared.paste.Paste.{Paste}
use Rattle.layers.specs.Pasted.{Laid, paste_list}
use Rattle.layers.proofs.paste_up.PasteUp.lay.Given as goal

abbrev pub invariant-loop-place : goal.invariant-loop-place
invariant-loop-place g l = (done : List Paste) × (paste_list l.self.pastes ≡ l.place-iterator.iter.rest.now ++ done) × Laid g.G.Galley.shows done l.at l.initial.part l.part

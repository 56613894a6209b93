use Rattle.std.proofs.Common.{◌≡◌, List, ◌++◌}
use Rattle.layers.specs.declared.paste.Paste.{Paste}
use Rattle.layers.specs.Pasted.{over, paste_list}
use Rattle.layers.proofs.paste_up_galley.put_all.Given as goal

abbrev pub invariant-loop-at : goal.invariant-loop-at
invariant-loop-at g l =
    (done : List Paste) × (paste_list l.pastes ≡ l.at-iterator.iter.rest.now ++ done) × (g.G.Galley.text l.galley ≡ over g.G.Galley.shows (g.G.Galley.text l.initial.galley) done)

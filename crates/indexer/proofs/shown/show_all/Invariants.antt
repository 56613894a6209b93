use Rattle.std.proofs.Common.{◌≡◌, ◌++◌, map, take, drop}
use Rattle.indexer.proofs.shown.show_all.Given as goal

abbrev pub invariant-loop-b : goal.invariant-loop-b
invariant-loop-b g l = l.bytes ≡ map g.G.Galley.shows (take l.b-index l.initial.bytes) ++ drop l.b-index l.initial.bytes

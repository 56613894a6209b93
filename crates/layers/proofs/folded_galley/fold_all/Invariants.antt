use Rattle.std.proofs.Common.{◌≡◌, ◌++◌, map, take, drop}
use Rattle.rules.specs.Terms.{folded}
use Rattle.layers.proofs.folded_galley.fold_all.Given as goal

abbrev pub invariant-loop-b : goal.invariant-loop-b
invariant-loop-b l = l.bytes ≡ map folded (take l.b-index l.initial.bytes) ++ drop l.b-index l.initial.bytes

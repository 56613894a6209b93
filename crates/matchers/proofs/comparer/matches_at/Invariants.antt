use Rattle.std.proofs.Common.{◌≡◌, true}
use Rattle.rules.specs.Held.{term_of}
use Rattle.rules.specs.Terms.{front}
use Rattle.matchers.proofs.comparer.matches_at.Given as goal

abbrev pub invariant-loop-i : goal.invariant-loop-i
invariant-loop-i l = front (term_of l.term) l.stretch l.s l.i ≡ true

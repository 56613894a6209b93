use Rattle.std.proofs.Common.{length}
use Rattle.rules.specs.Held.{term_of}
use Rattle.shifts.proofs.Reading.{Read}
use Rattle.shifts.proofs.shifting.ShiftingMatcher.scan.Given as goal

abbrev pub invariant-loop-n : goal.invariant-loop-n
invariant-loop-n g l = Read g.T.Forward.start g.T.Forward.step (g.T.Forward.words_of (term_of l.term)) (term_of l.term) l.stretch (length l.yielded) l.state l.word

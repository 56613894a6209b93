use Rattle.std.proofs.Common.{◌≡◌, ◌+◌, ◌-◌, ◌≤◌}
use Rattle.rules.specs.Held.{term_of}
use Rattle.rules.specs.Terms.{occurs}
use Rattle.windows.specs.Windows.{window_state}
use Rattle.matchers.proofs.Marking.{marked_below}
use Rattle.windows.proofs.reading.Reading.word.Given as goal

abbrev pub invariant-windows : goal.invariant-windows
invariant-windows l = (l.m ≤ l.centre + 1) × (l.word ≡ marked_below (occurs (term_of l.self.term.now) l.self.stretch.now) (l.centre + 1 - l.m))

abbrev pub invariant-steps : goal.invariant-steps
invariant-steps l = l.state ≡ window_state (term_of l.self.term.now) l.self.stretch.now l.centre (l.j - 1)

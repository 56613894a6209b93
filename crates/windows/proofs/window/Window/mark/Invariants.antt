use Rattle.std.proofs.Common.{◌≡◌}
use Rattle.windows.specs.Windows.{window_marked}
use Rattle.windows.proofs.window.Window.mark.Given as goal

abbrev pub invariant-loop-q : goal.invariant-loop-q
invariant-loop-q l = l.marked ≡ window_marked l.word l.state l.m l.self.centre l.q

use Rattle.std.proofs.Common.{◌-◌, ◌≤◌}
use Rattle.windows.proofs.Kept.{Kept}
use Rattle.windows.proofs.window.Window.state.Given as goal

abbrev pub invariant-loop-j : goal.invariant-loop-j
invariant-loop-j l = Kept l.self (l.j - 1) l.state × (l.j - 1 ≤ l.step)

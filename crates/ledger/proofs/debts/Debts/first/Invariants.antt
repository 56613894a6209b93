use Rattle.std.proofs.Common.{◌≡◌, ℕ, ◌+◌, ◌*◌, ◌<◌, ◌≤◌, false}
use Rattle.ledger.specs.Debts.{owed}
use Rattle.ledger.proofs.debts.Debts.first.Given as goal

abbrev pub invariant-loop-i : goal.invariant-loop-i
invariant-loop-i l = (x : ℕ) → 16 * l.from ≤ x → x < 16 * (l.from + l.i) → owed l.fn.self x ≡ false

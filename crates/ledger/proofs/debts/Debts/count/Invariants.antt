use Rattle.std.proofs.Common.{◌≡◌, ◌*◌, ◌≤◌}
use Rattle.rules.specs.Words.{count}
use Rattle.ledger.specs.Debts.{owed}
use Rattle.ledger.proofs.debts.Debts.count.Given as goal

abbrev pub invariant-loop-word : goal.invariant-loop-word
invariant-loop-word l = (l.all ≡ count (owed l.self) (16 * l.word-index)) × (l.all ≤ 16 * l.word-index)

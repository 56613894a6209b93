use Rattle.std.proofs.Common.{◌≡◌, ℕ, ◌*◌, ◌<◌, ◌≤◌, false}
use Rattle.rules.specs.Words.{count}
use Rattle.ledger.specs.Debts.{owed}
use Rattle.indexer.specs.Works.{Ran}
use Rattle.indexer.proofs.index.Indexer.run.Given as goal

-- the units done so far are the first of those owed, and no block before `from` owes one
abbrev pub invariant-loop-done : goal.invariant-loop-done
invariant-loop-done g l =
    (l.done ≤ l.u) × (l.done ≤ count (owed l.initial.self.ledger.debts) 4096)
    × ((x : ℕ) → x < 16 * l.from → owed l.self.ledger.debts x ≡ false)
    × Ran g.M.Matcher g.G.Galley l.initial.self l.done l.self

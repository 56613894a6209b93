use Rattle.std.proofs.Common.{rules, of_calls, leb}
use Rattle.std.proofs.lemmas.Fn.{always_returns_same}
use Rattle.ledger.proofs.Turns.{parted}
use Rattle.ledger.proofs.pages.begun.Goals as goal

pub returns-clause-point : goal.returns-clause-point
returns-clause-point c up =
    c.partition_point.ensures.partitioned (λ first. leb first c.args.start) (always_returns_same _ _ _ (λ a r f k. search (rules, of_calls)))
    (parted _ c.args.start up)

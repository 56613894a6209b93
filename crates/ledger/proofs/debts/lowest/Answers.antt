use Rattle.std.proofs.Common.{sym, subst}
use Rattle.ledger.specs.Debts.{Lowest}
use Rattle.ledger.proofs.Owing.{lowest-is}
use Rattle.ledger.proofs.debts.lowest.Goals as goal

pub returns : goal.returns
returns c = record { value = subst (Lowest c.args.word) (sym c.ok.ensures.value) (lowest-is c.args.word c.try_from.result c.try_from.ensures) }

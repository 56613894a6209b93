use Rattle.rules.proofs.Words.{bit_test}
use Rattle.ledger.proofs.words.has.Goals as goal

pub returns : goal.returns
returns c = record { value = bit_test c.args.word c.args.place }

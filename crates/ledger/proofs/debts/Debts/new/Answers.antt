use Rattle.ledger.proofs.Bits.{no_bits}
use Rattle.ledger.proofs.debts.Debts.new.Goals as goal

pub returns : goal.returns
returns c = record { value = λ n b. no_bits 256 b n }

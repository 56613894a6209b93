use Rattle.ledger.proofs.Bits.{no_bits}
use Rattle.ledger.proofs.marks.Marks.new.Goals as goal

pub returns : goal.returns
returns c = record { value = λ n s. no_bits 16384 s n }

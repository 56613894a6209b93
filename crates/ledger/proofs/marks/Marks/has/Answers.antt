use Rattle.std.proofs.Common.{sym, ap, ◌∙◌, arith}
use Rattle.std.proofs.lemmas.List.{get_or_past}
use Rattle.rules.specs.Words.{bit}
use Rattle.ledger.proofs.Bits.{bit-zero}
use Rattle.ledger.proofs.marks.Marks.has.Goals as goal

pub returns-then-start-ge16384 : goal.returns-then-start-ge16384
returns-then-start-ge16384 c = record {
  value =
      sym (ap (λ w. bit w c.args.number.value) (get_or_past c.args.self.now.words c.args.start 0 (omega arith)) ∙ bit-zero c.args.number.value);
}

use Rattle.std.proofs.Common.{◌≡◌, eqb, ap, ◌∙◌, arith}
use Rattle.ledger.proofs.Bits.{bit-set, bit-clear}
use Rattle.ledger.proofs.words.with.Goals as goal

pub returns-then-on : goal.returns-then-on
returns-then-on c = record {
  value = λ j.
      let set = bit-set 16 c.args.word c.from.result j (omega arith) in
      let at : eqb j c.from.result ≡ eqb j c.args.number.value = ap (eqb j) c.from.ensures in
      set ∙ cc;
}

pub returns-else-on : goal.returns-else-on
returns-else-on c = record {
  value = λ j.
      let cleared = bit-clear 16 c.args.word c.from.result j (omega arith) in
      let at : eqb j c.from.result ≡ eqb j c.args.number.value = ap (eqb j) c.from.ensures in
      cleared ∙ cc;
}

use Rattle.std.proofs.Common.{◌≡◌, eqb, ap, ◌∙◌, arith, length-set}
use Rattle.ledger.proofs.Rows.{term-set}
use Rattle.ledger.proofs.row.Table.set.Goals as goal

pub returns : goal.returns
returns c = record {
  after = λ n.
      let t = c.args.self.now in
      let at : eqb n c.from.result ≡ eqb n c.args.number.value = ap (eqb n) c.from.ensures in
      term-set t.rows c.from.result c.hold.new.self n (omega arith) ∙ cc;
  len = simp length-set;
}

use Rattle.std.proofs.Common.{◌^◌, ◌<◌, get_or, sym, arith}
use lib.Count.{ones-le}
use Rattle.rules.proofs.Counts.{count_none}
use Rattle.ledger.proofs.Bits.{ones-count}
use Rattle.ledger.proofs.Owing.{count-block}
use Rattle.ledger.proofs.debts.Debts.count.Goals as goal

pub loop-word-init : goal.loop-word-init
loop-word-init c = (sym (count_none _), omega arith)

pub loop-word-preserved : goal.loop-word-preserved
loop-word-preserved c =
    let d = c.args.self.now in
    let b = c.loop-word.word-index in
    let row = count-block d b in
    let fits : get_or d.words b 0 < 2 ^ 16 = omega arith in
    let bits = ones-count 16 (get_or d.words b 0) fits in
    let most = ones-le 16 (get_or d.words b 0) fits in
    (omega arith, omega arith)

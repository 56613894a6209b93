use Rattle.std.proofs.Common.{◌-◌, ◌*◌, ◌%◌, ◌^◌, ◌≤◌, length, ap, ◌∙◌, inl, inr, arith, rules}
use lib.Bits.{bit_or}
use Rattle.windows.proofs.Centres.{window-none, window-hit, window-miss}
use Rattle.windows.proofs.window.Window.mark.Goals as goal
use Rattle.windows.proofs.window.Window.mark.Goals.{then-state-m-eq0+then-self-q-le-LAST_START, else-state-m-eq0, else-state-m-eq0-via-then-state-m-eq0+else-self-q-le-LAST_START, else-state-m-eq0-via-else-state-m-eq0}

pub loop-q-init : goal.loop-q-init
loop-q-init c = window-none c.args.word c.args.state (length c.bytes-m.result.now) c.args.self.now.centre (search rules)

pub loop-q-preserved : goal.loop-q-preserved
loop-q-preserved c =
    let m = length c.bytes-m.result.now in
    let at = c.args.self.now.centre in
    let begins = c.args.self.now.begins in
    let long = ap length c.bytes-m.ensures.value in
    let back : c.loop-q.q ≤ at = omega (arith, long) in
    let miss = window-miss c.args.word c.args.state m at c.loop-q.q back in
    elim c.if-state-m-eq0.branch [
      | then-state-m-eq0+then-self-q-le-LAST_START w ↦
          w.marked-is ∙ ap (λ x. bit_or x (1 * 2 ^ (at - c.loop-q.q) % 2 ^ 64)) c.loop-q.invariant
          ∙ window-hit c.args.word c.args.state m at c.loop-q.q back (search rules) w.if-state-m-eq0.true
      | else-state-m-eq0 w ↦ w.marked-is ∙ c.loop-q.invariant ∙ elim w.else-state-m-eq0.branch [
        | else-state-m-eq0-via-then-state-m-eq0+else-self-q-le-LAST_START w' ↦ miss (inr w'.if-self-q-le-LAST_START.false)
        | else-state-m-eq0-via-else-state-m-eq0 w' ↦ miss (inl w'.if-state-m-eq0.false)
      ]
    ]

use Rattle.std.proofs.Common.{◌≡◌, ℕ, ◌+◌, ◌-◌, min, Bool, true, cond, ◌&&◌, eqb, ltb, leb, get_or, ap, rules, ◌∙◌, arith}
use Rattle.std.proofs.lemmas.Bool.{lt-ltb}
use Rattle.ledger.specs.Debts.{owes}
use borrow.Rule.Slice.PartMut.{mid_of}
use Rattle.std.proofs.lemmas.Bool.Decides.{nat_tests}
use Rattle.rules.specs.Words.{bit}
use Rattle.ledger.proofs.Parts.{part-changed}
use Rattle.ledger.proofs.debts.Debts.set.Goals as goal

-- a number's bit at the blocks from `from`, of those before `end`
blocks : (n number from end b : ℕ) (on old : Bool) →
    cond (leb (min from end) b && ltb b (min from end + (end - min from end))) (cond (eqb n number) on old) old ≡ cond (eqb n number && (leb from b && ltb b end)) on old
blocks n number from end b on old = grind (arith, nat_tests)

pub returns : goal.returns
returns c =
    let d = c.args.self.now in
    let a = c.min.result in
    let end = c.min-end.result in
    let turn : ℕ → ℕ → Bool → Bool = λ n b old. cond (eqb n c.args.number.value) c.args.on old in
    let part =
    part-changed a (end - a) d.words c.loop-word.word-items (omega arith) (omega arith) turn
    (λ n i l.
    let passed : ltb i c.loop-word.word-index ≡ true = lt-ltb _ _ (omega arith) in
    c.loop-word.invariant.1 n i ∙ ap (λ t. cond (eqb n c.args.number.value && t) c.args.on (bit (get_or (mid_of a (end - a) d.words) i 0) n)) passed ∙ search rules) in
    record { after = λ n b. part n b ∙ rw (c.min.ensures, c.min-end.ensures) (blocks n c.args.number.value c.args.from (min c.args.to 256) b c.args.on (owes d n b)) }

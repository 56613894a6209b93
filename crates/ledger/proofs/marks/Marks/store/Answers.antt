use Rattle.std.proofs.Common.{◌≡◌, ℕ, ◌+◌, ◌-◌, ◌*◌, ◌/◌, ◌%◌, Bool, true, cond, ◌&&◌, eqb, ltb, leb, rules, ◌∙◌, arith}
use Rattle.std.proofs.lemmas.Bool.{lt-ltb}
use Rattle.std.proofs.lemmas.Bool.Decides.{nat_tests}
use Rattle.rules.specs.Words.{bit}
use Rattle.ledger.specs.Marks.{marked}
use Rattle.ledger.proofs.Parts.{part-changed}
use Rattle.ledger.proofs.marks.Marks.store.Goals as goal

-- a number's bit at the starts of the block
starts : (n number block s : ℕ) (on old : Bool) →
    cond (leb (64 * block) s && ltb s (64 * block + (64 * block + 64 - 64 * block))) (cond (eqb n number) on old) old ≡ cond (eqb n number && eqb (s / 64) block) on old
starts n number block s on old = grind (arith, nat_tests)

pub returns : goal.returns
returns c =
    let m = c.args.self.now in
    let number = c.args.unit.number.value in
    let first = 64 * c.args.unit.block in
    let store : ℕ → ℕ → Bool → Bool = λ n s old. cond (eqb n number) (bit c.args.word (s % 64)) old in
    let part =
    part-changed first (first + 64 - first) m.words c.loop-s.marks-items (omega arith) (omega arith) store
    (λ n i l.
    let passed : ltb i c.loop-s.s ≡ true = lt-ltb _ _ (omega arith) in
    let place : (first + i) % 64 ≡ i = omega arith in
    c.loop-s.invariant.1 n i ∙ rw (passed, place) (search rules)) in
    record { after = λ n s. part n s ∙ starts n number c.args.unit.block s (bit c.args.word (s % 64)) (marked m n s) }

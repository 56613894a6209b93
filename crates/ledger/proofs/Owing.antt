-- The units of a block. Assumes nothing.
use Rattle.std.proofs.Common.{◌≡◌, ℕ, ◌+◌, ◌*◌, ◌/◌, ◌%◌, ◌<◌, ◌≤◌, true, false, get_or, Some, None, Ok, Err, Result, ap, ◌∙◌, ⊎_elim, arith}
use lib.Count.{count_trailing_zeros}
use Rattle.std.specs.Result.{result_ok}
use Rattle.std.proofs.lemmas.Bool.{cases_lt}
use Rattle.std.proofs.lemmas.Bool.Decides.{nat_tests}
use Rattle.rules.specs.declared.numbers.TermNumber.{TermNumber}
use Rattle.rules.specs.declared.refusal.Refusal.{Refusal}
use Rattle.rules.specs.Held.{Numbered}
use Rattle.rules.specs.Words.{bit, count}
use Rattle.rules.proofs.Counts.{count-row}
use Rattle.ledger.specs.declared.debts.Debts.{Debts}
use Rattle.ledger.specs.declared.unit.Unit.{Unit}
use Rattle.ledger.specs.Units.{unit_index}
use Rattle.ledger.specs.Debts.{owes, owed, Owed, Turned, Lowest, Foremost}
use Rattle.ledger.proofs.Bits.{trailing_at, trailing_below}

-- the units of one block more
pub owed-at : (d : Debts) (b n : ℕ) → n < 16 → owed d (16 * b + n) ≡ owes d n b
owed-at d b n l =
    let number : (16 * b + n) % 16 ≡ n = omega arith in
    let block : (16 * b + n) / 16 ≡ b = omega arith in
    ap (λ x. owes d x ((16 * b + n) / 16)) number ∙ ap (owes d n) block

pub count-block : (d : Debts) (b : ℕ) → count (owed d) (16 * (b + 1)) ≡ count (owed d) (16 * b) + count (bit (get_or d.words b 0)) 16
count-block d b =
    let next : 16 * (b + 1) ≡ 16 * b + 16 = omega arith in
    ap (count (owed d)) next ∙ count-row (owed d) (bit (get_or d.words b 0)) (16 * b) 16 (owed-at d b)

-- the lowest number, of the word's trailing zeros
pub lowest-is : (word : ℕ) (r : Result TermNumber Refusal) → Numbered (count_trailing_zeros 16 word) r → Lowest word (result_ok r)
lowest-is word (Ok number) e =
    (ap (bit word) e.0 ∙ trailing_at 16 word (omega (arith, number.below)), λ n l. trailing_below 16 word n (omega arith))
lowest-is word (Err refusal) e = λ n l. let past : 15 < count_trailing_zeros 16 word = grind (arith, nat_tests) in trailing_below 16 word n (omega arith)

-- turned on is owed
pub owed_from_turned : (d : Debts) (number from to : ℕ) (e : Debts) → Turned d number from to true e → Owed d number from to e
owed_from_turned d number from to e turned = turned

pub turned_from_owed : (d : Debts) (number from to : ℕ) (e : Debts) → Owed d number from to e → Turned d number from to true e
turned_from_owed d number from to e on = on

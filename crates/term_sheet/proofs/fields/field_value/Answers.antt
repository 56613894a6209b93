use Rattle.std.proofs.Common.{◌≡◌, true, false, get_or, sym, ◌∙◌, rules, arith}
use Rattle.std.proofs.lemmas.Bool.Decides.{nat_tests}
use Rattle.term_sheet.specs.Fields.{is_digit}
use Rattle.term_sheet.proofs.Cuts.{number_more, number-stops, number-all, number-below, field-within, field-empty, field-long}
use Rattle.term_sheet.proofs.fields.field_value.Goals as goal
use Rattle.term_sheet.proofs.fields.field_value.Goals.{then-is_empty-via-then-is_empty, then-is_empty-via-else-is_empty+then-field-gt3}

pub returns-then-is_empty : goal.returns-then-is_empty
returns-then-is_empty c =
    elim c.then-is_empty.branch [
      | then-is_empty-via-then-is_empty w ↦ record { value = sym (field-empty c.args.field.now (search rules)) }
      | then-is_empty-via-else-is_empty+then-field-gt3 w ↦ record { value = sym (field-long c.args.field.now (omega arith)) }
    ]

pub returns-then-not-is_ascii_digit : goal.returns-then-not-is_ascii_digit
returns-then-not-is_ascii_digit c =
    let other : is_digit (get_or c.args.field.now c.loop-b.b-index 0) ≡ false = grind (arith, nat_tests) in
    record { value = sym (field-within c.args.field.now (grind (arith, nat_tests)) (omega arith) ∙ sym c.loop-b.invariant.0 ∙ number-stops c.loop-b.value c.args.field.now c.loop-b.b-index c.loop-b-test.true other) }

pub loop-b-preserved : goal.loop-b-preserved
loop-b-preserved c =
    let digit : is_digit (get_or c.args.field.now c.loop-b.b-index 0) ≡ true = grind (arith, nat_tests) in
    (sym (number_more c.loop-b.value c.args.field.now c.loop-b.b-index c.loop-b-test.true digit) ∙ c.loop-b.invariant.0, number-below _ _ c.loop-b.b-index c.loop-b.invariant.1 (grind (arith, nat_tests)))

pub returns : goal.returns
returns c =
    record { value = sym (field-within c.args.field.now (grind (arith, nat_tests)) (omega arith) ∙ sym c.loop-b.invariant.0 ∙ number-all c.loop-b.value c.args.field.now c.loop-b.b-index (omega arith)) }

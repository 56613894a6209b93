use Rattle.std.proofs.Common.{◌≡◌, ℕ, ◌+◌, ◌-◌, ◌≤◌, List, [], length, drop, Some, None, Option, unwrap_or, sym, ap, ◌∙◌, arith}
use Rattle.std.specs.Option.{option_map}
use Rattle.std.proofs.lemmas.List.{take_rest, length-drop}
use Rattle.term_sheet.specs.Fields.{before, behind}
use Rattle.term_sheet.proofs.Cuts.{length-behind, before-le}
use Rattle.term_sheet.proofs.reads.line_at.Goals as goal

found : (c : goal.In-Some) → behind 10 (drop c.args.at c.args.sheet.now) ≡ Some c.in-Some.rest.now
found c = sym (ap (option_map (λ x. x.now)) (sym c.in-Some.is) ∙ c.cut.ensures.back ∙ ap (behind 10) (take_rest c.args.sheet.now c.args.at))

bounded : (sheet bytes : List ℕ) (at : ℕ) → at ≤ length sheet → bytes ≡ before 10 (drop at sheet) → at + length bytes ≤ length sheet
bounded sheet bytes at h e =
    let l = before-le 10 (drop at sheet) in
    let d = length-drop at sheet in
    let b = ap length e in
    omega arith

pub overflow_sub-result : goal.overflow_sub-result
overflow_sub-result c =
    let l = length-behind 10 (drop c.args.at c.args.sheet.now) c.in-Some.rest.now (found c) in
    let d = length-drop c.args.at c.args.sheet.now in
    omega arith

pub returns-in-Some : goal.returns-in-Some
returns-in-Some c =
    let e = c.cut.ensures.front ∙ ap (before 10) (take_rest c.args.sheet.now c.args.at) in
    record {
      value = e;
      after = ap (λ (o : Option (List ℕ)). length c.args.sheet.now - length (unwrap_or o [])) (sym (found c));
      bound = bounded c.args.sheet.now c.cut.result.0.now c.args.at c.requires e;
    }

pub returns-in-None : goal.returns-in-None
returns-in-None c =
    let none : behind 10 (drop c.args.at c.args.sheet.now) ≡ None = sym (ap (option_map (λ x. x.now)) (sym c.in-None.is) ∙ c.cut.ensures.back ∙ ap (behind 10) (take_rest c.args.sheet.now c.args.at)) in
    let l = ap (λ (o : Option (List ℕ)). length (unwrap_or o [])) none in
    let e = c.cut.ensures.front ∙ ap (before 10) (take_rest c.args.sheet.now c.args.at) in
    record { value = e; after = omega arith; bound = bounded c.args.sheet.now c.cut.result.0.now c.args.at c.requires e }

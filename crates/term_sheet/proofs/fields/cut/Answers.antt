use Rattle.std.proofs.Common.{◌≡◌, ◌+◌, Some, ap, ◌∙◌, rules}
use borrow.Author.Tests.{tests}
use Rattle.std.proofs.lemmas.List.{take_rest}
use Rattle.std.proofs.lemmas.Iterator.{YieldsList-from_slice, IsFirst-from_position}
use Rattle.term_sheet.proofs.Cuts.{FirstAt, first-some, first-none, front-here, back-here, front-all, back-all}
use Rattle.term_sheet.proofs.fields.cut.Goals as goal

pub returns-in-Some : goal.returns-in-Some
returns-in-Some c =
    let x = c.args.x in
    let bytes = c.args.bytes.now in
    let first : FirstAt x bytes c.position.result =
    IsFirst-from_position _ _ c.position.result (λ b. b ≡ x) (λ b. b ≡ x → ⊥) c.position.ensures.ran (YieldsList-from_slice bytes cc) (λ y q k. search (rules, tests)) (λ y q k. search (rules, tests)) in
    let i = c.in-Some.i in
    let at = first-some x bytes c.position.result i first c.in-Some.is in
    record { front = front-here x bytes i at.0 at.1 at.2; back = ap Some (take_rest bytes (i + 1)) ∙ back-here x bytes i at.0 at.1 at.2 }

pub returns-in-None : goal.returns-in-None
returns-in-None c =
    let x = c.args.x in
    let bytes = c.args.bytes.now in
    let first : FirstAt x bytes c.position.result =
    IsFirst-from_position _ _ c.position.result (λ b. b ≡ x) (λ b. b ≡ x → ⊥) c.position.ensures.ran (YieldsList-from_slice bytes cc) (λ y q k. search (rules, tests)) (λ y q k. search (rules, tests)) in
    let passed = first-none x bytes c.position.result first c.in-None.is in
    record { front = front-all x bytes passed; back = back-all x bytes passed }

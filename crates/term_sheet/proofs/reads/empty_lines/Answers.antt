use Rattle.std.proofs.Common.{◌≡◌, sym, ◌∙◌, rules, arith}
use borrow.Author.Tests.{tests}
use Rattle.std.proofs.lemmas.Iterator.{YieldsList-from_slice, IsFirst-from_position, index_from_first}
use Rattle.term_sheet.specs.Sheets.{empty_lines}
use Rattle.term_sheet.proofs.Readings.{empty-nil, empty-other, empty-feed, empty-le}
use Rattle.term_sheet.proofs.reads.empty_lines.Goals as goal

pub returns : goal.returns
returns c =
    let bytes = c.args.bytes.now in
    let first =
    IsFirst-from_position _ _ c.position.result (λ b. b ≡ 10 → ⊥) (λ b. b ≡ 10) c.position.ensures.ran (YieldsList-from_slice bytes cc) (λ y q k. search (rules, tests)) (λ y q k. search (rules, tests)) in
    let value : c.unwrap_or.result ≡ empty_lines bytes =
    c.unwrap_or.ensures ∙ sym (index_from_first empty_lines (λ b. b ≡ 10 → ⊥) (λ b. b ≡ 10) empty-nil empty-other empty-feed bytes c.position.result first) in
    let most = empty-le bytes in
    record { value = value; bound = omega arith }

use Rattle.std.proofs.Common.{◌≡◌, Some, arith, rules}
use Rattle.term_sheet.specs.Fields.{behind}
use Rattle.term_sheet.proofs.Cuts.{length-behind}
use Rattle.term_sheet.proofs.line.number_field.Goals as goal

pub returns : goal.returns
returns c =
    let e : behind 32 c.args.bytes.now ≡ Some c.in-Some-behind.rest.now = search rules in
    let l = length-behind 32 c.args.bytes.now c.in-Some-behind.rest.now e in
    record { value = search rules; bound = omega arith }

use Rattle.std.proofs.Common.{◌≡◌, ◌^◌, ◌<◌, drop}
use Rattle.term_sheet.specs.Fields.{number_behind}
use Rattle.term_sheet.proofs.fields.field_value.Given as goal

abbrev pub invariant-loop-b : goal.invariant-loop-b
invariant-loop-b l = (number_behind l.value (drop l.b-index l.field) ≡ number_behind 0 l.field) × (l.value < 10 ^ l.b-index)

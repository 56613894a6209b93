use Rattle.std.proofs.Common.{refl}
use Rattle.term_sheet.specs.Fields.{before, behind, number_behind, field_value}
use Rattle.term_sheet.specs.Sheets.{lines, reading}
use Rattle.term_sheet.proofs.examples.examples_hold.Goals as goal

pub returns : goal.returns
unfolding before behind number_behind field_value lines reading
returns c = record {
  value = record {
    fault_in_second_line = refl;
    empty_lines = refl;
    no_lines = refl;
    empty_term = refl;
    spaces = refl;
    number_alone = refl;
    empty_limit = refl;
    limit_alone = refl;
    four_digits = refl;
    empty_number = refl;
  };
}

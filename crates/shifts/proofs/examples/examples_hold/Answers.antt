use Rattle.std.proofs.Common.{refl}
use Rattle.rules.specs.Words.{word_of, all}
use Rattle.rules.specs.Terms.{front, occurs}
use Rattle.shifts.proofs.examples.examples_hold.Goals as goal

pub returns : goal.returns
unfolding word_of all front occurs
returns c = record {
  value = record {
    overlapping = refl;
    exact = refl;
    first_letter = refl;
    two_letters = refl;
    cut_off = refl;
    nothing = refl;
    all_starts = refl;
    too_long = refl;
    one_byte = refl;
    longest = refl;
    longest_folded = refl;
    over_long = refl;
    over_long_folded = refl;
    longest_term = refl;
  };
}

-- Worked facts of scans and of what fits, which the definitions compute. Assumes nothing.
use Rattle.std.specs.Prelude.{◌≡◌, ℕ, ◌-◌, ◌^◌, true, false, List, [], replicate, Some, Err, codes}
use Rattle.rules.specs.declared.refusal.Refusal.TheVariants.{StretchTooLong}
use Rattle.rules.specs.Terms.{Term, scanned}
use Rattle.matchers.specs.Matchers.{scanning}
use Rattle.shifts.specs.ShiftAnds.{short_fits}

abbrev term : List ℕ → ℕ → Term
term bytes limit = record { bytes = bytes; limit = limit }

pub record Examples : Type 0 where
  -- overlapping occurrences
  pub overlapping : scanned (term (codes "abcab") 0) (codes "xabcabcabx") ≡ 18
  -- none, one and two of the first letters in either case
  pub exact : scanned (term (codes "the") 0) (codes "The the tHe") ≡ 16
  pub first_letter : scanned (term (codes "the") 1) (codes "The the tHe") ≡ 17
  pub two_letters : scanned (term (codes "the") 2) (codes "The the tHe") ≡ 273
  -- a term that runs past the stretch does not occur
  pub cut_off : scanned (term (codes "bcab") 0) (codes "xbca") ≡ 0
  pub nothing : scanned (term (codes "bcab") 0) [] ≡ 0
  -- every one of 64 starts, and one byte too many
  pub all_starts : scanned (term (replicate 64 97) 0) (replicate 127 97) ≡ 2 ^ 64 - 1
  pub too_long : scanning (Some (term (replicate 64 97) 0)) (replicate 128 97) ≡ Err StretchTooLong
  -- what fits Shift-And
  pub one_byte : short_fits 1 0 ≡ true
  pub longest : short_fits 32 0 ≡ true
  pub longest_folded : short_fits 32 31 ≡ true
  pub over_long : short_fits 33 0 ≡ false
  pub over_long_folded : short_fits 33 32 ≡ false
  pub longest_term : short_fits 64 1 ≡ false

-- What some sheets say. Assumes nothing.
use Rattle.std.specs.Prelude.{◌≡◌, ℕ, List, [], ◌∷◌, ◌++◌, codes}
use Rattle.rules.specs.declared.refusal.Refusal.TheVariants.{NotANumber, LineTooShort}
use Rattle.term_sheet.specs.declared.fault.Fault.TheVariants.{Sheet}
use Rattle.term_sheet.specs.Sheets.{SheetEntry, ends, gives, stops, sheet_reading}

-- an entry by its line, byte, number, limit and term
abbrev entry : ℕ → ℕ → ℕ → ℕ → List ℕ → SheetEntry
entry line byte number limit term = record { line = line; byte = byte; number = number; limit = limit; term = term }

-- sheets that tell the rules apart
pub record Examples : Type 0 where
  -- an entry, and then a line whose number is none
  pub fault_in_second_line : sheet_reading (codes "3 0 cat" ++ (10 ∷ codes "b 1 cat")) ≡ gives (entry 1 0 3 0 (codes "cat")) (stops (Sheet 2 8 NotANumber))
  -- empty lines are counted, a carriage return belongs to the term, and no line follows the last line feed
  pub empty_lines : sheet_reading (10 ∷ 10 ∷ codes "15 2 The" ++ (13 ∷ 10 ∷ [])) ≡ gives (entry 3 2 15 2 (codes "The" ++ (13 ∷ []))) ends
  pub no_lines : sheet_reading [] ≡ ends
  -- a term may be empty, and may hold spaces
  pub empty_term : sheet_reading (codes "3 0 ") ≡ gives (entry 1 0 3 0 []) ends
  pub spaces : sheet_reading (codes "3 0 a b") ≡ gives (entry 1 0 3 0 (codes "a b")) ends
  -- a field's own fault comes before its missing space
  pub number_alone : sheet_reading (codes "3") ≡ stops (Sheet 1 1 LineTooShort)
  pub empty_limit : sheet_reading (codes "3 ") ≡ stops (Sheet 1 2 NotANumber)
  pub limit_alone : sheet_reading (codes "3 0") ≡ stops (Sheet 1 3 LineTooShort)
  -- a field has 1 to 3 digits
  pub four_digits : sheet_reading (codes "0003 0 x") ≡ stops (Sheet 1 0 NotANumber)
  pub empty_number : sheet_reading (codes " 3 0 x") ≡ stops (Sheet 1 0 NotANumber)

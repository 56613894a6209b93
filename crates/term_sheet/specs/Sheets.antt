-- What a term sheet says. Assumes nothing.
use Rattle.std.specs.Prelude.{ℕ, suc, ◌+◌, ◌-◌, cond, List, [], ◌∷◌, length, drop, Ok, Err, Result, ◌==◌}
use Rattle.std.specs.Option.{ok_or, unwrap_or}
use Rattle.rules.specs.declared.refusal.Refusal.TheVariants.{NotANumber, LineTooShort}
use Rattle.term_sheet.specs.declared.fault.Fault.{Fault}
use Rattle.term_sheet.specs.declared.fault.Fault.TheVariants.{Sheet}
use Rattle.term_sheet.specs.Fields.{space, line_feed, before, behind, field_value}

-- an entry: its line, counted from 1, the place of the line's first byte in the sheet, and what the line says
pub record SheetEntry : Type 0 where
  pub line : ℕ
  pub byte : ℕ
  pub number : ℕ
  pub limit : ℕ
  pub term : List ℕ

-- a number field that a space ends: its value, and what follows the space
pub record NumberField : Type 0 where
  pub value : ℕ
  pub rest : List ℕ

-- what comes next of what was read, unless that is a fault
abbrev pub and_then : {A B : Type 0} → Result A Fault → (A → Result B Fault) → Result B Fault
and_then (Ok a) next = next a
and_then (Err fault) next = Err fault

-- the number field that `bytes` begin with, the last bytes of a line that ends at `ending`.
-- It is 1 to 3 digits, or at fault at its first byte; then a space follows it, or the line is at fault at its end
abbrev pub number_field : ℕ → ℕ → List ℕ → Result NumberField Fault
number_field line ending bytes =
    and_then (ok_or (field_value (before space bytes)) (Sheet line (ending - length bytes) NotANumber)) (λ value.
    and_then (ok_or (behind space bytes) (Sheet line ending LineTooShort)) (λ rest.
    Ok (record { value = value; rest = rest })))

-- the entry of a line whose first byte stands at `at`: number, space, limit, space, term
abbrev pub line_entry : ℕ → ℕ → List ℕ → Result SheetEntry Fault
line_entry line at bytes =
    and_then (number_field line (at + length bytes) bytes) (λ number.
    and_then (number_field line (at + length bytes) number.rest) (λ limit.
    Ok (record { line = line; byte = at; number = number.value; limit = limit.value; term = limit.rest })))

-- a byte before the first line
abbrev pub onto : ℕ → List (List ℕ) → List (List ℕ)
onto b [] = (b ∷ []) ∷ []
onto b (line ∷ lines) = (b ∷ line) ∷ lines

-- the sheet cut into lines, each ended by a line feed or by the sheet's end; no line follows the last line feed
unfoldable pub lines : List ℕ → List (List ℕ)
lines [] = []
lines (b ∷ bs) = cond (b == line_feed) ([] ∷ lines bs) (onto b (lines bs))

-- what is read of a sheet: entry after entry, up to its end or to a fault
pub data Reading : Type 0 where
  ends : Reading
  gives : SheetEntry → Reading → Reading
  stops : Fault → Reading

-- a line's entry and then the rest, or the line's fault and no more
abbrev pub read_then : Result SheetEntry Fault → Reading → Reading
read_then (Ok entry) rest = gives entry rest
read_then (Err fault) rest = stops fault

-- what is read of these lines, of which the first has the number `line` and its first byte the place `at`; an empty line is counted and passed over
unfoldable pub reading : ℕ → ℕ → List (List ℕ) → Reading
reading line at [] = ends
reading line at ([] ∷ ls) = reading (line + 1) (at + 1) ls
reading line at ((b ∷ bs) ∷ ls) = read_then (line_entry line at (b ∷ bs)) (reading (line + 1) (at + length (b ∷ bs) + 1) ls)

-- what is read of a whole sheet
abbrev pub sheet_reading : List ℕ → Reading
sheet_reading sheet = reading 1 0 (lines sheet)

-- how many empty lines the bytes begin with
unfoldable pub empty_lines : List ℕ → ℕ
empty_lines [] = 0
empty_lines (b ∷ bs) = cond (b == line_feed) (suc (empty_lines bs)) 0

-- where the line that follows the one at `at` begins: behind its line feed, or at the sheet's end
abbrev pub next_line : List ℕ → ℕ → ℕ
next_line sheet at = length sheet - length (unwrap_or (behind line_feed (drop at sheet)) [])

-- What the values that the lexer hands on stand for. Assumes nothing.
use Rattle.std.specs.Prelude.{Ok, Err, Result}
use Rattle.term_sheet.specs.declared.entry.Entry.{Entry}
use Rattle.term_sheet.specs.declared.fault.Fault.{Fault}
use Rattle.term_sheet.specs.declared.line.Field.{Field}
use Rattle.term_sheet.specs.Sheets.{SheetEntry, NumberField}

-- what the code reads of a number field
abbrev pub field_of : Result Field Fault → Result NumberField Fault
field_of (Ok f) = Ok (record { value = f.value; rest = f.rest.now })
field_of (Err fault) = Err fault

-- an entry of the code
abbrev pub entry_of : Entry → SheetEntry
entry_of e = record { line = e.line; byte = e.byte; number = e.number; limit = e.limit; term = e.term.now }

-- what the code reads of a line
abbrev pub entry_read : Result Entry Fault → Result SheetEntry Fault
entry_read (Ok e) = Ok (entry_of e)
entry_read (Err fault) = Err fault

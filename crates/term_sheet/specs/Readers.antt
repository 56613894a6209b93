-- What a reader has before it, and what it answers. Assumes nothing.
use Rattle.std.specs.Prelude.{◌≡◌, ℕ, ◌+◌, ◌-◌, ◌<◌, List, length, drop, Some, None, Ok, Err, Option, Result}
use Rattle.term_sheet.specs.declared.entry.Entry.{Entry}
use Rattle.term_sheet.specs.declared.fault.Fault.{Fault}
use Rattle.term_sheet.specs.declared.reader.Reader.{Reader}
use Rattle.term_sheet.specs.Entries.{entry_of}
use Rattle.term_sheet.specs.Sheets.{Reading, ends, gives, stops, reading, lines}

-- the sheet that a reader reads
abbrev pub sheet_of : Reader → List ℕ
sheet_of r = r.sheet.now

-- what a reader has yet to read
abbrev pub ahead : Reader → Reading
ahead r = reading (r.passed + 1) r.at (lines (drop r.at (sheet_of r)))

-- how many bytes of its sheet a reader has before it
abbrev pub bytes_ahead : Reader → ℕ
bytes_ahead r = length (sheet_of r) - r.at

-- a reader that had `was` before it answers the first of it, and has `is` before it then
abbrev pub Next : Reading → Result (Option Entry) Fault → Reading → Type 0
Next was (Ok None) is = was ≡ ends
Next was (Ok (Some entry)) is = was ≡ gives (entry_of entry) is
Next was (Err fault) is = was ≡ stops fault

-- a reader comes nearer to its sheet's end with each entry; at the end and at a fault it stays as it was
abbrev pub Moved : Reader → Result (Option Entry) Fault → Reader → Type 0
Moved was (Ok None) is = is ≡ was
Moved was (Ok (Some entry)) is = bytes_ahead is < bytes_ahead was
Moved was (Err fault) is = is ≡ was

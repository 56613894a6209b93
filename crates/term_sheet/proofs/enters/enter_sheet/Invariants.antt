use Rattle.term_sheet.specs.Readers.{ahead, bytes_ahead}
use Rattle.term_sheet.specs.Sheets.{sheet_reading}
use Rattle.term_sheet.proofs.Entering.{Going}
use Rattle.term_sheet.proofs.enters.enter_sheet.Given as goal

abbrev pub invariant-loop-entry : goal.invariant-loop-entry
invariant-loop-entry g l = Going g.M.Matcher g.G.Galley l.initial.indexer (sheet_reading l.sheet) l.indexer (ahead l.reader)

abbrev pub decreases-loop-entry : goal.decreases-loop-entry
decreases-loop-entry g l = bytes_ahead l.reader

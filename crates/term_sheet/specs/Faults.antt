-- The text of a fault. Assumes nothing.
use Rattle.std.specs.Prelude.{ℕ, List, ◌++◌, codes, decimal}
use Rattle.rules.specs.declared.refusal.Refusal.{Refusal}
use Rattle.rules.specs.Refusals.{refusal_text}
use Rattle.term_sheet.specs.declared.fault.Fault.{Fault}
use Rattle.term_sheet.specs.declared.fault.Fault.TheVariants.{Sheet, Indexer}

-- a layer's words, and then the line, the byte and the refusal
abbrev pub placed : List ℕ → ℕ → ℕ → Refusal → List ℕ
placed layer line byte cause = layer ++ (decimal line ++ (codes " byte " ++ (decimal byte ++ (codes " " ++ refusal_text cause))))

-- the sheet or the indexer is at fault
abbrev pub fault_text : Fault → List ℕ
fault_text (Sheet line byte cause) = placed (codes "sheet line ") line byte cause
fault_text (Indexer line byte cause) = placed (codes "indexer line ") line byte cause

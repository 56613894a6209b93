-- Answers as they are printed. Assumes nothing.
use Rattle.std.specs.Prelude.{ℕ, List, ◌++◌, codes, Ok, Err, Result}
use Rattle.rules.specs.declared.refusal.Refusal.{Refusal}
use Rattle.rules.specs.Refusals.{refusal_number, refusal_text}

-- an action and its answer
abbrev pub told_text : List ℕ → Result (Unit {0}) Refusal → List ℕ
told_text action (Ok x) = action ++ codes ": accepted"
told_text action (Err refusal) = action ++ (codes ": " ++ refusal_text refusal)

-- the number of an answer: 0 where it was accepted
abbrev pub code_of : Result (Unit {0}) Refusal → ℕ
code_of (Ok x) = 0
code_of (Err refusal) = refusal_number refusal

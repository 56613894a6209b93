-- A step of a file that is tried in two buffers. Assumes nothing.
use Rattle.std.specs.Prelude.{◌≡◌, ℕ, ◌+◌, ◌≤◌, List, Some, None, Ok, Err, Option, Result, MatchResult}
use Rattle.std.specs.Borrow.{MutBor}
use Rattle.std.specs.Fn.{Shared}
use Rattle.rules.specs.declared.refusal.Refusal.{Refusal}
use Rattle.rules.specs.declared.declined.Declined.{Declined}
use Rattle.index_file.specs.declared.state.Headed.{Headed}

module _ {F S T : Type 0} (g : Shared F (S × (MutBor (List ℕ) × Unit {0})) (Result T (Declined S) × (MutBor (List ℕ) × Unit {0}))) (step : F) where
  -- the step, from the state and with the buffer lent, may give the answer
  pub record Gives (state : S) (buffer : List ℕ) (answer : Result T (Declined S)) : Type 0 where
    pub lent : MutBor (List ℕ)
    pub shows : lent.now ≡ buffer
    pub left : MutBor (List ℕ)
    pub met : g.post step (state, (lent, tt)) (answer, (left, tt))

  -- the step was taken in the buffer, or refused there and tried in the spare one
  pub data Tried (state : S) (buffer spare : List ℕ) : Result T (Declined S) → Option Refusal → Type 0 where
    at_once : {t : T} → Gives state buffer (Ok t) → Tried state buffer spare (Ok t) None
    spared : {d : Declined S} {answer : Result T (Declined S)} → Gives state buffer (Err d) → Gives d.back spare answer → Tried state buffer spare answer (Some d.refusal)

-- the file reaches at most 70 bytes further; one that is handed back is as it was
abbrev pub Grows : Headed → Result Headed (Declined Headed) → Type 0
Grows old answer = MatchResult answer (λ new. new.at ≤ old.at + 70) (λ d. d.back ≡ old)

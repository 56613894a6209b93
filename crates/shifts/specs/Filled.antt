-- A table is filled in one way at most, where its words can be told apart. Assumes nothing.
use Rattle.std.specs.Prelude.{ℕ}
use Rattle.std.specs.Coded.{Coded, Coded-set, Π_prop}
use Rattle.matchers.specs.Places.{Filled}

pub Filled-prop : {W : Type 0} → Coded W → (words due : ℕ → W) → IsProp (Filled words due)
Filled-prop code words due = Π_prop (λ b. Π_prop (λ _. Coded-set code (words b) (due b)))

-- What a folded galley holds and shows, by what is below it. Assumes nothing.
use Rattle.std.specs.Prelude.{ℕ, List, map}
use Rattle.rules.specs.Terms.{folded}

-- its text is the one below with each byte folded
abbrev pub folded_text : List ℕ → List ℕ
folded_text below = map folded below

-- what it shows is the fold of what is shown below
abbrev pub folded_shown : (ℕ → ℕ) → ℕ → ℕ
folded_shown shows b = folded (shows b)

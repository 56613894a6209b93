-- What a look at a block gives. Assumes nothing.
use Rattle.std.specs.Prelude.{◌≡◌, ℕ, ◌+◌, ◌*◌, ◌<◌, ◌≤◌, true, List, length, take, drop, Some, Option, MatchOption}
use Rattle.matchers.specs.declared.matcher.Matcher as matcher
use Rattle.rules.specs.Words.{bit}
use Rattle.rules.specs.Terms.{Term, scanned, occurs}

-- the word of the held term for the stretch of l bytes of the text from start on
abbrev pub Sought : Option Term → List ℕ → ℕ → ℕ → Option ℕ → Type 0
Sought o text start l r = (t : Term) → o ≡ Some t → start + l ≤ length text → l ≤ 127 → r ≡ Some (scanned t (take l (drop start text)))

-- a look for a term that fits, at a block that the text has, leaves the term in the matcher and tells the term's occurrences in the block
pub record Looked {M : Type 0} (matching : matcher.Ghosts M) (old : M) (text : List ℕ) (o : Option Term) (block : ℕ) (r : Option ℕ) (new : M) : Type 0 where
  pub fits : (m k : ℕ) → matching.fit new m k ≡ matching.fit old m k
  pub holds : (t : Term) → o ≡ Some t → matching.fit old (length t.bytes) t.limit ≡ true → 64 * block < length text → matching.held new ≡ Some t
  pub word : (t : Term) → o ≡ Some t → matching.fit old (length t.bytes) t.limit ≡ true → 64 * block < length text → MatchOption r ⊥ (λ w. (s : ℕ) → s < 64 → bit w s ≡ occurs t text (64 * block + s))

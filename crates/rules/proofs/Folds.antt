-- What folding twice gives. Assumes nothing.
use Rattle.std.proofs.Common.{◌≡◌, ℕ, arith}
use Rattle.std.proofs.lemmas.Bool.Decides.{nat_tests}
use Rattle.rules.specs.Terms.{folded}

pub folded-folded : (b : ℕ) → folded (folded b) ≡ folded b
folded-folded b = grind (arith, nat_tests)

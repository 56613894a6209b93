-- The library's bytes of a number are those that a record has. Assumes nothing.
use Rattle.std.proofs.Common.{◌≡◌, ℕ, ◌%◌, [], ◌∷◌, ap, arith}
use Rattle.std.specs.Int.{w16, w32, to_le_bytes}
use Rattle.index_file.specs.Records.{digit, two, four}

lowest : (n : ℕ) → n % 256 ≡ digit n 0
lowest n = omega arith

pub le_bytes-two : (n : ℕ) → to_le_bytes w16 n ≡ two n
le_bytes-two n = ap (λ d. d ∷ digit n 1 ∷ []) (lowest n)

pub le_bytes-four : (n : ℕ) → to_le_bytes w32 n ≡ four n
le_bytes-four n = ap (λ d. d ∷ digit n 1 ∷ digit n 2 ∷ digit n 3 ∷ []) (lowest n)

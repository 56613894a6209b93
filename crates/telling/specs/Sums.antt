-- Running sums and drawn numbers, of 32 bits. Assumes nothing.
use Rattle.std.specs.Prelude.{ℕ, ◌+◌, ◌*◌, ◌%◌, ◌^◌, List}
use Rattle.std.specs.List.{fold}

abbrev pub mixed : ℕ → ℕ → ℕ
mixed sum value = (sum * 31 % 2 ^ 32 + value) % 2 ^ 32

abbrev pub sum_of : ℕ → List ℕ → ℕ
sum_of sum bytes = fold mixed sum bytes

abbrev pub drawn : ℕ → ℕ
drawn seed = (seed * 1103515245 % 2 ^ 32 + 12345) % 2 ^ 32

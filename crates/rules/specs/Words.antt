-- A machine word as a row of tests: its bit i is the answer of test i. Assumes nothing.
use Rattle.std.specs.Prelude.{ℕ, zero, suc, ◌+◌, ◌*◌, ◌/◌, ◌%◌, ◌^◌, Bool, true, false, ◌&&◌, ◌==◌}

abbrev pub bit_of : Bool → ℕ
bit_of true = 1
bit_of false = 0

-- the word of w bits whose bit i is set exactly where p i is true; bit 0 is the lowest
unfoldable pub word_of : (ℕ → Bool) → ℕ → ℕ
word_of p zero = 0
word_of p (suc n) = bit_of (p n) * 2 ^ n + word_of p n

-- bit i of x
unfoldable pub bit : ℕ → ℕ → Bool
bit x i = x / 2 ^ i % 2 == 1

-- the first n tests all pass
unfoldable pub all : (ℕ → Bool) → ℕ → Bool
all p zero = true
all p (suc n) = all p n && p n

-- how many of the first n tests pass
unfoldable pub count : (ℕ → Bool) → ℕ → ℕ
count p zero = 0
count p (suc n) = count p n + bit_of (p n)

-- How bytes are cut, and the number that a field writes. Assumes nothing.
use Rattle.std.specs.Prelude.{ℕ, ◌+◌, ◌-◌, ◌*◌, Bool, cond, ◌&&◌, List, [], ◌∷◌, length, Some, None, Option, ◌==◌, nat_le}

-- the byte that ends a number field
abbrev pub space : ℕ
space = 32

-- the byte that ends a line
abbrev pub line_feed : ℕ
line_feed = 10

-- what stands before the first x; all of it where there is no x
unfoldable pub before : ℕ → List ℕ → List ℕ
before x [] = []
before x (b ∷ bs) = cond (b == x) [] (b ∷ before x bs)

-- what follows the first x; none where there is no x
unfoldable pub behind : ℕ → List ℕ → Option (List ℕ)
behind x [] = None
behind x (b ∷ bs) = cond (b == x) (Some bs) (behind x bs)

-- '0' to '9'
abbrev pub is_digit : ℕ → Bool
is_digit b = nat_le 48 b && nat_le b 57

-- the number that digits write behind those that write n; none where one of the bytes is no digit
unfoldable pub number_behind : ℕ → List ℕ → Option ℕ
number_behind n [] = Some n
number_behind n (b ∷ bs) = cond (is_digit b) (number_behind (n * 10 + (b - 48)) bs) None

-- the number that a field of 1 to 3 digits writes; none where the field is not that
unfoldable pub field_value : List ℕ → Option ℕ
field_value field = cond (nat_le 1 (length field) && nat_le (length field) 3) (number_behind 0 field) None

-- The records of an index file and their bytes. Assumes nothing.
use Rattle.std.specs.Prelude.{ℕ, ◌*◌, ◌/◌, ◌%◌, ◌^◌, List, [], ◌∷◌, ◌++◌, length}
use Rattle.index_file.specs.declared.kind.Kind.{Kind}
use Rattle.index_file.specs.declared.kind.Kind.TheVariants.{Head, Term, Locator, End}
use Rattle.index_file.specs.Kinds.{kind_number}

-- a record, with the numbers of its fields in the order in which they stand
pub data Record : Type 0 where
  -- the length of the text, the units owed, the standing terms
  head : ℕ → ℕ → ℕ → Record
  -- the number, the limit, the bytes
  term : ℕ → ℕ → List ℕ → Record
  -- the start, the page, the place in the page, the variant
  locator : ℕ → ℕ → ℕ → ℕ → Record
  -- the number of locators
  end : ℕ → Record

-- byte i of a number, the lowest first
abbrev pub digit : ℕ → ℕ → ℕ
digit n i = n / 2 ^ (8 * i) % 256

-- numbers of 2 and of 4 bytes
abbrev pub two : ℕ → List ℕ
two n = digit n 0 ∷ digit n 1 ∷ []

abbrev pub four : ℕ → List ℕ
four n = digit n 0 ∷ digit n 1 ∷ digit n 2 ∷ digit n 3 ∷ []

abbrev pub kind_of : Record → Kind
kind_of (head n owed terms) = Head
kind_of (term number limit bytes) = Term
kind_of (locator start page place variant) = Locator
kind_of (end locators) = End

abbrev pub body : Record → List ℕ
body (head n owed terms) = four n ++ (two owed ++ two terms)
body (term number limit bytes) = number ∷ limit ∷ bytes
body (locator start page place variant) = two start ++ (two page ++ (two place ++ variant ∷ []))
body (end locators) = four locators

-- a record's bytes: the length of its body, its kind, its body
abbrev pub encoded : Record → List ℕ
encoded r = two (length (body r)) ++ (two (kind_number (kind_of r)) ++ body r)

-- the bytes of records one after the other
abbrev pub encoded_all : List Record → List ℕ
encoded_all [] = []
encoded_all (r ∷ rs) = encoded r ++ encoded_all rs

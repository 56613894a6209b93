-- What the ledger of a book says, and what a call changes of it. Assumes nothing.
use Rattle.std.specs.Prelude.{◌≡◌, ℕ, zero, suc, ◌+◌, ◌-◌, ◌*◌, ◌/◌, ◌%◌, Bool, true, false, cond, not, ◌&&◌, [], ◌∷◌, length, Some, None, Option, ◌==◌, nat_le, nat_lt}
use Rattle.std.specs.Option.{option_or}
use Rattle.rules.specs.Terms.{Term}
use Rattle.rules.specs.Words.{bit}
use Rattle.ledger.specs.declared.book.Ledger.{Ledger}
use Rattle.ledger.specs.declared.unit.Unit.{Unit}
use Rattle.ledger.specs.Terms.{standing, Stood, Stands}
use Rattle.ledger.specs.Pages.{page_starts}
use Rattle.ledger.specs.Debts.{owes, Cleared}
use Rattle.ledger.specs.Marks.{marked}

-- the first page is open, and nothing stands, is owed or marked
pub record Blank (l : Ledger) : Type 0 where
  pub terms : (n : ℕ) → standing l.terms n ≡ None
  pub pages : page_starts l.pages ≡ 0 ∷ []
  pub debts : (n b : ℕ) → owes l.debts n b ≡ false
  pub marks : (n s : ℕ) → marked l.marks n s ≡ false

-- the term stands under the number, and its units in a text of size bytes are owed, of the 256 blocks
pub record Entered (i : Ledger) (number : ℕ) (term : Term) (size : ℕ) (j : Ledger) : Type 0 where
  pub terms : Stood i.terms number term j.terms
  pub pages : j.pages ≡ i.pages
  pub debts : (n b : ℕ) → owes j.debts n b ≡ cond (n == number && (nat_lt (64 * b) size && nat_lt b 256)) true (owes i.debts n b)
  pub marks : j.marks ≡ i.marks

-- no term stands under the number, and none of its units is owed, of the 256 blocks
pub record Withdrawn (i : Ledger) (number : ℕ) (j : Ledger) : Type 0 where
  pub terms : Stands i.terms number None j.terms
  pub pages : j.pages ≡ i.pages
  pub debts : (n b : ℕ) → owes j.debts n b ≡ cond (n == number && nat_lt b 256) false (owes i.debts n b)
  pub marks : j.marks ≡ i.marks

-- the unit at the block b has a start at which a term of m bytes meets one of the l bytes from `at` on: the starts are those from at + 1 - m, or 0, to at + l - 1
abbrev pub meets : ℕ → ℕ → ℕ → ℕ → Bool
meets m at l b = nat_le ((at + 1 - m) / 64) b && nat_le b ((at + l - 1) / 64)

abbrev pub touches : Option Term → ℕ → ℕ → ℕ → Bool
touches None at l b = false
touches (Some t) at l b = meets (length t.bytes) at l b

-- l bytes from `at` on were changed: the units of each standing term that they meet are owed, of the 256 blocks
pub record Touched (i : Ledger) (at l : ℕ) (j : Ledger) : Type 0 where
  pub terms : j.terms ≡ i.terms
  pub pages : j.pages ≡ i.pages
  pub debts : (n b : ℕ) → owes j.debts n b ≡ cond (touches (standing i.terms n) at l b && nat_lt b 256) true (owes i.debts n b)
  pub marks : j.marks ≡ i.marks

-- the mark at the place s of a block: the word's bit, if there is a word, else as before
abbrev pub mark_by : Option ℕ → ℕ → Bool → Bool
mark_by None s old = old
mark_by (Some word) s old = bit word s

-- the unit is owed no more, and the word, if there is one, has the marks of its number at its block
pub record Settled (i : Ledger) (u : Unit) (word : Option ℕ) (j : Ledger) : Type 0 where
  pub terms : j.terms ≡ i.terms
  pub pages : j.pages ≡ i.pages
  pub debts : Cleared i.debts u j.debts
  pub marks : (n s : ℕ) → marked j.marks n s ≡ cond (n == u.number.value && s / 64 == u.block) (mark_by word (s % 64) (marked i.marks n s)) (marked i.marks n s)

-- the start s is listed under the number n: it is marked, and its unit is not owed
abbrev pub listed : Ledger → ℕ → ℕ → Bool
listed l n s = marked l.marks n s && not (owes l.debts n (s / 64))

-- the least s with from ≤ s, s < n and p s; none where there is none
unfoldable pub first_from : (ℕ → Bool) → ℕ → ℕ → Option ℕ
first_from p from zero = None
first_from p from (suc n) = option_or (first_from p from n) (cond (nat_le from n && p n) (Some n) None)

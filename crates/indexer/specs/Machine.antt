-- The rules of an indexer, as a machine: what it holds, and what each call answers and changes. Assumes nothing.
use Rattle.std.specs.Prelude.{ℕ, ◌-◌, ◌*◌, ◌/◌, ◌%◌, min, Bool, true, false, cond, ◌&&◌, List, [], ◌∷◌, ◌++◌, map, length, is_some, Some, None, Ok, Err, Option, Result, ◌==◌, nat_le, nat_lt}
use Rattle.rules.specs.declared.refusal.Refusal.{Refusal}
use Rattle.rules.specs.declared.refusal.Refusal.TheVariants.{TermStands, TermUnfit, PastText}
use Rattle.rules.specs.Refusals.{answer_of, in_order, numbering, malformed}
use Rattle.rules.specs.Terms.{Term}
use Rattle.rules.specs.Words.{count}
use Rattle.ledger.specs.Pages.{opening}

-- what an indexer holds by the rules
pub record Machine : Type 0 where
  pub text : List ℕ
  -- the starts of the pages, the first page's first
  pub pages : List ℕ
  -- the term that stands under a number
  pub stands : ℕ → Option Term
  -- whether a unit is owed; the unit of the term n at the block b is 16 b + n, so that the order of work is the order of numbers
  pub owed : ℕ → Bool

-- the machine of a text at first: one page, no term, nothing owed
abbrev pub start : List ℕ → Machine
start text = record { text = text; pages = 0 ∷ []; stands = λ n. None; owed = λ x. false }

pub data Call : Type 0 where
  page : ℕ → Call
  enter : ℕ → ℕ → List ℕ → Call
  run : ℕ → Call

-- what a call answers: nothing or a refusal, or the units done and the units still owed
pub data Answer : Type 0 where
  said : Result (Unit {0}) Refusal → Answer
  did : ℕ → ℕ → Answer

-- how many units are owed; a text has at most 256 blocks
abbrev pub owing : Machine → ℕ
owing m = count m.owed 4096

-- why a page is not opened at a place: past the text, not above the last page, 256 pages open
abbrev pub paging : Machine → ℕ → Option Refusal
paging m at = in_order (cond (nat_lt at (length m.text)) None (Some PastText)) (opening m.pages at)

-- why a term is not entered: its number, its length, its limit, a term that stands there, and that it does not fit the matcher
abbrev pub entering : (ℕ → ℕ → Bool) → Machine → ℕ → ℕ → List ℕ → Option Refusal
entering fit m number k term =
    in_order (numbering number) (in_order (malformed (length term) k)
    (in_order (cond (is_some (m.stands number)) (Some TermStands) None) (cond (fit (length term) k) None (Some TermUnfit))))

abbrev pub after_page : Machine → ℕ → Option Refusal → Machine
after_page m at (Some e) = m
after_page m at None = record { text = m.text; pages = m.pages ++ at ∷ []; stands = m.stands; owed = m.owed }

-- the term stands, each byte as the galley shows it, and its unit at each block that the text has is owed
abbrev pub after_enter : (ℕ → ℕ) → Machine → ℕ → ℕ → List ℕ → Option Refusal → Machine
after_enter shows m number k term (Some e) = m
after_enter shows m number k term None = record {
  text = m.text;
  pages = m.pages;
  stands = λ n. cond (n == number) (Some (record { bytes = map shows term; limit = k })) (m.stands n);
  owed = λ x. cond (x % 16 == number && nat_lt (64 * (x / 16)) (length m.text)) true (m.owed x);
}

-- the first d of the owed units are done: a unit stays owed exactly when at least d owed units stand before it
abbrev pub after_units : Machine → ℕ → Machine
after_units m d = record { text = m.text; pages = m.pages; stands = m.stands; owed = λ x. m.owed x && nat_le d (count m.owed x) }

-- the units that a call does: a run does the smaller of the units asked and the units owed
abbrev pub doing : Machine → Call → ℕ
doing m (page at) = 0
doing m (enter number k term) = 0
doing m (run u) = min u (owing m)

abbrev pub answer : (ℕ → ℕ → Bool) → Machine → Call → Answer
answer fit m (page at) = said (answer_of (paging m at))
answer fit m (enter number k term) = said (answer_of (entering fit m number k term))
answer fit m (run u) = did (min u (owing m)) (owing m - min u (owing m))

-- the machine after a call; a refused call leaves it as it was
abbrev pub step : (ℕ → ℕ → Bool) → (ℕ → ℕ) → Machine → Call → Machine
step fit shows m (page at) = after_page m at (paging m at)
step fit shows m (enter number k term) = after_enter shows m number k term (entering fit m number k term)
step fit shows m (run u) = after_units m (min u (owing m))

abbrev pub refused : Answer → Bool
refused (said (Ok x)) = false
refused (said (Err e)) = true
refused (did d rest) = false

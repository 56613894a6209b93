-- Which pages are open, and where a start stands in them. Assumes nothing.
use Rattle.std.specs.Prelude.{ℕ, zero, suc, ◌-◌, Bool, cond, List, length, Some, None, Option, nat_le, nat_lt, slice_index}
use Rattle.rules.specs.declared.refusal.Refusal.{Refusal}
use Rattle.rules.specs.declared.refusal.Refusal.TheVariants.{PageOrder, PagesFull}
use Rattle.ledger.specs.declared.page_table.Pages.{Pages}

-- the starts of the open pages, in their order
abbrev pub page_starts : Pages → List ℕ
page_starts p = p.starts.items

-- the start of the last page
abbrev pub last_start : List ℕ → ℕ
last_start starts = slice_index starts (length starts - 1)

-- why no page can start at `at`: a page starts above the last, and there are at most 256
abbrev pub opening : List ℕ → ℕ → Option Refusal
opening starts at = cond (nat_lt (last_start starts) at) (cond (nat_lt (length starts) 256) None (Some PagesFull)) (Some PageOrder)

-- the number, counted from 1, of the last of the first n places where p passes; 0 where it passes at none
unfoldable pub last_passing : (ℕ → Bool) → ℕ → ℕ
last_passing p zero = 0
last_passing p (suc n) = cond (p n) (suc n) (last_passing p n)

-- the number, counted from 1, of the last page that begins at or before s
abbrev pub page_at : List ℕ → ℕ → ℕ
page_at starts s = last_passing (λ i. nat_le (slice_index starts i) s) (length starts)

-- the place of s in that page
abbrev pub place_at : List ℕ → ℕ → ℕ
place_at starts s = s - slice_index starts (page_at starts s - 1)

-- The numbers of the refusals, and answers that carry one. Assumes nothing.
use Rattle.std.specs.Prelude.{ℕ, List, ◌++◌, codes, decimal, cond, ◌&&◌, Some, None, Ok, Err, Option, Result, nat_le, nat_lt}
use Rattle.rules.specs.declared.refusal.Refusal.{Refusal}
use Rattle.rules.specs.declared.refusal.Refusal.TheVariants.{NumberTooHigh, TermLength, LimitTooHigh, TermStands, NoTermStands, TermUnfit, PastText, CorrectionLength, TrialOpen, NoSuchTrial, PageOrder, PagesFull, StretchTooLong, NoTermHeld, BufferTooSmall, NotANumber, LineTooShort}

-- the number under which each refusal is returned
abbrev pub refusal_number : Refusal → ℕ
refusal_number NumberTooHigh = 1
refusal_number TermLength = 2
refusal_number LimitTooHigh = 3
refusal_number TermStands = 4
refusal_number NoTermStands = 5
refusal_number TermUnfit = 6
refusal_number PastText = 7
refusal_number CorrectionLength = 8
refusal_number TrialOpen = 9
refusal_number NoSuchTrial = 10
refusal_number PageOrder = 11
refusal_number PagesFull = 12
refusal_number StretchTooLong = 13
refusal_number NoTermHeld = 14
refusal_number BufferTooSmall = 15
refusal_number NotANumber = 16
refusal_number LineTooShort = 17

-- how a refusal is printed
abbrev pub refusal_text : Refusal → List ℕ
refusal_text refusal = codes "refused " ++ decimal (refusal_number refusal)

-- the answer of a call that returns nothing else: the refusal, where there is one
abbrev pub answer_of : Option Refusal → Result (Unit {0}) Refusal
answer_of None = Ok tt
answer_of (Some e) = Err e

-- two checks in order: the first one's refusal, else the second's
abbrev pub in_order : Option Refusal → Option Refusal → Option Refusal
in_order (Some e) next = Some e
in_order None next = next

-- why no term can stand under a number: it is above 15
abbrev pub numbering : ℕ → Option Refusal
numbering number = cond (nat_lt number 16) None (Some NumberTooHigh)

-- why no term can have m bytes and the limit k: m is 1 to 64, and k is below m
abbrev pub malformed : ℕ → ℕ → Option Refusal
malformed m k = cond (nat_le 1 m && nat_le m 64) (cond (nat_lt k m) None (Some LimitTooHigh)) (Some TermLength)

-- The term or the term number that a value of the code holds. Assumes nothing.
use Rattle.std.specs.Prelude.{◌≡◌, ℕ, List, length, take, Some, None, Ok, Err, Result}
use Rattle.rules.specs.declared.refusal.Refusal.{Refusal}
use Rattle.rules.specs.declared.held.HeldTerm.{HeldTerm}
use Rattle.rules.specs.declared.numbers.TermNumber.{TermNumber}
use Rattle.rules.specs.Terms.{Term}
use Rattle.rules.specs.Refusals.{numbering, malformed}

-- the term in its array
abbrev pub term_of : HeldTerm → Term
term_of h = record { bytes = take h.len h.bytes; limit = h.limit }

-- the term of these bytes under this limit is held, or it is refused for its length and then for its limit
abbrev pub Held : List ℕ → ℕ → Result HeldTerm Refusal → Type 0
Held bytes k (Ok h) = (term_of h ≡ record { bytes = bytes; limit = k }) × (malformed (length bytes) k ≡ None)
Held bytes k (Err e) = malformed (length bytes) k ≡ Some e

-- the number is one under which a term can stand, or it is refused
abbrev pub Numbered : ℕ → Result TermNumber Refusal → Type 0
Numbered number (Ok n) = (n.value ≡ number) × (numbering number ≡ None)
Numbered number (Err e) = numbering number ≡ Some e

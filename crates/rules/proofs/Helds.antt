-- A term in the front of an array. Assumes nothing.
use Rattle.std.proofs.Common.{◌≡◌, ℕ, List, ◌++◌, length, take, refl, ap, ◌∙◌, arith, length-take}
use Rattle.std.proofs.lemmas.List.{take_at}
use Rattle.rules.specs.declared.held.HeldTerm.{HeldTerm}
use Rattle.rules.specs.Held.{term_of}
use Rattle.rules.specs.Terms.{Term}

pub copied-term : (term copy rest : List ℕ) (k : ℕ) → copy ≡ term → ◌≡◌ {A = Term} (record { bytes = take (length term) (copy ++ rest); limit = k }) (record { bytes = term; limit = k })
copied-term term copy rest k same =
    ap (λ (x : List ℕ). record { bytes = x; limit = k }) (ap (λ x. take (length term) (x ++ rest)) same ∙ take_at term rest (length term) refl)

-- a held term has as many bytes as it says
pub held-length : (h : HeldTerm) → length (term_of h).bytes ≡ h.len
held-length h = simp length-take (omega (arith, h.whole, h.short))

-- The terms of the rows, after a row is written. Assumes nothing.
use Rattle.std.proofs.Common.{◌≡◌, ℕ, ◌<◌, ◌≤◌, cond, eqb, List, map, length, get_or, set, None, Option, sym, ap, ◌∙◌, ⊎_elim, arith}
use Rattle.std.proofs.lemmas.List.{map-set, get_or-set_same, get_or-set_other, get_or-map, length-map, get_or_past}
use Rattle.std.proofs.lemmas.Bool.{cases_eq, eq-eqb, ne_eqb}
use Rattle.rules.specs.Terms.{Term}
use Rattle.ledger.specs.declared.row.Row.{Row}
use Rattle.ledger.specs.declared.row.Terms.{Terms}
use Rattle.ledger.specs.Terms.{row_term, standing}

-- a row is written
pub term-set : (rs : List Row) (i : ℕ) (r : Row) (n : ℕ) → i < length rs →
    get_or (map row_term (set rs i r)) n None ≡ cond (eqb n i) (row_term r) (get_or (map row_term rs) n None)
term-set rs i r n h =
    let l : i < length (map row_term rs) = simp length-map h in
    let old : Option Term = get_or (map row_term rs) n None in
    ap (λ x. get_or x n None) (map-set row_term rs i r)
    ∙ ⊎_elim
    (λ (e : n ≡ i). ap (λ x. get_or (set (map row_term rs) i (row_term r)) x None) e ∙ get_or-set_same (map row_term rs) i (row_term r) None l ∙ ap (λ b. cond b (row_term r) old) (sym (eq-eqb n i e)))
    (λ (e : n ≡ i → ⊥). get_or-set_other (map row_term rs) i n (row_term r) None e ∙ ap (λ b. cond b (row_term r) old) (sym (ne_eqb n i e)))
    (cases_eq n i)

-- A text that is the front of a longer list. Assumes nothing.
use Rattle.std.proofs.Common.{◌≡◌, ℕ, ◌+◌, ◌-◌, ◌<◌, ◌≤◌, List, length, get_or, take, drop, set, sym, ap, ◌∙◌, ⊎_elim, arith, length-drop, length-set, length-take}
use Rattle.std.proofs.lemmas.List.{ext_get_or, get_or-take, get_or-drop, get_or-set_same, get_or-set_other}
use Rattle.std.proofs.lemmas.Bool.{cases_eq}

-- a part that lies within the front
pub part_of : (n : ℕ) (xs : List ℕ) (at l : ℕ) → at + l ≤ n → at + l ≤ length xs → take (at + l - at) (drop at xs) ≡ take l (drop at (take n xs))
part_of n xs at l h k =
    ext_get_or 0 (take (at + l - at) (drop at xs)) (take l (drop at (take n xs))) (simp (length-take, length-drop) (omega arith))
    (λ p below.
    let lt : p < l = let b = simp (length-take, length-drop) at below in omega arith in
    get_or-take (at + l - at) (drop at xs) p 0 (omega arith) ∙ get_or-drop at xs p 0
    ∙ sym (get_or-take l (drop at (take n xs)) p 0 lt ∙ get_or-drop at (take n xs) p 0 ∙ get_or-take n xs (at + p) 0 (omega arith)))

-- an element set within the front
pub take-set-in : {X : Type 0} (n : ℕ) (xs : List X) (at : ℕ) (b : X) → at < n → at < length xs → take n (set xs at b) ≡ set (take n xs) at b
take-set-in n xs at b h k =
    ext_get_or b (take n (set xs at b)) (set (take n xs) at b) (simp (length-take, length-set) (omega arith))
    (λ p below.
    let lt : p < n = let b = simp (length-take, length-set) at below in omega arith in
    get_or-take n (set xs at b) p b lt
    ∙ ⊎_elim
    (λ (e : p ≡ at). ap (λ x. get_or (set xs at b) x b) e ∙ get_or-set_same xs at b b k ∙ sym (ap (λ x. get_or (set (take n xs) at b) x b) e ∙ get_or-set_same (take n xs) at b b (simp length-take (omega arith))))
    (λ (ne : p ≡ at → ⊥). get_or-set_other xs at p b b ne ∙ sym (get_or-set_other (take n xs) at p b b ne ∙ get_or-take n xs p b lt))
    (cases_eq p at))

-- Pasted bytes taken one after the other: what is laid, and where a place is found, also in an array of which the first `held` are held. Assumes nothing.
use Rattle.std.specs.Prelude.{◌≡◌, ℕ, ◌+◌, ◌<◌, ◌≤◌, true, false, cond, not, List, ◌∷◌, length, get_or, take, drop, ◌==◌, ◌≢◌, slice_index_or}
use Rattle.std.proofs.Common.{sym, ap, ◌∙◌, ⊎_elim, arith, length-take}
use Rattle.std.proofs.lemmas.List.{get_or-take, drop_more, drop_all}
use Rattle.std.proofs.lemmas.Bool.{cases_Bool, eq-eqb, ne_eqb, cond-true, cond-false}
use Rattle.layers.specs.declared.paste.Paste.{Paste}
use Rattle.layers.specs.Pasted.{first_at, over}

-- behind the last nothing is laid
pub over_none : (shows : ℕ → ℕ) (text : List ℕ) (ps : List Paste) (i : ℕ) → length ps ≤ i → text ≡ over shows text (drop i ps)
over_none shows text ps i l = sym (ap (over shows text) (drop_all i ps l))

-- looking for a place: the first byte apart from the others
first-step : (p : Paste) (ps : List Paste) (at : ℕ) → first_at (p ∷ ps) at ≡ cond (p.at == at) 0 (1 + first_at ps at)
first-step p ps at =
    ⊎_elim
    (λ (h : (p.at == at) ≡ true). ap (λ b. cond (not b) (1 + first_at ps at) 0) h ∙ sym (ap (λ b. cond b 0 (1 + first_at ps at)) h))
    (λ (h : (p.at == at) ≡ false). ap (λ b. cond (not b) (1 + first_at ps at) 0) h ∙ sym (ap (λ b. cond b 0 (1 + first_at ps at)) h))
    (cases_Bool (p.at == at))

module _ (ps : List Paste) (at i : ℕ) (d : Paste) (so_far : first_at ps at ≡ i + first_at (drop i ps) at) (l : i < length ps) where
  next : first_at (drop i ps) at ≡ cond ((get_or ps i d).at == at) 0 (1 + first_at (drop (i + 1) ps) at)
  next = ap (λ xs. first_at xs at) (drop_more ps i d l) ∙ first-step (get_or ps i d) (drop (i + 1) ps) at

  pub first-here : (get_or ps i d).at ≡ at → i ≡ first_at ps at
  first-here e =
      let z = next ∙ cond-true ((get_or ps i d).at == at) 0 (1 + first_at (drop (i + 1) ps) at) (eq-eqb (get_or ps i d).at at e) in
      omega arith

  pub first_more : ((get_or ps i d).at ≢ at) → first_at ps at ≡ i + 1 + first_at (drop (i + 1) ps) at
  first_more n =
      let z = next ∙ cond-false ((get_or ps i d).at == at) 0 (1 + first_at (drop (i + 1) ps) at) (ne_eqb (get_or ps i d).at at n) in
      omega arith

-- in the array of which the first `held` are held
module _ (all : List Paste) (held at i : ℕ) (d : Paste) (few : held ≤ length all) (so_far : first_at (take held all) at ≡ i + first_at (drop i (take held all)) at) (l : i < held) where
  stored : get_or all i d ≡ slice_index_or (take held all) i d
  stored = sym (get_or-take held all i d l)

  inside : i < length (take held all)
  inside = omega (arith, length-take held all)

  pub stored_here : (get_or all i d).at ≡ at → i ≡ first_at (take held all) at
  stored_here e = first-here (take held all) at i d so_far inside (ap (λ (p : Paste). p.at) (sym stored) ∙ e)

  pub stored_more : ((get_or all i d).at ≢ at) → first_at (take held all) at ≡ i + 1 + first_at (drop (i + 1) (take held all)) at
  stored_more n = first_more (take held all) at i d so_far inside (λ e. n (ap (λ (p : Paste). p.at) stored ∙ e))

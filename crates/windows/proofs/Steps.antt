-- A window goes on step by step, and is left where every one of its bits is set. Assumes nothing.
use Rattle.std.proofs.Common.{◌≡◌, ℕ, zero, suc, ◌+◌, ◌-◌, ◌*◌, ◌/◌, ◌%◌, ◌^◌, ◌<◌, true, false, cond, not, List, Some, None, sym, ap, ◌∙◌, ⊎_elim, arith}
use lib.Bits.{bit_or}
use Rattle.std.proofs.lemmas.Bool.{cases_Bool, both_ways, not_from_false, not_from_true, and_from}
use Rattle.rules.specs.Words.{all}
use Rattle.rules.specs.Terms.{Term}
use Rattle.rules.proofs.Words.{all-is, all_more}
use Rattle.windows.specs.Windows.{word_at, window_state, is_full, window_steps}

-- one step more
pub window-step : (t : Term) (text : List ℕ) (c j state more : ℕ) → 0 < j → state ≡ window_state t text c (j - 1) →
    more ≡ bit_or (bit_or state (word_at t text (c - j) * 2 ^ j % 2 ^ 64)) (word_at t text (c + j) / 2 ^ j) → more ≡ window_state t text c j
window-step t text c zero state more z s e = absurd (omega arith)
window-step t text c (suc j) state more z s e =
    let back : suc j - 1 ≡ j = omega arith in
    e ∙ ap (λ x. bit_or (bit_or x (word_at t text (c - suc j) * 2 ^ suc j % 2 ^ 64)) (word_at t text (c + suc j) / 2 ^ suc j)) (s ∙ ap (window_state t text c) back)

module _ (t : Term) (text : List ℕ) (c : ℕ) where
  -- a window that was left has no later state
  pub steps-left : (i j : ℕ) → i < j → is_full t (window_state t text c i) ≡ true → window_steps t text c j ≡ None
  steps-left i j l full = ⊎_elim
      (λ (e : all (λ k. not (is_full t (window_state t text c k))) j ≡ true).
      absurd (both_ways (not (is_full t (window_state t text c i))) (not_from_true _ full) ((all-is (λ k. not (is_full t (window_state t text c k))) j).0 e i l)))
      (λ (e : all (λ k. not (is_full t (window_state t text c k))) j ≡ false). ap (λ b. cond b (Some (window_state t text c j)) None) e)
      (cases_Bool (all (λ k. not (is_full t (window_state t text c k))) j))

  -- one that was not goes on
  pub steps-more : (j : ℕ) → 0 < j → all (λ k. not (is_full t (window_state t text c k))) (j - 1) ≡ true → is_full t (window_state t text c (j - 1)) ≡ false → all (λ k. not (is_full t (window_state t text c k))) j ≡ true
  steps-more j z before unfilled =
      let on : j ≡ j - 1 + 1 = omega arith in
      ap (all (λ k. not (is_full t (window_state t text c k)))) on ∙ all_more (λ k. not (is_full t (window_state t text c k))) (j - 1)
      ∙ and_from (all (λ k. not (is_full t (window_state t text c k))) (j - 1)) _ before (not_from_false _ unfilled)

  -- one that was never left has this state
  pub steps-kept : (state j : ℕ) → state ≡ window_state t text c j → all (λ k. not (is_full t (window_state t text c k))) j ≡ true → Some state ≡ window_steps t text c j
  steps-kept state j s a = ap (λ x. Some x) s ∙ sym (ap (λ b. cond b (Some (window_state t text c j)) None) a)

-- A window that was not left before a step. Assumes nothing.
use Rattle.std.proofs.Common.{◌≡◌, ℕ, ◌+◌, ◌-◌, ◌*◌, ◌/◌, ◌%◌, ◌^◌, ◌≤◌, true, false, not, sym, ap, ◌∙◌}
use lib.Bits.{bit_or}
use Rattle.rules.specs.Words.{all}
use Rattle.rules.specs.Held.{term_of}
use Rattle.windows.specs.declared.window.Window.{Window}
use Rattle.windows.specs.Windows.{is_full, window_state, word_at}
use Rattle.windows.proofs.Steps.{window-step, steps-more}

-- its state after j steps
abbrev pub Kept : Window → ℕ → ℕ → Type 0
Kept w j state =
    (state ≡ window_state (term_of w.reading.term.now) w.reading.stretch.now w.centre j)
    × (all (λ i. not (is_full (term_of w.reading.term.now) (window_state (term_of w.reading.term.now) w.reading.stretch.now w.centre i))) j ≡ true)

-- one step more
pub kept_more : (w : Window) (j state next : ℕ) → 1 ≤ j → Kept w (j - 1) state → is_full (term_of w.reading.term.now) state ≡ false →
    next ≡ bit_or (bit_or state (word_at (term_of w.reading.term.now) w.reading.stretch.now (w.centre - j) * 2 ^ j % 2 ^ 64)) (word_at (term_of w.reading.term.now) w.reading.stretch.now (w.centre + j) / 2 ^ j) → Kept w j next
kept_more w j state next one kept unfilled e =
    let t = term_of w.reading.term.now in
    (window-step t w.reading.stretch.now w.centre j state next one kept.0 e, steps-more t w.reading.stretch.now w.centre j one kept.1 (ap (is_full t) (sym kept.0) ∙ unfilled))

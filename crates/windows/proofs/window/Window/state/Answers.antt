use Rattle.std.proofs.Common.{◌≡◌, ℕ, ◌+◌, ◌-◌, ◌<◌, true, cond, ltb, length, None, sym, ap, ◌∙◌, subst, arith}
use Rattle.std.proofs.lemmas.Bool.{lt-ltb}
use Rattle.rules.specs.Held.{term_of}
use Rattle.rules.proofs.Words.{all_none}
use Rattle.windows.specs.Windows.{is_full, window_state, window_steps}
use Rattle.windows.proofs.Steps.{steps-kept, steps-left}
use Rattle.windows.specs.declared.window.Window.{Window}
use Rattle.windows.proofs.Kept.{Kept, kept_more}
use Rattle.windows.proofs.window.Window.state.Goals as goal

-- a step of the window
within : (w : Window) (step : ℕ) → step < length (term_of w.reading.term.now).bytes →
    cond (ltb step (length (term_of w.reading.term.now).bytes)) (window_steps (term_of w.reading.term.now) w.reading.stretch.now w.centre step) None ≡ window_steps (term_of w.reading.term.now) w.reading.stretch.now w.centre step
within w step l = ap (λ b. cond b (window_steps (term_of w.reading.term.now) w.reading.stretch.now w.centre step) None) (lt-ltb step (length (term_of w.reading.term.now).bytes) l)

pub loop-j-init : goal.loop-j-init
loop-j-init c = ((c.word_at-state.ensures, all_none _), omega arith)

pub returns-then-is_full : goal.returns-then-is_full
returns-then-is_full c =
    let w = c.args.self.now in
    let t = term_of w.reading.term.now in
    let j = c.loop-j.j in
    let is : is_full t (window_state t w.reading.stretch.now w.centre (j - 1)) ≡ true = ap (is_full t) (sym c.loop-j.invariant.0.0) ∙ sym c.is_full.ensures ∙ c.if-is_full.true in
    sym (within w c.args.step (omega (arith, ap length c.bytes.ensures.value)) ∙ steps-left t w.reading.stretch.now w.centre (j - 1) c.args.step (omega arith) is)

pub loop-j-preserved : goal.loop-j-preserved
loop-j-preserved c =
    let w = c.args.self.now in
    let j = c.loop-j.j in
    let next : j ≡ j + 1 - 1 = omega arith in
    (subst (λ (k : ℕ). Kept w k c.spread-state.result) next (kept_more w j c.loop-j.state c.spread-state.result (omega arith) c.loop-j.invariant.0 (sym c.is_full.ensures ∙ c.if-is_full.false) c.spread-state.ensures), omega arith)

-- after the last step
pub returns-else-is_full : goal.returns-else-is_full
returns-else-is_full c =
    let w = c.args.self.now in
    let j = c.loop-j.j in
    let last : j ≡ c.args.step = omega arith in
    let kept = subst (λ (k : ℕ). Kept w k c.spread-state.result) last (kept_more w j c.loop-j.state c.spread-state.result (omega arith) c.loop-j.invariant.0 (sym c.is_full.ensures ∙ c.if-is_full.false) c.spread-state.ensures) in
    steps-kept (term_of w.reading.term.now) w.reading.stretch.now w.centre c.spread-state.result c.args.step kept.0 kept.1 ∙ sym (within w c.args.step (omega (arith, ap length c.bytes.ensures.value)))

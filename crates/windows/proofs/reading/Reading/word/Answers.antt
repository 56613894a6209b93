use Rattle.std.proofs.Common.{◌≡◌, ◌+◌, ◌-◌, ◌<◌, ◌≤◌, true, ◌⊎◌, length, sym, ap, ◌∙◌, inl, inr, arith}
use Rattle.rules.specs.Held.{term_of}
use Rattle.rules.specs.Terms.{occurs}
use Rattle.rules.proofs.Helds.{held-length}
use Rattle.matchers.proofs.Marking.{marked_below, marked-none}
use Rattle.windows.specs.Windows.{is_full, window_state}
use Rattle.windows.proofs.Steps.{window-step}
use Rattle.windows.proofs.Centres.{decided-window, decided-end}
use Rattle.windows.proofs.reading.Reading.word.Goals as goal
use Rattle.windows.proofs.reading.Reading.word.Goals.{else-steps-test, then-steps-test+then-is_full}

pub windows-init : goal.windows-init
windows-init c =
    let h = c.args.self.now.term.now in
    let m = length c.bytes-m.result.now in
    let long = held-length h in
    let some : 0 < m = omega (arith, h.limited, ap length c.bytes-m.ensures.value) in
    let none : 0 ≡ m - 1 + 1 - m = omega arith in
    let p = occurs (term_of h) c.args.self.now.stretch.now in
    (omega arith, marked-none p ∙ ap (marked_below p) none)

pub steps-preserved : goal.steps-preserved
steps-preserved c =
    let t = term_of c.args.self.now.term.now in
    let text = c.args.self.now.stretch.now in
    let at = c.windows.centre in
    let j = c.steps.j in
    let next : j ≡ j + 1 - 1 = omega arith in
    window-step t text at j c.steps.state c.spread-state.result (omega arith) c.steps.invariant c.spread-state.ensures ∙ ap (window_state t text at) next

pub windows-preserved : goal.windows-preserved
windows-preserved c =
    let h = c.args.self.now.term.now in
    let t = term_of h in
    let text = c.args.self.now.stretch.now in
    let at = c.windows.centre in
    let m = ap length c.bytes-m.ensures.value in
    let long = held-length h in
    let before = c.windows.invariant.1 ∙ ap (λ k. marked_below (occurs t text) (at + 1 - k)) m in
    let ends : (length t.bytes ≤ c.steps.j) ⊎ (is_full t c.steps.state ≡ true) = elim c.steps-test.branch [
      | else-steps-test w ↦ inl (omega (arith, m))
      | then-steps-test+then-is_full w ↦ inr (sym w.is_full.ensures ∙ w.if-is_full.true)
    ] in
    let marked = decided-window t text at c.steps.j c.windows.word c.steps.state c.mark-word.result (omega (arith, h.limited)) (omega (arith, h.short)) (omega (arith, m)) (omega (arith, m, h.limited)) c.steps.invariant ends before c.mark-word.ensures in
    let next : at + 1 ≡ at + length c.bytes-m.result.now + 1 - length c.bytes-m.result.now = omega arith in
    (omega arith, marked ∙ ap (marked_below (occurs t text)) next)

pub returns : goal.returns
returns c =
    let h = c.args.self.now.term.now in
    let t = term_of h in
    let text = c.args.self.now.stretch.now in
    let at = c.windows.centre in
    let m = ap length c.bytes-m.ensures.value in
    let long = held-length h in
    c.windows.invariant.1 ∙ ap (λ k. marked_below (occurs t text) (at + 1 - k)) m
    ∙ decided-end t text at (omega (arith, h.limited)) (omega (arith, m)) (omega (arith, m))

pub returns-2 : goal.returns-2
returns-2 c =
    let h = c.args.self.now.term.now in
    let t = term_of h in
    let text = c.args.self.now.stretch.now in
    let at = c.windows.centre in
    let m = ap length c.bytes-m.ensures.value in
    let long = held-length h in
    let before = c.windows.invariant.1 ∙ ap (λ k. marked_below (occurs t text) (at + 1 - k)) m in
    let ends : (length t.bytes ≤ c.steps.j) ⊎ (is_full t c.steps.state ≡ true) = elim c.steps-test.branch [
      | else-steps-test w ↦ inl (omega (arith, m))
      | then-steps-test+then-is_full w ↦ inr (sym w.is_full.ensures ∙ w.if-is_full.true)
    ] in
    let marked = decided-window t text at c.steps.j c.windows.word c.steps.state c.mark-word.result (omega (arith, h.limited)) (omega (arith, h.short)) (omega (arith, m)) (omega (arith, m, h.limited)) c.steps.invariant ends before c.mark-word.ensures in
    let next : at + 1 ≡ at + length t.bytes + 1 - length t.bytes = omega arith in
    marked ∙ ap (marked_below (occurs t text)) next
    ∙ decided-end t text (at + length t.bytes) (omega (arith, h.limited)) (omega (arith, m)) (omega arith)

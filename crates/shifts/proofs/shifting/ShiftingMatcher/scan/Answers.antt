use Rattle.std.proofs.Common.{◌≡◌, ℕ, ◌+◌, [], ◌∷◌, ◌++◌, length, get_or, sym, ap, ◌∙◌, subst, arith, length-append, rules}
use Rattle.std.proofs.lemmas.Iterator.Consumers.{YieldsList-turn, YieldsList-end}
use Rattle.rules.specs.Held.{term_of}
use Rattle.rules.specs.Terms.{scanned}
use Rattle.rules.proofs.Helds.{held-length}
use Rattle.matchers.specs.Places.{held_places}
use Rattle.matchers.proofs.Scans.{lent_held, lent_answer}
use Rattle.shifts.specs.Marks.{marked_at}
use Rattle.shifts.proofs.Reading.{Read, read_none, read_more, read_all, placed, placed-count, bytes-road}
use Rattle.shifts.proofs.shifting.ShiftingMatcher.scan.Goals as goal

pub loop-n-init : goal.loop-n-init
loop-n-init g c =
    let h = c.in_ok-term.term.now in
    let t = term_of h in
    let start = g.T.Forward.start in
    let step = g.T.Forward.step in
    let words_of = g.T.Forward.words_of t in
    let long = held-length h in
    subst (λ state. Read start step words_of t c.args.stretch.now 0 state 0) (sym c.start-state.ensures) (read_none start step words_of t c.args.stretch.now (omega (arith, h.limited)))

pub loop-n-preserved : goal.loop-n-preserved
loop-n-preserved g c =
    let s = c.args.self.now in
    let h = c.in_ok-term.term.now in
    let t = term_of h in
    let text = c.args.stretch.now in
    let n = length c.loop-n.yielded in
    let word = c.loop-n.word in
    let last = g.T.Forward.last (length t.bytes) in
    let held = lent_held s.term h text c.in_ok-term.ensures.value in
    let fit = s.fits h held in
    let m = ap length c.bytes-m.ensures.value in
    let road = bytes-road text (63 + length c.bytes-m.result.now) c.iter.result c.enumerate.result c.take-n-items.result c.into_iter-n-iterator.result
    c.iter.ensures.rest c.enumerate.ensures.source c.enumerate.ensures.count c.take-n-items.ensures.source c.take-n-items.ensures.count c.into_iter-n-iterator.ensures.into_iter_gives in
    let here = placed text (63 + length c.bytes-m.result.now) n (c.in-Some.n, c.in-Some.b.now)
    (YieldsList-turn road c.loop-n.yielded c.loop-n.n-iterator c.loop-n.yielded_by c.next.result c.next.new.self (c.in-Some.n, c.in-Some.b) c.in-Some.is c.next.ensures.steps) in
    let next : n + 1 ≡ length (c.loop-n.yielded ++ ((c.in-Some.n, c.in-Some.b) ∷ [])) = sym (length-append c.loop-n.yielded _) in
    subst (λ (k : ℕ). Read g.T.Forward.start g.T.Forward.step (g.T.Forward.words_of t) t text k c.step-state.result c.mark-word.result) next
    (read_more g.T.Forward.start g.T.Forward.step (g.T.Forward.words_of t) t text last n c.mark-word.result c.loop-n.state c.step-state.result word c.word.result
    (λ k l. g.met.T.Forward.forward t text k fit l) here.0 (omega (arith, here.1.0, m))
    (c.word.ensures ∙ ap (g.T.Forward.words s.table) here.1.1.1
    ∙ s.filled (get_or text n 0) (let fits = c.type_inv.stretch n in search rules) ∙ ap (λ o. g.T.Forward.words_of (held_places o) (get_or text n 0)) held)
    c.step-state.ensures
    (c.mark-word.ensures ∙ ap (λ k. marked_at word c.ends.result (k + 1) (length c.bytes-m.result.now)) here.1.1.0
    ∙ ap (λ b. marked_at word b (n + 1) (length c.bytes-m.result.now)) c.ends.ensures ∙ ap (marked_at word (last c.step-state.result) (n + 1)) m)
    c.loop-n.invariant)

pub returns : goal.returns
returns g c =
    let s = c.args.self.now in
    let h = c.in_ok-term.term.now in
    let t = term_of h in
    let text = c.args.stretch.now in
    let road = bytes-road text (63 + length c.bytes-m.result.now) c.iter.result c.enumerate.result c.take-n-items.result c.into_iter-n-iterator.result
    c.iter.ensures.rest c.enumerate.ensures.source c.enumerate.ensures.count c.take-n-items.ensures.source c.take-n-items.ensures.count c.into_iter-n-iterator.ensures.into_iter_gives in
    let all = (YieldsList-end road c.loop-n.yielded c.loop-n.n-iterator c.loop-n.yielded_by c.next.result c.next.new.self c.in-None.is c.next.ensures.steps).1 in
    let many = placed-count text (63 + length c.bytes-m.result.now) in
    record {
      value = lent_answer s.term h text c.in_ok-term.ensures.value scanned c.loop-n.word
          (read_all g.T.Forward.start g.T.Forward.step (g.T.Forward.words_of t) t text (length c.loop-n.yielded) c.loop-n.word c.loop-n.state (omega (arith, all, many, ap length c.bytes-m.ensures.value)) c.loop-n.invariant);
    }

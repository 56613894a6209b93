use Rattle.std.proofs.Common.{length, ap, ◌∙◌, rules}
use Rattle.std.specs.List.{fold}
use borrow.Author.Tests.{tests}
use Rattle.std.proofs.lemmas.Iterator.{YieldsList-from_slice}
use Rattle.std.proofs.lemmas.Iterator.Consumers.{fold_from_yields_List}
use Rattle.matchers.specs.Places.{held_places, state_after}
use Rattle.matchers.proofs.Scans.{lent_held, lent_answer}
use Rattle.shifts.proofs.Reading.{state-fold}
use Rattle.shifts.proofs.shifting.Shifting.state.Goals as goal

pub returns : goal.returns
returns g c =
    let s = c.args.self.now in
    let read = c.args.read.now in
    let h = c.in_ok-held_for.field-0.now in
    let start = g.T.Forward.start in
    let step = g.T.Forward.step in
    let words_of = g.T.Forward.words_of in
    let held = lent_held s.term h read c.in_ok-held_for.ensures.value in
    let folded = fold_from_yields_List _ (λ a b. step a (g.T.Forward.words s.table b)) c.start.result c.fold-state.result c.fold-state.ensures.ran (YieldsList-from_slice read c.iter.ensures.rest) (λ a x b q k. search (rules, tests)) in
    record {
      value = lent_answer s.term h read c.in_ok-held_for.ensures.value (λ t text. state_after start step (words_of t) text (length text)) c.fold-state.result
          (folded ∙ ap (λ a. fold (λ a b. step a (g.T.Forward.words s.table b)) a read) c.start.ensures
          ∙ state-fold start step (g.T.Forward.words s.table) (words_of (held_places s.term)) read s.filled (λ i. let fits = c.type_inv.read i in search rules)
          ∙ ap (λ o. state_after start step (words_of (held_places o)) read (length read)) held);
    }

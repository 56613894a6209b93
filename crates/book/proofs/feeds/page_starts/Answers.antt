use Rattle.std.proofs.Common.{ℕ, ◌+◌, Bool, cond, List, [], ◌∷◌, ◌++◌, get_or, drop, vec_items, sym, refl, ap, ◌∙◌, arith}
use Rattle.std.proofs.lemmas.Slice.{pushed}
use Rattle.std.proofs.lemmas.Bool.{eq-eqb, ne_eqb}
use Rattle.book.specs.Pages.{behind_feeds}
use Rattle.book.proofs.Opening.{feeds-more, feeds-all}
use Rattle.book.proofs.feeds.page_starts.Goals as goal
use Rattle.book.proofs.feeds.page_starts.Goals.{then-b-eq12+in_ok-push, else-b-eq12}

pub loop-at-preserved : goal.loop-at-preserved
loop-at-preserved c =
    let text = c.args.text.now in
    let at = c.loop-at.at in
    let xs = vec_items c.loop-at.starts in
    let rest = behind_feeds (at + 1) (drop (at + 1) text) in
    let here = get_or text at 0 in
    let more = feeds-more text xs at c.loop-at-test.true here refl in
    elim c.if-b-eq12.branch [
      | then-b-eq12+in_ok-push w ↦
          let p = pushed ((at + 1) ∷ []) refl w.in_ok-push.was w.push.ensures.items in
          ap (λ v. vec_items v ++ rest) w.starts-is ∙ ap (λ (ys : List ℕ). ys ++ rest) p
          ∙ sym (more ∙ ap (λ (b : Bool). cond b ((xs ++ (at + 1) ∷ []) ++ rest) (xs ++ rest)) (eq-eqb here 12 w.if-b-eq12.true)) ∙ c.loop-at.invariant
      | else-b-eq12 w ↦
          ap (λ v. vec_items v ++ rest) w.starts-is
          ∙ sym (more ∙ ap (λ (b : Bool). cond b ((xs ++ (at + 1) ∷ []) ++ rest) (xs ++ rest)) (ne_eqb here 12 w.if-b-eq12.false)) ∙ c.loop-at.invariant
    ]

pub returns : goal.returns
returns c = record { made = sym (feeds-all c.args.text.now (vec_items c.loop-at.starts) c.loop-at.at (omega arith)) ∙ c.loop-at.invariant }

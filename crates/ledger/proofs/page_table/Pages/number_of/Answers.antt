use Rattle.std.proofs.Common.{rules, ◌≡◌, ◌≤◌, ◌-◌, ◌+◌, sym, subst, ap, ◌∙◌, get_or, arith}
use Rattle.std.proofs.lemmas.List.Sorted.{IsNonDecreasingBy-take, IsNonDecreasingBy-drop}
use Rattle.std.specs.List.Sorted.{IsNonDecreasing}
use Rattle.ledger.specs.Pages.{page_starts, page_at}
use Rattle.ledger.proofs.Turns.{page-found, between-page, between-before}
use Rattle.ledger.proofs.page_table.Pages.number_of.Goals as goal

pub returns-then-from-behind-clause-value : goal.returns-then-from-behind-clause-value
returns-then-from-behind-clause-value c =
    let xs = c.as_slice-starts.result.now in
    let same : xs ≡ page_starts c.args.self.now = c.as_slice-starts.ensures.value in
    let up : IsNonDecreasing xs = subst IsNonDecreasing (sym same) c.args.self.now.ascending in
    let i = c.loop-from.invariant in
    let on : get_or xs c.loop-from.from 0 ≤ c.args.start = omega (arith, c.loop-from-test.false) in
    let found = page-found xs c.args.start c.loop-from.from (omega (arith, i.0, i.1)) on (λ k a b. omega (arith, i.2 (omega arith), up c.loop-from.behind k 0 (omega arith) b)) in
    omega (arith, found, ap (λ ys. page_at ys c.args.start) same)

module _ (c : goal.After-begun) where
  same : c.as_slice-starts.result.now ≡ page_starts c.args.self.now
  same = c.as_slice-starts.ensures.value

  up : IsNonDecreasing c.as_slice-starts.result.now
  up = subst IsNonDecreasing (sym same) c.args.self.now.ascending

  on : get_or c.as_slice-starts.result.now c.loop-from.from 0 ≤ c.args.start
  on = omega (arith, c.loop-from-test.false)

  within : c.begun.result ≤ c.loop-from.behind - (c.loop-from.from + 1)
  within = search rules

pub returns-clause-value : goal.returns-clause-value
returns-clause-value c =
    let i = c.loop-from.invariant in
    between-page c.as_slice-starts.result.now c.args.start c.loop-from.from c.loop-from.behind c.begun.result i.0 i.1 (up c) (on c) i.2 (within c) (c.begun.ensures.point (IsNonDecreasingBy-take (λ x. x) _ _ (IsNonDecreasingBy-drop (λ x. x) _ _ (up c))))
    ∙ ap (λ ys. page_at ys c.args.start) (same c)

pub returns-clause-before : goal.returns-clause-before
returns-clause-before c =
    let i = c.loop-from.invariant in
    subst (λ ys. get_or ys (c.loop-from.from + 1 + c.begun.result - 1) 0 ≤ c.args.start) (same c)
    (between-before c.as_slice-starts.result.now c.args.start c.loop-from.from c.loop-from.behind c.begun.result i.0 i.1 (up c) (on c) i.2 (within c) (c.begun.ensures.point (IsNonDecreasingBy-take (λ x. x) _ _ (IsNonDecreasingBy-drop (λ x. x) _ _ (up c)))))

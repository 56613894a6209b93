use Rattle.std.proofs.Common.{◌≡◌, ℕ, ◌*◌, ◌<◌, ◌≤◌, min, false, sym, subst, ⊎_elim, arith}
use Rattle.std.proofs.lemmas.Bool.{cases_lt}
use Rattle.rules.specs.Words.{count}
use Rattle.rules.proofs.Counts.{count-below}
use Rattle.ledger.specs.Debts.{owed}
use Rattle.ledger.specs.Units.{unit_index}
use Rattle.indexer.specs.Works.{Ran}
use Rattle.indexer.proofs.Runs.{ran-within, ran-more, none_before, ran-all, run-called}
use Rattle.indexer.proofs.index.Indexer.run.Goals as goal

pub loop-done-preserved : goal.loop-done-preserved
loop-done-preserved g c =
    let i = c.args.self.now in
    let j = c.loop-done.self in
    let d = c.loop-done.done in
    let ran = c.loop-done.invariant.3 in
    let u = c.in-Some.unit in
    let x = unit_index u in
    let f = c.in-Some.ensures.value in
    let first : (y : ℕ) → y < x → owed j.ledger.debts y ≡ false =
    λ y l. ⊎_elim (λ (k : y < 16 * c.loop-done.from). c.loop-done.invariant.2 y k) (λ (k : 16 * c.loop-done.from ≤ y). f.before y k l) (cases_lt y (16 * c.loop-done.from)) in (
      omega arith,
      ran-within g.M.Matcher g.G.Galley i j d ran x f.here first f.high,
      none_before g.M.Matcher g.G.Galley i j d ran x f.here first c.work.new.self (16 * u.block) (omega arith) c.work.ensures,
      ran-more g.M.Matcher g.G.Galley i j d ran x f.here first c.work.new.self c.work.ensures,
    )

pub returns-in_default : goal.returns-in_default
returns-in_default g c =
    let i = c.args.self.now in
    let j = c.loop-done.self in
    let d = c.loop-done.done in
    let ran = c.loop-done.invariant.3 in
    let none : (y : ℕ) → y < 4096 → owed j.ledger.debts y ≡ false =
    λ y l. ⊎_elim (λ (k : y < 16 * c.loop-done.from). c.loop-done.invariant.2 y k) (λ (k : 16 * c.loop-done.from ≤ y). c.in_default.ensures.value y k l) (cases_lt y (16 * c.loop-done.from)) in
    let all : d ≡ min c.args.u (count (owed i.ledger.debts) 4096) = omega (arith, ran-all g.M.Matcher g.G.Galley i j d ran none) in
    record { called = run-called g.M.Matcher g.G.Galley i j d ran c.args.u 0 all (sym (count-below (owed j.ledger.debts) 4096 none)) }

pub returns : goal.returns
returns g c =
    let i = c.args.self.now in
    let d = c.loop-done.done in
    let all : c.args.u ≡ min c.args.u (count (owed i.ledger.debts) 4096) = omega arith in
    let is : d ≡ c.args.u = omega arith in
    let ran = subst (λ x. Ran g.M.Matcher g.G.Galley i x c.loop-done.self) is c.loop-done.invariant.3 in
    record { called = run-called g.M.Matcher g.G.Galley i c.loop-done.self c.args.u ran c.args.u c.count.result all c.count.ensures.value }

use Rattle.std.proofs.Common.{true, false, length, None, sym, refl}
use Rattle.std.proofs.lemmas.Result.{err_from_is_err_and}
use Rattle.rules.specs.declared.refusal.Refusal.TheVariants.{TermStands, TermUnfit}
use Rattle.rules.specs.Held.{term_of}
use Rattle.indexer.specs.Called.{view}
use Rattle.indexer.proofs.Calls.{enter-refused, unnumbered, unformed, taken, unfit, accepted, enter-called, shown-form, row-stands, passed_on, entered_at}
use Rattle.indexer.proofs.index.Indexer.enter.Goals as goal

pub returns-in_err-number : goal.returns-in_err-number
returns-in_err-number g c =
    let i = c.args.self.now in
    let term = c.args.term.now in
    let p = err_from_is_err_and c.from_residual.result c.from_residual.ensures.1 in
    record {
      called = enter-refused g.M.Matcher g.G.Galley i c.args.number c.args.limit term p.0 c.from_residual.result p.1
          (unnumbered (g.M.Matcher.fit i.matcher) (view g.G.Galley i) c.args.number c.args.limit term p.0 (passed_on _ _ p.0 c.in_err-number.ensures p.2));
    }

pub returns-in_err-shown : goal.returns-in_err-shown
returns-in_err-shown g c =
    let i = c.args.self.now in
    let term = c.args.term.now in
    let p = err_from_is_err_and c.from_residual-in_err-shown.result c.from_residual-in_err-shown.ensures.1 in
    let form = shown-form g.G.Galley.shows term c.args.limit _ (passed_on _ _ p.0 c.in_err-shown.ensures.cases p.2) in
    record {
      called = enter-refused g.M.Matcher g.G.Galley i c.args.number c.args.limit term p.0 c.from_residual-in_err-shown.result p.1
          (unformed (g.M.Matcher.fit i.matcher) (view g.G.Galley i) c.args.number c.args.limit term c.in_ok-number.ensures.1 p.0 form);
    }

pub returns-then-is_some : goal.returns-then-is_some
returns-then-is_some g c =
    let i = c.args.self.now in
    let term = c.args.term.now in
    let number = c.in_ok-number.ensures in
    let form = shown-form g.G.Galley.shows term c.args.limit None c.in_ok-shown.ensures.cases.1 in
    let stands = row-stands term_of (view g.G.Galley i).stands c.in_ok-number.number.value c.args.number c.term.result true number.0 c.term.ensures.value c.if-is_some.ensures in
    record {
      called = enter-refused g.M.Matcher g.G.Galley i c.args.number c.args.limit term TermStands _ refl
          (taken (g.M.Matcher.fit i.matcher) (view g.G.Galley i) c.args.number c.args.limit term number.1 form stands);
    }

pub returns-then-not-fits : goal.returns-then-not-fits
returns-then-not-fits g c =
    let i = c.args.self.now in
    let term = c.args.term.now in
    let number = c.in_ok-number.ensures in
    let form = shown-form g.G.Galley.shows term c.args.limit None c.in_ok-shown.ensures.cases.1 in
    let free = row-stands term_of (view g.G.Galley i).stands c.in_ok-number.number.value c.args.number c.term.result false number.0 c.term.ensures.value c.if-is_some.ensures in
    record {
      called = enter-refused g.M.Matcher g.G.Galley i c.args.number c.args.limit term TermUnfit _ refl
          (unfit (g.M.Matcher.fit i.matcher) (view g.G.Galley i) c.args.number c.args.limit term number.1 form free (sym c.if-not-fits.ensures.value));
    }

pub returns : goal.returns
returns g c =
    let i = c.args.self.now in
    let term = c.args.term.now in
    let number = c.in_ok-number.ensures in
    let form = shown-form g.G.Galley.shows term c.args.limit None c.in_ok-shown.ensures.cases.1 in
    let free = row-stands term_of (view g.G.Galley i).stands c.in_ok-number.number.value c.args.number c.term.result false number.0 c.term.ensures.value c.if-is_some.ensures in
    let fits = sym c.if-not-fits.ensures.value in
    let shown = term_of c.in_ok-shown.shown in
    let entered = entered_at i.ledger c.enter.new.self shown c.in_ok-number.number.value c.args.number c.length.result (length (g.G.Galley.text i.galley)) number.0 c.length.ensures.value c.enter.ensures.after in
    record {
      called = enter-called g.M.Matcher g.G.Galley i c.args.number c.args.limit term c.enter.new.self shown
          (accepted (g.M.Matcher.fit i.matcher) (view g.G.Galley i) c.args.number c.args.limit term number.1 form free fits)
          c.in_ok-shown.ensures.cases.0 (g.met.G.Galley.texts i.galley).short entered free fits;
    }

use Rattle.std.proofs.Common.{◌≡◌, min, Some, None, sym, ap, ◌∙◌}
use Rattle.std.specs.Option.{option_map}
use Rattle.rules.specs.Held.{term_of}
use Rattle.ledger.specs.Books.{first_from, listed as byMarks}
use Rattle.indexer.specs.Listed.{locator_at}
use Rattle.indexer.specs.Called.{view}
use Rattle.indexer.proofs.Locates.{located, first-located}
use Rattle.indexer.proofs.index.Indexer.locator.Goals as goal

pub returns-in_default-first_listed : goal.returns-in_default-first_listed
returns-in_default-first_listed g c =
    let i = c.args.self.now in
    let number = c.in_ok-number.ensures in
    let stands : (view g.G.Galley i).stands c.args.number ≡ Some (term_of c.in-Some.term) = ap (λ n. (view g.G.Galley i).stands n) (sym number.0) ∙ sym c.in-Some.ensures.value in
    let first : None ≡ first_from (byMarks i.ledger c.args.number) c.args.from (min c.length.result 16384) =
    c.in_default-first_listed.ensures.value ∙ ap (λ n. first_from (byMarks i.ledger n) c.args.from (min c.length.result 16384)) number.0 in
    record {
      located = located g.M.Matcher g.G.Galley i c.args.number c.args.from _
          (first-located g.M.Matcher g.G.Galley i c.args.number c.args.from (term_of c.in-Some.term) None c.length.result number.1 stands (g.met.G.Galley.texts i.galley).short c.length.ensures.value first);
    }

pub returns : goal.returns
returns g c =
    let i = c.args.self.now in
    let number = c.in_ok-number.ensures in
    let t = term_of c.in-Some.term in
    let s = c.in-Some-first_listed.start in
    let stands : (view g.G.Galley i).stands c.args.number ≡ Some t = ap (λ n. (view g.G.Galley i).stands n) (sym number.0) ∙ sym c.in-Some.ensures.value in
    let first : Some s ≡ first_from (byMarks i.ledger c.args.number) c.args.from (min c.length.result 16384) =
    c.in-Some-first_listed.ensures.value ∙ ap (λ n. first_from (byMarks i.ledger n) c.args.from (min c.length.result 16384)) number.0 in
    let page = c.find-page.ensures.page in
    let place = c.find-page.ensures.place in
    let variant = c.variant_at-variant.ensures.value in
    let same : record { start = s; page = c.find-page.result.page; place = c.find-page.result.place; variant = c.variant_at-variant.result } ≡ locator_at (view g.G.Galley i) t s = cc in
    record {
      located = located g.M.Matcher g.G.Galley i c.args.number c.args.from _
          (ap (λ x. Rattle.std.specs.declared.result.Result.TheVariants.Ok (Some x)) same
          ∙ first-located g.M.Matcher g.G.Galley i c.args.number c.args.from t (Some s) c.length.result number.1 stands (g.met.G.Galley.texts i.galley).short c.length.ensures.value first);
    }

use Rattle.std.proofs.Common.{refl, ◌∙◌}
use Rattle.std.specs.Option.{option_map}
use Rattle.rules.specs.Held.{term_of}
use Rattle.indexer.proofs.Works.{settled-owed, settled-right, done-holds}
use Rattle.indexer.proofs.index.Indexer.work.Goals as goal

pub returns : goal.returns
returns g c =
    let i = c.args.self.now in
    let u = c.args.unit in
    let fit = g.M.Matcher.fit in
    let text = g.G.Galley.text i.galley in
    let row = c.term-standing.ensures.value in
    let looked = c.look-word.ensures.looked in
    let settled = c.settle.ensures.after in
    record {
      galley = refl;
      job = refl;
      terms = settled.terms;
      pages = settled.pages;
      fits = looked.fits;
      owes = settled-owed i.ledger c.settle.new.self u c.look-word.result settled;
      holds = λ right on. done-holds g.M.Matcher i.matcher c.look-word.new.matcher text i.ledger u c.look-word.result right on (option_map term_of c.term-standing.result) row looked;
      sound = settled-right (fit i.matcher) (fit c.look-word.new.matcher) text i.ledger c.settle.new.self u c.look-word.result looked.fits settled
          (λ t stands. looked.word t (row ∙ stands));
    }

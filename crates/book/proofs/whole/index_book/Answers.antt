use Rattle.std.proofs.Common.{lit≤}
use Rattle.book.proofs.Opening.{indexed}
use Rattle.book.proofs.whole.index_book.Goals as goal

pub returns : goal.returns
returns g c = record {
  indexed =
      indexed g.M.Matcher g.G.Galley c.args.indexer.now c.open_pages.new.indexer c.enter_sheet.new.indexer c.run.new.self
      c.args.starts.now c.args.sheet.now _ _ (lit≤ tt) c.open_pages.ensures.opened c.in_ok-enter_sheet.ensures.entered c.run.ensures.called;
}

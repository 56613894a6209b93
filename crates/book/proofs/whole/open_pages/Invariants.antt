use Rattle.std.proofs.Common.{drop}
use Rattle.book.proofs.Opening.{Going}
use Rattle.book.proofs.whole.open_pages.Given as goal

abbrev pub invariant-loop-at : goal.invariant-loop-at
invariant-loop-at g l = Going g.M.Matcher g.G.Galley l.initial.indexer l.starts l.indexer (drop l.at-index l.starts)

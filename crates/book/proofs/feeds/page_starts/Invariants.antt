use Rattle.std.proofs.Common.{◌≡◌, ◌++◌, drop, vec_items}
use Rattle.book.specs.Pages.{behind_feeds}
use Rattle.book.proofs.feeds.page_starts.Given as goal

abbrev pub invariant-loop-at : goal.invariant-loop-at
invariant-loop-at l = vec_items l.starts ++ behind_feeds l.at (drop l.at l.text) ≡ behind_feeds 0 l.text

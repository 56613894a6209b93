use Rattle.std.proofs.Common.{◌<◌, ◌≤◌, length, get_or}
use Rattle.ledger.proofs.page_table.Pages.number_of.Given as goal

-- the pages from `behind` on begin behind the start
abbrev pub invariant-loop-from : goal.invariant-loop-from
invariant-loop-from l = (l.from < l.behind) × (l.behind ≤ length l.starts) × (l.behind < length l.starts → l.start < get_or l.starts l.behind 0)

abbrev pub decreases-loop-from : goal.decreases-loop-from
decreases-loop-from l = l.from

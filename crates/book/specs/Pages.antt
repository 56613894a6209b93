-- Where the pages of a text begin. Assumes nothing.
use Rattle.std.specs.Prelude.{ℕ, ◌+◌, cond, List, [], ◌∷◌, ◌==◌}

-- the places behind the form feeds (byte 12) of bytes that begin at the place `at`, in their order
unfoldable pub behind_feeds : ℕ → List ℕ → List ℕ
behind_feeds at [] = []
behind_feeds at (b ∷ bs) = cond (b == 12) ((at + 1) ∷ behind_feeds (at + 1) bs) (behind_feeds (at + 1) bs)

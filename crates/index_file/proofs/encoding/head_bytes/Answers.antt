use Rattle.std.proofs.Common.{◌≡◌, ℕ, List, [], ◌∷◌, slice_index, ◌∙◌}
use Rattle.index_file.specs.Records.{encoded, two, four}
use Rattle.index_file.specs.Records.Record.{head}
use Rattle.index_file.proofs.Numbers.{le_bytes-two, le_bytes-four}
use Rattle.index_file.proofs.encoding.head_bytes.Goals as goal

head-is : (n owed terms : ℕ) (a b c : List ℕ) (k : ℕ) → a ≡ four n → b ≡ two owed → c ≡ two terms → k ≡ 1 →
    8 ∷ 0 ∷ k ∷ 0 ∷ slice_index a 0 ∷ slice_index a 1 ∷ slice_index a 2 ∷ slice_index a 3 ∷ slice_index b 0 ∷ slice_index b 1 ∷ slice_index c 0 ∷ slice_index c 1 ∷ [] ≡ encoded (head n owed terms)
head-is n owed terms a b c k ea eb ec ek = rw (ea, eb, ec, ek)

pub returns : goal.returns
returns c =
    let g = c.args.given in
    record {
      value = head-is g.n g.owed g.terms _ _ _ _ (c.to_le_bytes.ensures ∙ le_bytes-four g.n) (c.to_le_bytes-2.ensures ∙ le_bytes-two g.owed) (c.to_le_bytes-3.ensures ∙ le_bytes-two g.terms) c.into.ensures;
    }

use Rattle.std.proofs.Common.{◌≡◌, ◌+◌, ◌≤◌, length, take, drop, sym, ap, ◌∙◌, rules, arith}
use Rattle.std.proofs.lemmas.Bool.Decides.{same_from_decides, Decides-like, Decides-eqb}
use Rattle.std.proofs.lemmas.Slice.Eq.{slice_eq-Decides}
use Rattle.rules.specs.Terms.{occurs}
use Rattle.rules.proofs.Occurs.{occurs-past, own-occurs}
use Rattle.indexer.proofs.Seen.{fetched-if-ok, fetched-if-not}
use Rattle.indexer.proofs.variants.stands_at.Goals as goal

pub returns-else-is_ok : goal.returns-else-is_ok
returns-else-is_ok g c =
    let past = fetched-if-not (g.G.Galley.text c.args.galley.now) c.args.start c.args.buffer.now _ _ c.fetch.ensures.fetched (search rules) in
    record { value = c.if-is_ok.false ∙ sym (occurs-past (record { bytes = c.args.bytes.now; limit = 0 }) (g.G.Galley.text c.args.galley.now) c.args.start (omega arith)) }

pub returns-then-is_ok : goal.returns-then-is_ok
returns-then-is_ok g c =
    let text = g.G.Galley.text c.args.galley.now in
    let bytes = c.args.bytes.now in
    let s = c.args.start in
    let f = fetched-if-ok text s c.args.buffer.now _ _ c.fetch.ensures.fetched (search rules) in
    let fits : s + length bytes ≤ length text = omega (arith, f.0) in
    let read : c.fetch.new.buffer ≡ take (length bytes) (drop s text) = f.1 ∙ ap (λ l. take l (drop s text)) (omega arith) in
    let same = slice_eq-Decides Decides-eqb _ _ _ c.eq.ensures in
    record {
      value = same_from_decides c.eq.result (occurs (record { bytes = bytes; limit = 0 }) text s)
          (Decides-like c.eq.result (λ e. sym read ∙ e) (λ e. read ∙ e) same) (own-occurs bytes text s fits);
    }

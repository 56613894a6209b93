use Rattle.std.proofs.Common.{◌≡◌, ℕ, ◌+◌, ◌-◌, ◌*◌, ◌<◌, ◌≤◌, min, ◌⊎◌, length, true, is_ok, Some, ap, ◌∙◌, inl, inr, ⊎_elim, rules, arith, length-take}
use Rattle.std.specs.Option.{option_map}
use Rattle.std.proofs.lemmas.Bool.{cases_lt}
use Rattle.rules.specs.Held.{term_of}
use Rattle.rules.specs.Terms.{Term}
use Rattle.indexer.proofs.Seen.{sought-word, part_length, some_same}
use Rattle.indexer.proofs.look.look.Goals as goal

pub returns : goal.returns
returns g c =
    let text = g.G.Galley.text c.args.galley.now in
    let h = c.in_ok-term.term in
    let o = option_map term_of c.args.standing in
    let row : o ≡ Some (term_of h) = ap (option_map term_of) c.in_ok-term.was in
    let bytes = c.bytes-bytes.ensures.value in
    let limit = c.limit.ensures.value in
    let accepted : is_ok c.prepare.result ≡ true = search rules in
    let prepared = c.prepare.ensures.prepared.holds accepted in
    let own : g.M.Matcher.held c.prepare.new.self ≡ Some (term_of h) = cc in
    let holds : (t : Term) → o ≡ Some t → g.M.Matcher.held c.prepare.new.self ≡ Some t = λ t e. own ∙ ap Some (some_same (term_of h) t o row e) in
    record {
      looked = record {
        fits = c.prepare.ensures.prepared.fits;
        holds = λ t e fit start. holds t e;
        word = λ t e fit start.
            let len = c.min-len.result in
            let at : ℕ = 64 * c.args.block in
            let m : length c.bytes-bytes.result.now ≡ length t.bytes = ap length (bytes ∙ ap (λ (x : Term). x.bytes) (some_same (term_of h) t o row e)) in
            let few : length c.bytes-bytes.result.now ≤ 64 = omega (arith, ap length bytes, length-take h.len h.bytes, h.short) in
            let n : c.length-n.result ≡ length text = c.length-n.ensures.value in
            let is : len ≡ min (63 + length c.bytes-bytes.result.now) (c.length-n.result - at) = c.min-len.ensures in
            let long : (63 + length t.bytes ≤ len) ⊎ (at + len ≡ length text) =
            ⊎_elim (λ (l : 63 + length t.bytes < length text - at). inl (omega arith)) (λ (l : length text - at ≤ 63 + length t.bytes). inr (omega arith)) (cases_lt (63 + length t.bytes) (length text - at)) in
            sought-word _ c.seek.result text t at len _ c.seek.ensures.sought (part_length len _ (omega arith)) (holds t e) (omega arith) (omega arith) long;
      };
    }

use Rattle.std.proofs.Common.{◌≡◌, ◌+◌, true, false, length, get_or, sym, ap, ◌∙◌, arith}
use Rattle.std.proofs.lemmas.Bool.{and_from, and_right}
use Rattle.rules.specs.Held.{term_of}
use Rattle.rules.specs.Terms.{front, byte_matches}
use Rattle.rules.proofs.Occurs.{front-none, front-more, front-fails}
use Rattle.matchers.proofs.comparer.matches_at.Goals as goal

pub loop-i-init : goal.loop-i-init
loop-i-init c = front-none _ _ _

pub loop-i-preserved : goal.loop-i-preserved
loop-i-preserved c =
    let t = term_of c.args.term.now in
    let text = c.args.stretch.now in
    let s = c.args.s in
    let i = c.loop-i.i in
    let b = c.bytes-bytes.ensures.value in
    let k = c.limit-limit.ensures.value in
    let v = c.if-not-byte_matches.ensures.value in
    let same : byte_matches t i (get_or text (s + i) 0) ≡ true = cc in
    front-more t text s i ∙ and_from (front t text s i) _ c.loop-i.invariant same

pub returns-then-not-byte_matches : goal.returns-then-not-byte_matches
returns-then-not-byte_matches c =
    let t = term_of c.args.term.now in
    let text = c.args.stretch.now in
    let s = c.args.s in
    let i = c.loop-i.i in
    let b = c.bytes-bytes.ensures.value in
    let k = c.limit-limit.ensures.value in
    let v = c.if-not-byte_matches.ensures.value in
    let other : byte_matches t i (get_or text (s + i) 0) ≡ false = cc in
    let m : length c.bytes-bytes.result.now ≡ length t.bytes = ap length b in
    sym (front-fails t text s (i + 1) (length t.bytes) (omega arith) (front-more t text s i ∙ and_right (front t text s i) _ other))

pub returns : goal.returns
returns c =
    let t = term_of c.args.term.now in
    let m : length c.bytes-bytes.result.now ≡ length t.bytes = ap length c.bytes-bytes.ensures.value in
    let all : c.loop-i.i ≡ length t.bytes = omega arith in
    sym (ap (λ n. front t c.args.stretch.now c.args.s n) (sym all) ∙ c.loop-i.invariant)

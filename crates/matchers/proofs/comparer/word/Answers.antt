use Rattle.std.proofs.Common.{◌≡◌, ◌+◌, ◌*◌, ◌%◌, ◌^◌, ◌≤◌, true, false, leb, length, sym, ap, ◌∙◌, arith}
use lib.Bits.{bit_or}
use Rattle.std.proofs.lemmas.Bool.{lt-ltb, le-ltb, leb-true, leb-false}
use Rattle.rules.specs.Held.{term_of}
use Rattle.rules.specs.Terms.{occurs}
use Rattle.rules.proofs.Occurs.{occurs-within, occurs-past}
use Rattle.matchers.proofs.Marking.{marked-none, marked_more, marked_other, marked_all}
use Rattle.matchers.proofs.comparer.word.Goals as goal
use Rattle.matchers.proofs.comparer.word.Goals.{then-matches_at, else-matches_at}

pub loop-s-init : goal.loop-s-init
loop-s-init c = marked-none (occurs (term_of c.args.term.now) c.args.stretch.now)

pub matches_at-requires : goal.matches_at-requires
matches_at-requires c =
    let t = term_of c.args.term.now in
    let m : length c.bytes.result.now ≡ length t.bytes = ap length c.bytes.ensures.value in
    let s = c.loop-s.s in
    let ends : leb (s + length c.bytes.result.now) (length c.args.stretch.now) ≡ true = sym (c.starts-s-end.ensures.within s (omega arith)) ∙ lt-ltb s c.starts-s-end.result c.loop-s-test.true in
    omega (arith, leb-true _ _ ends)

pub loop-s-preserved : goal.loop-s-preserved
loop-s-preserved c =
    let t = term_of c.args.term.now in
    let text = c.args.stretch.now in
    let s = c.loop-s.s in
    let m : length c.bytes.result.now ≡ length t.bytes = ap length c.bytes.ensures.value in
    let ends : leb (s + length c.bytes.result.now) (length text) ≡ true = sym (c.starts-s-end.ensures.within s (omega arith)) ∙ lt-ltb s c.starts-s-end.result c.loop-s-test.true in
    let fit : s + length t.bytes ≤ length text = omega (arith, leb-true _ _ ends) in
    let here : c.matches_at.result ≡ occurs t text s = c.matches_at.ensures ∙ sym (occurs-within t text s fit) in
    elim c.if-matches_at.branch [
      | then-matches_at w ↦ w.word-is ∙ ap (λ x. bit_or x (1 * 2 ^ s % 2 ^ 64)) c.loop-s.invariant ∙ marked_more (occurs t text) s (omega arith) (sym here ∙ w.if-matches_at.true)
      | else-matches_at w ↦ w.word-is ∙ c.loop-s.invariant ∙ marked_other (occurs t text) s (sym here ∙ w.if-matches_at.false)
    ]

pub returns : goal.returns
returns c =
    let t = term_of c.args.term.now in
    let text = c.args.stretch.now in
    let n = c.loop-s.s in
    let m : length c.bytes.result.now ≡ length t.bytes = ap length c.bytes.ensures.value in
    c.loop-s.invariant ∙ marked_all (occurs t text) n (λ s below past.
    let out : leb (s + length c.bytes.result.now) (length text) ≡ false = sym (c.starts-s-end.ensures.within s below) ∙ le-ltb s c.starts-s-end.result (omega arith) in
    occurs-past t text s (omega (arith, leb-false _ _ out)))

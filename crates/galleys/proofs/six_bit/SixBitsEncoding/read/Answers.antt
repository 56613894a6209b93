use Rattle.std.proofs.Common.{◌≡◌, ℕ, ◌+◌, length, get_or, set, ap, ◌∙◌, arith}
use Rattle.std.proofs.lemmas.List.Edits.{fill_by_more}
use Rattle.galleys.specs.Packing.{code_at, code_text, six_length}
use Rattle.galleys.proofs.Codes.{length-text, text-filled, text-part}
use Rattle.galleys.proofs.six_bit.SixBitsEncoding.read.Goals as goal

pub overflow_add-at : goal.overflow_add-at
overflow_add-at c =
    let whole = length-text c.args.buffer.now 0 (six_length c.args.buffer.now) in
    let n : length c.loop-i.part ≡ length c.args.part.now = omega arith in
    omega (arith, c.requires)

pub code_at-requires : goal.code_at-requires
code_at-requires c =
    let whole = length-text c.args.buffer.now 0 (six_length c.args.buffer.now) in
    let n : length c.loop-i.part ≡ length c.args.part.now = omega arith in
    omega (arith, c.requires)

pub loop-i-preserved : goal.loop-i-preserved
loop-i-preserved c =
    let f : ℕ → ℕ = λ k. 32 + code_at c.args.buffer.now (c.args.at + k) in
    let x : 32 + c.code_at.result.value ≡ f c.loop-i.i = ap (λ v. 32 + v) c.code_at.ensures.value in
    λ k l.
    ap (λ v. get_or (set c.loop-i.part c.loop-i.i v) k 0) x
    ∙ fill_by_more f c.loop-i.part c.loop-i.i 0 (omega arith) c.loop-i.invariant k l

pub returns : goal.returns
returns c =
    let buffer = c.args.buffer.now in
    let l = length c.args.part.now in
    let whole = length-text buffer 0 (six_length buffer) in
    let n : length c.loop-i.part ≡ l = omega arith in
    record {
      filled = text-filled buffer c.args.at c.loop-i.part (λ k below. c.loop-i.invariant k (omega arith)) ∙ ap (code_text buffer c.args.at) n
          ∙ text-part buffer c.args.at l (six_length buffer) (omega (arith, c.requires));
    }

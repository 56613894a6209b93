use Rattle.std.proofs.Common.{◌≡◌, ℕ, ◌/◌, ◌%◌, ◌<◌, List, get_or, ap, ◌∙◌, subst, arith}
use Rattle.std.specs.Int.{to_be_bytes, w32}
use Rattle.galleys.specs.Packing.{group, recoded_group}
use Rattle.galleys.proofs.Codes.{recoded-written}
use Rattle.galleys.proofs.packing.recode.Goals as goal

pub returns : goal.returns
returns c =
    let old = c.args.buffer.now in
    let at = c.args.at in
    let is : c.of.result.bits ≡ group old (at / 4) = c.of.ensures.value in
    let v : c.recoded-group.result.bits ≡ recoded_group (group old (at / 4)) (at % 4) c.args.code.value = c.recoded-group.ensures.value ∙ ap (λ x. recoded_group x (at % 4) c.args.code.value) is in
    let new = c.recoded-group.result.bits in
    let byte : (i : ℕ) → get_or c.to_be_bytes.result i 0 ≡ get_or (to_be_bytes w32 new) i 0 = λ i. ap (λ (xs : List ℕ). get_or xs i 0) c.to_be_bytes.ensures in
    let high : get_or c.to_be_bytes.result 1 0 ≡ new / 65536 = byte 1 ∙ omega (arith, c.recoded-group.result.three) in
    let middle : get_or c.to_be_bytes.result 2 0 ≡ new / 256 % 256 = byte 2 ∙ omega arith in
    let low : get_or c.to_be_bytes.result 3 0 ≡ new % 256 = byte 3 ∙ omega arith in
    record { recoded = rw (high, middle, low) (recoded-written old at c.args.code.value new c.requires c.args.code.six (subst (λ (x : ℕ). x < 16777216) is c.of.result.three) v) }

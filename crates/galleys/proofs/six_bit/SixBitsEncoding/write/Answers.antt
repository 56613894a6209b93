use Rattle.std.proofs.Common.{◌≡◌, ℕ, ◌+◌, ◌-◌, set, ap, ◌∙◌, subst, arith}
use Rattle.galleys.specs.Packing.{six_length, Recoded}
use Rattle.galleys.specs.SixBit.{six_text, six_shown}
use Rattle.galleys.proofs.Codes.{length-text, shown-coded, text-recoded}
use Rattle.galleys.proofs.six_bit.SixBitsEncoding.write.Goals as goal

pub recode-requires : goal.recode-requires
recode-requires c = let n = length-text c.args.buffer.now 0 (six_length c.args.buffer.now) in omega (arith, c.requires)

pub returns-clause-text : goal.returns-clause-text
returns-clause-text c =
    let buffer = c.args.buffer.now in
    let at = c.args.at in
    let code = six_shown c.args.b - 32 in
    let n = length-text buffer 0 (six_length buffer) in
    let coded : Recoded buffer at code c.recode.new.buffer = subst (λ (x : ℕ). Recoded buffer at (x - 32) c.recode.new.buffer) c.show.ensures.value c.recode.ensures.recoded in
    let back : 32 + code ≡ six_shown c.args.b = omega (arith, (shown-coded c.args.b).0) in
    text-recoded buffer c.recode.new.buffer at code (omega (arith, c.requires)) coded ∙ ap (set (six_text buffer) at) back

use Rattle.std.proofs.Common.{arith}
use Rattle.std.proofs.lemmas.Bool.Decides.{nat_tests}
use Rattle.layers.specs.Pasted.{paste_list}
use Rattle.layers.proofs.Overlays.{full-none, full-room}
use Rattle.layers.proofs.pastes.Pastes.is_full.Goals as goal

pub returns-then-full : goal.returns-then-full
returns-then-full c = record { value = full-none (paste_list c.args.self.now) c.args.at c.find.result c.is_none.result (omega arith) c.find.ensures.value c.is_none.ensures }

pub returns-else-full : goal.returns-else-full
returns-else-full c =
    let room = full-room (paste_list c.args.self.now) c.args.at (omega arith) (λ e. omega (arith, e)) in
    record { value = grind (arith, nat_tests) }

use Rattle.std.proofs.Common.{arith, sym, ap, ◌∙◌, set, length-set, lit<}
use Rattle.arrayvec.specs.ArrayVec.{with_items}
use Rattle.arrayvec.proofs.ArrayVecLemmas.{items-with_items}
use Rattle.layers.specs.declared.paste.Paste.{Paste}
use Rattle.layers.specs.Pasted.{paste_list}
use Rattle.layers.proofs.Overlays.{found, found-none, roomy, paste-found, paste-added}
use Rattle.layers.proofs.pastes.Pastes.paste.Goals as goal

pub push-requires : goal.push-requires
push-requires c = (lit< tt, roomy (paste_list c.args.self.now) c.args.at c.args.self.now.few c.requires c.in-None.ensures.value)

pub returns-in-Some : goal.returns-in-Some
returns-in-Some c =
    let v = c.args.self.now.list in
    let ps = paste_list c.args.self.now in
    let f = found ps c.args.at c.in-Some.i c.in-Some.ensures.value in
    let one : Paste = record { at = c.args.at; byte = c.args.byte } in
    record {
      after = ap (λ xs. (with_items v (set xs c.in-Some.i one)).items) c.deref_mut.ensures.value
          ∙ items-with_items v (set ps c.in-Some.i one) (length-set ps c.in-Some.i one) ∙ ap (λ k. set ps k one) f.0
          ∙ sym (paste-found ps c.args.at c.args.byte (omega arith));
    }

pub returns-in-None : goal.returns-in-None
returns-in-None c = record { after = c.push.ensures.items ∙ sym (paste-added (paste_list c.args.self.now) c.args.at c.args.byte (found-none (paste_list c.args.self.now) c.args.at c.in-None.ensures.value)) }

pub invariant_of-self-in-None : goal.invariant_of-self-in-None
invariant_of-self-in-None c =
    let room = roomy (paste_list c.args.self.now) c.args.at c.args.self.now.few c.requires c.in-None.ensures.value in
    record { few = omega (arith, c.push.ensures.len) }

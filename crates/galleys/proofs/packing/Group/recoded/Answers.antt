use Rattle.std.proofs.Common.{ℕ, ◌<◌, sym, subst, rules}
use Rattle.galleys.proofs.Codes.{shifts, recoded-below}
use Rattle.galleys.proofs.packing.Group.recoded.Goals as goal

pub overflow_add-result : goal.overflow_add-result
overflow_add-result c = let fits = (shifts c.args.self.bits c.args.code.value c.args.self.three c.args.code.six c.args.r c.requires).1 in search rules

pub invariant_of-result : goal.invariant_of-result
invariant_of-result c = record {
  three = subst (λ (x : ℕ). x < 16777216) (sym (shifts c.args.self.bits c.args.code.value c.args.self.three c.args.code.six c.args.r c.requires).2)
      (recoded-below c.args.self.bits c.args.code.value c.args.self.three c.args.code.six c.args.r c.requires);
}

pub returns : goal.returns
returns c = record { value = (shifts c.args.self.bits c.args.code.value c.args.self.three c.args.code.six c.args.r c.requires).2 }

use Rattle.std.proofs.Common.{◌≡◌, ℕ, ◌*◌, ◌%◌, ◌^◌, Bool, true, false, eqb, List, length, get_or, sym, ap, ◌∙◌, arith, length-set}
use lib.Bits.{bit_or}
use Rattle.std.proofs.lemmas.List.{set-get_or}
use Rattle.std.proofs.lemmas.Bool.{eq-eqb, ne_eqb}
use Rattle.rules.specs.Terms.{folded}
use Rattle.matchers.proofs.Filling.{fill-hit, fill-miss}
use Rattle.shifts.proofs.tables.set_folded.Goals as goal
use Rattle.shifts.proofs.tables.set_folded.Goals.{then-fold-sought, else-fold-sought}

pub loop-b-preserved : goal.loop-b-preserved
loop-b-preserved c =
    let p = c.args.p in
    let b = c.loop-b.b in
    let table = c.loop-b.table in
    let start = c.args.table.now in
    let hit : ℕ → Bool = λ x. eqb (folded x) (folded p) in
    let F : ℕ → ℕ = λ x. bit_or x (1 * 2 ^ c.args.i % 2 ^ 32) in
    let mine = c.fold.ensures.value in
    let other = c.fold-sought.ensures.value in
    elim c.if-fold-sought.branch [
      | then-fold-sought w ↦
          let yes : eqb (folded b) (folded p) ≡ true = eq-eqb (folded b) (folded p) (sym mine ∙ w.if-fold-sought.true ∙ other) in
          (ap length w.table-is ∙ length-set table b _ ∙ c.loop-b.invariant.0, λ k l. ap (λ (xs : List ℕ). get_or xs k 0) w.table-is ∙ fill-hit start table hit F b c.loop-b.invariant.1 (omega arith) (omega arith) yes k l)
      | else-fold-sought w ↦
          let no : eqb (folded b) (folded p) ≡ false = ne_eqb (folded b) (folded p) (λ e. w.if-fold-sought.false (mine ∙ e ∙ sym other)) in
          (ap length (w.table-is ∙ set-get_or table b 0) ∙ c.loop-b.invariant.0, λ k l. ap (λ (xs : List ℕ). get_or xs k 0) (w.table-is ∙ set-get_or table b 0) ∙ fill-miss start table hit F b c.loop-b.invariant.1 no k l)
    ]

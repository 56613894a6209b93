use Rattle.std.proofs.Common.{◌≡◌, ℕ, ◌+◌, ◌*◌, ◌%◌, ◌^◌, ◌<◌, Bool, cond, ◌&&◌, ltb, List, length, get_or, sym, refl, ap, ◌∙◌, subst, arith, length-set, rules}
use lib.Bits.{bit_or}
use Rattle.rules.specs.Terms.{Term}
use Rattle.rules.specs.Words.{word_of}
use Rattle.rules.specs.Held.{term_of}
use Rattle.matchers.specs.Places.{Rows, and_row, hits}
use Rattle.matchers.proofs.Forward.{set_same}
use Rattle.matchers.proofs.Filling.{set-none, set-marks, set_all, rows_more, rows-more-exact, hits-folded}
use Rattle.shifts.proofs.tables.set_table.Goals as goal
use Rattle.shifts.proofs.tables.set_table.Goals.{then-i-limit, else-i-limit}

same-term : {a b : List ℕ} {k l : ℕ} → a ≡ b → k ≡ l → ◌≡◌ {A = Term} (record { bytes = a; limit = k }) (record { bytes = b; limit = l })
same-term e f = cc

pub loop-i-init : goal.loop-i-init
loop-i-init c = (refl, set-none (record { bytes = c.bytes-bytes.result.now; limit = c.limit-limit.result }))

pub loop-i-preserved : goal.loop-i-preserved
loop-i-preserved c =
    let term = c.bytes-bytes.result.now in
    let t : Term = record { bytes = term; limit = c.limit-limit.result } in
    let i = c.loop-i.i in
    let table = c.loop-i.table in
    let V : (ℕ → Bool) → ℕ = λ p. word_of p 32 in
    let mark : ℕ → ℕ = λ x. bit_or x (1 * 2 ^ i % 2 ^ 32) in
    let size = ap length c.bytes-bytes.ensures.value in
    let few : i < 32 = omega (arith, c.requires) in
    elim c.if-i-limit.branch [
      | then-i-limit w ↦
          let more = w.set_folded.new.table in (
            ap length w.table-is ∙ w.set_folded.array_long,
            subst (λ (xs : List ℕ). Rows xs (λ b. word_of (λ j. ltb j (i + 1) && hits t j b) 32)) (sym w.table-is)
                (rows_more V (set_same 32) mark t i (set-marks i few) table more
                (λ b l. w.set_folded.ensures.rows b l ∙ ap (λ h. cond h (mark (get_or table b 0)) (get_or table b 0)) (sym (hits-folded t i b (omega arith) w.if-i-limit.true)))
                c.loop-i.invariant.1),
          )
      | else-i-limit w ↦ (
        ap length w.table-is ∙ length-set table (get_or term i 0) _ ∙ c.loop-i.invariant.0,
        subst (λ (xs : List ℕ). Rows xs (λ b. word_of (λ j. ltb j (i + 1) && hits t j b) 32)) (sym w.table-is)
            (rows-more-exact V (set_same 32) mark t i (set-marks i few) table c.loop-i.invariant.0 (omega arith) w.if-i-limit.false (search rules) c.loop-i.invariant.1),
      )
    ]

pub returns : goal.returns
returns c =
    let t : Term = record { bytes = c.bytes-bytes.result.now; limit = c.limit-limit.result } in
    let same : t ≡ term_of c.args.term.now = same-term c.bytes-bytes.ensures.value c.limit-limit.ensures.value in
    record { rows = subst (λ (x : Term). Rows c.loop-i.table (and_row x)) same (set_all t c.loop-i.i c.loop-i.table (omega arith) c.loop-i.invariant.1) }

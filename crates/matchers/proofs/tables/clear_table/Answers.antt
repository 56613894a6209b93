use Rattle.std.proofs.Common.{ℕ, ◌+◌, ◌-◌, ◌*◌, ◌%◌, ◌^◌, min, List, length, get_or, refl, ap, ◌≤◌, ◌∙◌, subst, arith, length-set, rules}
use lib.Bits.{bit_and}
use Rattle.rules.specs.Terms.{Term}
use Rattle.rules.proofs.Helds.{held-length}
use Rattle.matchers.specs.Places.{Rows, clear_row}
use Rattle.matchers.proofs.Filling.{clear_view, clear_view-same, clear_view-marks, clear_none, clear-all, rows-more-exact}
use Rattle.matchers.proofs.tables.clear_table.Goals as goal

pub loop-i-init : goal.loop-i-init
loop-i-init c = (refl, clear_none (record { bytes = c.bytes-bytes.result.now; limit = 0 }) c.min-first.result)

pub loop-i-preserved : goal.loop-i-preserved
loop-i-preserved c =
    let bytes = c.bytes-bytes.result.now in
    let i = c.loop-i.i in
    let d = c.min-first.result in
    let t : Term = record { bytes = bytes; limit = 0 } in
    let long = held-length c.args.term.now in
    let room : length bytes ≤ 64 = omega (arith, ap length c.bytes-bytes.ensures.value, c.args.term.now.short) in (
      length-set c.loop-i.table (get_or bytes i 0) _ ∙ c.loop-i.invariant.0,
      rows-more-exact (clear_view d) (clear_view-same d) (λ x. bit_and x ((2 ^ 64 - 1) - 1 * 2 ^ (d + i) % 2 ^ 64)) t i (clear_view-marks d i (omega arith))
          c.loop-i.table c.loop-i.invariant.0 (omega arith) (omega arith) (search rules) c.loop-i.invariant.1,
    )

pub returns : goal.returns
returns c =
    let filled = clear-all (record { bytes = c.bytes-bytes.result.now; limit = 0 }) c.min-first.result c.loop-i.i c.loop-i.table (omega arith) c.loop-i.invariant.1 in
    record {
      rows =
          subst (λ (bytes : List ℕ). Rows c.loop-i.table (clear_row (record { bytes = bytes; limit = 0 }) (min c.args.lowest (64 - length bytes)))) c.bytes-bytes.ensures.value
          (subst (λ (d : ℕ). Rows c.loop-i.table (clear_row (record { bytes = c.bytes-bytes.result.now; limit = 0 }) d)) c.min-first.ensures filled);
    }

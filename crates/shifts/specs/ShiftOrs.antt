-- Why the rule of Shift-Or finds its term. Assumes nothing.
use Rattle.std.specs.Prelude.{◌≡◌, ℕ, ◌-◌, ◌/◌, ◌^◌, ◌≤◌, true, List, length, bit_and, ◌==◌}
use Rattle.std.proofs.Common.{refl, arith}
use Rattle.std.proofs.lemmas.Bool.{leb-true, eqb-true, and_parts}
use Rattle.rules.specs.Terms.{Term}
use Rattle.matchers.specs.Matchers.{Fitting, exact_fits}
use Rattle.matchers.specs.Places.{ends_at, or_state}
use Rattle.matchers.proofs.Forward.{or-ends}

pub exact-fitting : (m k : ℕ) → exact_fits m k ≡ true → Fitting m k
exact-fitting m k h =
    let some = and_parts _ _ h in
    let few = and_parts _ _ some.1 in
    let limit = eqb-true k 0 few.1 in
    let one = leb-true 1 m some.0 in
    record { some = one; short = leb-true m 64 few.0; limit = omega arith }

pub or-forward : (t : Term) (text : List ℕ) (n : ℕ) → exact_fits (length t.bytes) t.limit ≡ true → n ≤ length text →
    (bit_and (or_state t text n / 2 ^ (length t.bytes - 1)) 1 == 0) ≡ ends_at t text (length t.bytes) n
or-forward t text n h within =
    let fit = exact-fitting (length t.bytes) t.limit h in
    or-ends t text n (length t.bytes) refl fit.some within fit.short

-- What a Shift-And matcher takes, and why its rule finds the term. Assumes nothing.
use Rattle.std.specs.Prelude.{◌≡◌, ℕ, ◌-◌, ◌/◌, ◌^◌, ◌≤◌, Bool, true, ◌&&◌, List, length, bit_and, ◌==◌, nat_le, nat_lt}
use Rattle.std.proofs.Common.{refl, arith}
use Rattle.std.proofs.lemmas.Bool.{leb-true, ltb-true, and_parts}
use Rattle.rules.specs.Terms.{Term}
use Rattle.matchers.specs.Matchers.{Fitting}
use Rattle.matchers.specs.Places.{ends_at, and_state}
use Rattle.matchers.proofs.Forward.{and-ends}

-- terms of 1 to 32 bytes, with any limit below their length
abbrev pub short_fits : ℕ → ℕ → Bool
short_fits m k = nat_le 1 m && (nat_le m 32 && nat_lt k m)

pub short-length : (m k : ℕ) → short_fits m k ≡ true → m ≤ 32
short-length m k h = leb-true m 32 (and_parts _ _ (and_parts _ _ h).1).0

pub short-fitting : (m k : ℕ) → short_fits m k ≡ true → Fitting m k
short-fitting m k h =
    let some = and_parts _ _ h in
    let few = short-length m k h in
    record { some = leb-true 1 m some.0; short = omega arith; limit = ltb-true k m (and_parts _ _ some.1).1 }

pub and-forward : (t : Term) (text : List ℕ) (n : ℕ) → short_fits (length t.bytes) t.limit ≡ true → n ≤ length text →
    (bit_and (and_state t text n / 2 ^ (length t.bytes - 1)) 1 == 1) ≡ ends_at t text (length t.bytes) n
and-forward t text n h within =
    let fit = short-fitting (length t.bytes) t.limit h in
    and-ends t text n (length t.bytes) refl fit.some within (short-length (length t.bytes) t.limit h)

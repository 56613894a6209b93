use Rattle.std.proofs.Common.{◌≡◌, ℕ, ◌+◌, ◌<◌, get_or}
use Rattle.galleys.specs.Packing.{code_at}
use Rattle.galleys.proofs.six_bit.SixBitsEncoding.read.Given as goal

abbrev pub invariant-loop-i : goal.invariant-loop-i
invariant-loop-i l = (k : ℕ) → k < l.i → get_or l.part k 0 ≡ 32 + code_at l.buffer (l.at + k)

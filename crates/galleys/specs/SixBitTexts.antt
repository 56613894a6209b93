-- The law of texts for the six-bit galley. Assumes nothing.
use Rattle.std.specs.Prelude.{◌≡◌, ℕ, ◌+◌, ◌/◌, ◌%◌, ◌<◌, true, List, nat_le}
use Rattle.std.proofs.Common.{sym, ap, ◌∙◌, arith}
use Rattle.std.proofs.lemmas.List.FromFn.{length-map-range_with_len, get_or-map-range_with_len}
use Rattle.std.proofs.lemmas.Bool.{le-leb, and_from, cond-true}
use Rattle.galleys.specs.Galleys.{Text}
use Rattle.galleys.specs.SixBit.{six_shown}
use Rattle.galleys.specs.Packing.{group, code_in, code_at, six_length, code_text}

pub code_below : (v r : ℕ) → code_in v r < 64
unfolding code_in
code_below v r = omega arith

-- a text is short, and each character shows as itself
pub six-texts : (buffer : List ℕ) → Text six_shown (code_text buffer 0 (six_length buffer))
six-texts buffer =
    let f : ℕ → ℕ = λ p. 32 + code_at buffer p in
    let n = length-map-range_with_len f 0 (six_length buffer) in
    record {
      short = omega arith;
      shown = λ p l.
          let is = get_or-map-range_with_len f 0 (six_length buffer) p p 0 (omega arith) (omega arith) in
          let low = code_below (group buffer (p / 4)) (p % 4) in
          ap six_shown is ∙ shown-code (code_at buffer p) low ∙ sym is;
    }
  where
    shown-code : (c : ℕ) → c < 64 → six_shown (32 + c) ≡ 32 + c
    shown-code c l =
        let low : nat_le 32 (32 + c) ≡ true = le-leb 32 (32 + c) (omega arith) in
        let high : nat_le (32 + c) 95 ≡ true = le-leb (32 + c) 95 (omega arith) in
        cond-true _ _ _ (and_from (nat_le 32 (32 + c)) (nat_le (32 + c) 95) low high)

-- The laws of a folded galley, by those of what is below. Assumes nothing.
use Rattle.std.specs.Prelude.{ℕ, ◌<◌, List, length, slice_index}
use Rattle.std.proofs.Common.{sym, ap, ◌∙◌, arith}
use Rattle.std.proofs.lemmas.List.{get_or-map, length-map}
use Rattle.rules.specs.Terms.{folded}
use Rattle.galleys.specs.Galleys.{Showing, Text}
use Rattle.layers.specs.Folded.{folded_text, folded_shown}

pub folded-showing : (shows : ℕ → ℕ) → Showing shows → Showing (folded_shown shows)
folded-showing shows s = record {
  again = λ b. s.fold (shows b) ∙ ap folded (s.again b);
  fold = λ b. ap folded (s.fold b);
}

pub folded-text : (shows : ℕ → ℕ) (text : List ℕ) → Showing shows → Text shows text → Text (folded_shown shows) (folded_text text)
folded-text shows text s t =
    let n = length-map text folded in
    record {
      short = omega (arith, t.short);
      shown = λ p l.
          let below : p < length text = omega arith in
          let at = get_or-map folded text p 0 0 below in
          ap (λ x. folded (shows x)) at ∙ s.fold (slice_index text p) ∙ ap folded (t.shown p below) ∙ sym at;
    }

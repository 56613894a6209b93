-- The laws of a paste-up, by those of what is below. Assumes nothing.
use Rattle.std.specs.Prelude.{◌≡◌, ℕ, ◌<◌, List, [], ◌∷◌, length, get_or, slice_index, slice_set, refl}
use Rattle.std.proofs.Common.{sym, ap, ◌∙◌, ⊎_elim, arith, length-set}
use Rattle.std.proofs.lemmas.List.{get_or-set_same, get_or-set_other}
use Rattle.std.proofs.lemmas.Bool.{cases_eq}
use Rattle.galleys.specs.Galleys.{Showing, Text}
use Rattle.layers.specs.declared.paste.Paste.{Paste}
use Rattle.layers.specs.Pasted.{over}

module _ (shows : ℕ → ℕ) (text : List ℕ) where
  pub length_over : (ps : List Paste) → length (over shows text ps) ≡ length text
  length_over [] = refl
  length_over (p ∷ ps) = length-set (over shows text ps) p.at (shows p.byte) ∙ length_over ps

  -- every byte shows as itself
  over-shown : Showing shows → Text shows text → (ps : List Paste) (q : ℕ) → q < length text → shows (slice_index (over shows text ps) q) ≡ slice_index (over shows text ps) q
  over-shown s t [] q l = t.shown q l
  over-shown s t (p ∷ ps) q l =
      let n = length_over ps in
      ⊎_elim
      (λ (e : q ≡ p.at).
      let at : get_or (slice_set (over shows text ps) p.at (shows p.byte)) q 0 ≡ shows p.byte =
      ap (λ k. slice_index (slice_set (over shows text ps) p.at (shows p.byte)) k) e ∙ get_or-set_same (over shows text ps) p.at (shows p.byte) 0 (omega arith) in
      ap shows at ∙ s.again p.byte ∙ sym at)
      (λ (d : q ≡ p.at → ⊥).
      let at = get_or-set_other (over shows text ps) p.at q (shows p.byte) 0 d in
      ap shows at ∙ over-shown s t ps q l ∙ sym at)
      (cases_eq q p.at)

  pub over-text : Showing shows → Text shows text → (ps : List Paste) → Text shows (over shows text ps)
  over-text s t ps =
      let n = length_over ps in
      record { short = omega (arith, t.short); shown = λ q l. over-shown s t ps q (omega arith) }

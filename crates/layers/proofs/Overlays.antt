-- Pasted bytes over a text, by the meaning of what is below alone. Assumes nothing.
use Rattle.std.specs.Prelude.{◌≡◌, ℕ, ◌+◌, ◌-◌, ◌<◌, ◌≤◌, Bool, true, false, cond, List, [], ◌∷◌, ◌++◌, length, take, drop, set, ◌==◌, slice_set, refl, not, position, Some, None, Option, is_some}
use Rattle.std.specs.List.{prefix_len}
use Rattle.std.proofs.Common.{sym, ap, ◌∙◌, ⊎_elim, arith, length-take, length-drop}
use Rattle.std.proofs.lemmas.List.{append_assoc, set-set, set_comm, drop-set-lt, drop-set-add, take-set-le}
use Rattle.std.proofs.lemmas.List.Folds.{length-prefix_len}
use Rattle.std.proofs.lemmas.Bool.Decides.{nat_tests}
use Rattle.std.proofs.lemmas.Bool.{cases_Bool}
use Rattle.galleys.proofs.Parts.{take-set-in}
use Rattle.galleys.specs.declared.galley.Galley as galley
use Rattle.layers.specs.declared.paste.Paste.{Paste}
use Rattle.layers.specs.PastedTexts.{length_over}
use Rattle.layers.specs.Pasted.{Pasting, first_at, is_full, paste_in, over}

abbrev one : ℕ → ℕ → Paste
one at b = record { at = at; byte = b }

module _ (shows : ℕ → ℕ) (text : List ℕ) where
  -- one more pasted
  pub over-pasted : (ps : List Paste) (at b : ℕ) → over shows text (paste_in ps at b) ≡ slice_set (over shows text ps) at (shows b)
  over-pasted [] at b = refl
  over-pasted (p ∷ ps) at b =
      let more = over-pasted ps at b in
      grind (arith, nat_tests, set-set, set_comm)

-- one pasted byte more, from the last to the first
pub one-more : (ps rest next done : List Paste) (p : Paste) → ps ≡ rest ++ done → rest ≡ next ++ p ∷ [] → ps ≡ next ++ (p ∷ done)
one-more ps rest next done p e f = e ∙ ap (λ xs. xs ++ done) f ∙ append_assoc next (p ∷ []) done

-- looking for a place
pub first-le : (ps : List Paste) (at : ℕ) → first_at ps at ≤ length ps
first-le ps at =
    let q : Paste → Bool = λ p. not (p.at == at) in
    omega (arith, length-prefix_len q ps, length-take (prefix_len q ps) ps)

-- where the place was found, and where it was not
pub found : (ps : List Paste) (at i : ℕ) → Some i ≡ position (λ p. p.at == at) ps → (i ≡ first_at ps at) × (i < length ps)
found ps at i e = grind (arith, nat_tests)

pub found-none : (ps : List Paste) (at : ℕ) → None ≡ position (λ p. p.at == at) ps → first_at ps at ≡ length ps
found-none ps at e =
    let le = first-le ps at in
    grind (arith, nat_tests)

-- whether they are full
pub full-none : (ps : List Paste) (at : ℕ) (o : Option ℕ) (b : Bool) → length ps ≡ 32 → o ≡ position (λ p. p.at == at) ps → is_some o ≡ not b → b ≡ is_full ps at
full-none ps at None b l e n =
    let f = found-none ps at e in
    grind (arith, nat_tests)
full-none ps at (Some i) b l e n =
    let f = found ps at i e in
    grind (arith, nat_tests)

pub full-room : (ps : List Paste) (at : ℕ) → length ps ≤ 32 → (length ps ≡ 32 → ⊥) → false ≡ is_full ps at
full-room ps at l d =
    let le = first-le ps at in
    grind (arith, nat_tests)

pub roomy : (ps : List Paste) (at : ℕ) → length ps ≤ 32 → is_full ps at ≡ false → None ≡ position (λ p. p.at == at) ps → length ps < 32
roomy ps at l room e =
    let f = found-none ps at e in
    grind (arith, nat_tests)

-- what pasting does to the list
pub paste-found : (ps : List Paste) (at b : ℕ) → first_at ps at < length ps → paste_in ps at b ≡ slice_set ps (first_at ps at) (one at b)
paste-found [] at b l = absurd (omega arith)
paste-found (p ∷ ps) at b l =
    let more = paste-found ps at b in
    grind (arith, nat_tests)

pub paste-added : (ps : List Paste) (at b : ℕ) → first_at ps at ≡ length ps → paste_in ps at b ≡ ps ++ one at b ∷ []
paste-added [] at b l = refl
paste-added (p ∷ ps) at b l =
    let more = paste-added ps at b in
    grind (arith, nat_tests)

-- a part of a text in which one byte was set
pub part-set-in : (text : List ℕ) (at l q x : ℕ) → at + l ≤ length text → at ≤ q → q - at < l → take l (drop at (slice_set text q x)) ≡ slice_set (take l (drop at text)) (q - at) x
part-set-in text at l q x h lq r =
    let e : q ≡ at + (q - at) = omega arith in
    let n = length-drop at text in
    ap (λ k. take l (drop at (slice_set text k x))) e ∙ ap (take l) (drop-set-add at text (q - at) x) ∙ take-set-in l (drop at text) (q - at) x r (omega arith)

pub part-set-before : (text : List ℕ) (at l q x : ℕ) → q < at → take l (drop at (slice_set text q x)) ≡ take l (drop at text)
part-set-before text at l q x h = ap (take l) (drop-set-lt at text q x h)

pub part-set-behind : (text : List ℕ) (at l q x : ℕ) → at ≤ q → l ≤ q - at → take l (drop at (slice_set text q x)) ≡ take l (drop at text)
part-set-behind text at l q x lq r =
    let e : q ≡ at + (q - at) = omega arith in
    ap (λ k. take l (drop at (slice_set text k x))) e ∙ ap (take l) (drop-set-add at text (q - at) x) ∙ take-set-le l (drop at text) (q - at) x r

-- one pasted byte more, laid over a part of the text: it lies within the part, or it does not
module _ (shows : ℕ → ℕ) (text : List ℕ) (p : Paste) (done : List Paste) (at l : ℕ) (within : at + l ≤ length text) (part : List ℕ) (is : part ≡ take l (drop at (over shows text done))) where
  pub laid_in : (x : ℕ) → at ≤ p.at → p.at - at < l → x ≡ shows p.byte → slice_set part (p.at - at) x ≡ take l (drop at (over shows text (p ∷ done)))
  laid_in x u v e =
      ap (set part (p.at - at)) e ∙ ap (λ xs. set xs (p.at - at) (shows p.byte)) is
      ∙ sym (part-set-in (over shows text done) at l p.at (shows p.byte) (omega (arith, length_over shows text done)) u v)

  pub laid-before : p.at < at → part ≡ take l (drop at (over shows text (p ∷ done)))
  laid-before u = is ∙ sym (part-set-before (over shows text done) at l p.at (shows p.byte) u)

  pub laid-behind : at ≤ p.at → l ≤ p.at - at → part ≡ take l (drop at (over shows text (p ∷ done)))
  laid-behind u v = is ∙ sym (part-set-behind (over shows text done) at l p.at (shows p.byte) u v)

-- the text after a put
pub pasting-text : {G : Type 0} (holding : galley.Ghosts G) (old : G) (ps : List Paste) (at b : ℕ) (new : G) (qs : List Paste) → Pasting holding old ps at b new qs
    → over holding.shows (holding.text new) qs ≡ slice_set (over holding.shows (holding.text old) ps) at (holding.shows b)
pasting-text holding old ps at b new qs p =
    let text = holding.text in
    let shows = holding.shows in
    ⊎_elim
    (λ (full : is_full ps at ≡ true).
    ap (over shows (text new)) (p.held ∙ ap (λ f. paste_in (cond f [] ps) at b) full) ∙ ap (λ xs. set xs at (shows b)) (p.spilled full))
    (λ (room : is_full ps at ≡ false).
    ap (over shows (text new)) (p.held ∙ ap (λ f. paste_in (cond f [] ps) at b) room) ∙ ap (λ x. over shows (text x) (paste_in ps at b)) (p.kept room) ∙ over-pasted shows (text old) ps at b)
    (cases_Bool (is_full ps at))

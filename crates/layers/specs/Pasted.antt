-- Pasted bytes, each with its place. Assumes nothing.
use Rattle.std.specs.Prelude.{◌≡◌, ℕ, ◌+◌, ◌≤◌, Bool, true, false, cond, List, [], ◌∷◌, length, take, drop, ◌==◌, slice_set}
use Rattle.std.specs.List.{position_or_len}
use Rattle.galleys.specs.declared.galley.Galley as galley
use Rattle.layers.specs.declared.paste.Paste.{Paste}
use Rattle.layers.specs.declared.paste_up.PasteUp.{PasteUp}
use Rattle.layers.specs.declared.pastes.Pastes.{Pastes}

-- the pasted bytes that are held
abbrev pub paste_list : Pastes → List Paste
paste_list p = p.list.items

-- how many stand before the one at the place; all of them where none has it
abbrev pub first_at : List Paste → ℕ → ℕ
first_at ps at = position_or_len (λ p. p.at == at) ps

-- 32 are held, none of them at the place
abbrev pub is_full : List Paste → ℕ → Bool
is_full ps at = first_at ps at == 32

-- the byte at a pasted place is replaced; one at another place is added
abbrev pub paste_in : List Paste → ℕ → ℕ → List Paste
paste_in [] at b = record { at = at; byte = b } ∷ []
paste_in (p ∷ ps) at b = cond (p.at == at) (record { at = at; byte = b } ∷ ps) (p ∷ paste_in ps at b)

-- the text with the pasted bytes put in, each as it is shown
abbrev pub over : (ℕ → ℕ) → List ℕ → List Paste → List ℕ
over shows text [] = text
over shows text (p ∷ ps) = slice_set (over shows text ps) p.at (shows p.byte)

-- the text of a paste-up: the one below with the pasted bytes put in, each as it is shown
abbrev pub pasted_text : {G : Type 0} → galley.Ghosts G → PasteUp G → List ℕ
pasted_text holding s = over holding.shows (holding.text s.below) (paste_list s.pastes)

-- a put over a galley that holds the pasted bytes ps: where they are full they are first written below and dropped
pub record Pasting {G : Type 0} (holding : galley.Ghosts G) (old : G) (ps : List Paste) (at b : ℕ) (new : G) (qs : List Paste) : Type 0 where
  pub kept : is_full ps at ≡ false → new ≡ old
  pub spilled : is_full ps at ≡ true → holding.text new ≡ over holding.shows (holding.text old) ps
  pub held : qs ≡ paste_in (cond (is_full ps at) [] ps) at b

-- the part of any text from `at` on becomes that part of the text with the pasted bytes put in
abbrev pub Laid : (ℕ → ℕ) → List Paste → ℕ → List ℕ → List ℕ → Type 0
Laid shows ps at old new = (text : List ℕ) → at + length old ≤ length text → old ≡ take (length old) (drop at text) → new ≡ take (length old) (drop at (over shows text ps))

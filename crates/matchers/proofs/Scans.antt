-- What a matcher answers of a stretch, from the term that it is lent. Assumes nothing.
use Rattle.std.proofs.Common.{◌≡◌, ℕ, ◌<◌, ◌≤◌, true, false, cond, leb, List, length, Some, None, Ok, Err, Option, Result, sym, ap, ◌∙◌, ⊎_elim}
use Rattle.std.proofs.lemmas.Bool.{cases_Bool, leb-true, le-leb, lt-leb}
use Rattle.std.specs.Option.{option_map}
use Rattle.rules.specs.declared.refusal.Refusal.{Refusal}
use Rattle.rules.specs.declared.refusal.Refusal.TheVariants.{StretchTooLong, NoTermHeld}
use Rattle.rules.specs.declared.held.HeldTerm.{HeldTerm}
use Rattle.rules.specs.Held.{term_of}
use Rattle.rules.specs.Terms.{Term, scanned}
use Rattle.matchers.specs.Matchers.{of_stretch, scanning}
use Rattle.matchers.specs.Places.{held_places}

-- what is lent for a stretch is what is held, and the stretch is short enough
lent : (o : Option HeldTerm) (h : HeldTerm) (stretch : List ℕ) → Ok h ≡ of_stretch (λ x _. x) o stretch → (o ≡ Some h) × (length stretch ≤ 127)
lent None h stretch e = cc
lent (Some x) h stretch e =
    ⊎_elim
    (λ (s : leb (length stretch) 127 ≡ true).
    let same : ◌≡◌ {A = Result HeldTerm Refusal} (Ok h) (Ok x) = e ∙ ap (λ b. cond b (Ok x) (Err StretchTooLong)) s in
    let is : ◌≡◌ {A = Option HeldTerm} (Some x) (Some h) = cc in (is, leb-true _ _ s))
    (λ (s : leb (length stretch) 127 ≡ false).
    let other : ◌≡◌ {A = Result HeldTerm Refusal} (Ok h) (Err StretchTooLong) = e ∙ ap (λ b. cond b (Ok x) (Err StretchTooLong)) s in cc)
    (cases_Bool (leb (length stretch) 127))

module _ (o : Option HeldTerm) (h : HeldTerm) (stretch : List ℕ) (given : Ok h ≡ of_stretch (λ x _. x) o stretch) where
  pub lent_held : o ≡ Some h
  lent_held = (lent o h stretch given).0

  -- what is answered of it
  pub lent_answer : {A : Type 0} (f : Term → List ℕ → A) (x : A) → x ≡ f (term_of h) stretch → Ok x ≡ of_stretch f (option_map term_of o) stretch
  lent_answer f x e =
      ap (λ y. Ok y) e
      ∙ sym (ap (λ y. of_stretch f (option_map term_of y) stretch) lent_held ∙ ap (λ b. cond b (Ok (f (term_of h) stretch)) (Err StretchTooLong)) (le-leb (length stretch) 127 (lent o h stretch given).1))

-- what is answered where nothing is held, where the stretch is too long, and else
module _ {A : Type 0} (f : Term → List ℕ → A) (o : Option Term) (stretch : List ℕ) where
  pub answer-unheld : o ≡ None → Err NoTermHeld ≡ of_stretch f o stretch
  answer-unheld none = sym (ap (λ x. of_stretch f x stretch) none)

  module _ (t : Term) (holds : o ≡ Some t) where
    pub answer-long : 127 < length stretch → Err StretchTooLong ≡ of_stretch f o stretch
    answer-long h = sym (ap (λ x. of_stretch f x stretch) holds ∙ ap (λ b. cond b (Ok (f t stretch)) (Err StretchTooLong)) (lt-leb (length stretch) 127 h))

    pub answer-given : (x : A) → length stretch ≤ 127 → x ≡ f t stretch → Ok x ≡ of_stretch f o stretch
    answer-given x h e = ap (λ (y : A). Ok y) e ∙ sym (ap (λ y. of_stretch f y stretch) holds ∙ ap (λ b. cond b (Ok (f t stretch)) (Err StretchTooLong)) (le-leb (length stretch) 127 h))

-- what was worked out for the held term's places
pub answer-held : {A : Type 0} (f : Term → List ℕ → A) (o : Option HeldTerm) (h : HeldTerm) (stretch : List ℕ) (x : A) → o ≡ Some h → length stretch ≤ 127 → x ≡ f (held_places o) stretch → Ok x ≡ of_stretch f (option_map term_of o) stretch
answer-held f o h stretch x is short e = answer-given f (option_map term_of o) stretch (term_of h) (ap (option_map term_of) is) x short (e ∙ ap (λ y. f (held_places y) stretch) is)

-- the same of a scan
pub scan-unheld : (o : Option Term) (stretch : List ℕ) → o ≡ None → Err NoTermHeld ≡ scanning o stretch
scan-unheld o stretch none = answer-unheld scanned o stretch none

module _ (o : Option Term) (t : Term) (stretch : List ℕ) (holds : o ≡ Some t) where
  pub scan-long : 127 < length stretch → Err StretchTooLong ≡ scanning o stretch
  scan-long h = answer-long scanned o stretch t holds h

  pub scan-word : (word : ℕ) → length stretch ≤ 127 → word ≡ scanned t stretch → Ok word ≡ scanning o stretch
  scan-word word h e = answer-given scanned o stretch t holds word h e

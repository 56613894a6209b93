-- What a call has written. Assumes nothing.
use Rattle.std.proofs.Common.{◌≡◌, ℕ, ◌+◌, ◌≤◌, true, cond, List, ◌++◌, length, Some, None, Ok, Option, sym, refl, ap, ◌∙◌, subst}
use lib.Seq.{paste}
use borrow.Rule.Slice.PartMut.{put_mid}
use Rattle.std.proofs.lemmas.List.Edits.{paste-paste}
use Rattle.std.proofs.lemmas.List.{length-append}
use Rattle.std.proofs.lemmas.Slice.{put_mid-paste}
use Rattle.rules.specs.declared.refusal.Refusal.{Refusal}
use Rattle.rules.specs.declared.refusal.Refusal.TheVariants.{BufferTooSmall}
use Rattle.rules.specs.Refusals.{in_order}
use Rattle.index_file.specs.Records.{Record, encoded}
use Rattle.index_file.specs.Files.{Outcome, Written, filled, fits, refusing, well_formed}

-- a record that is written
pub written_all : {S T : Type 0} (state : S) (at : ℕ) (r : Record) (next : T → Type 0) (old new : List ℕ) (t : T) (l : ℕ) → well_formed r ≡ None → length (encoded r) ≡ l → true ≡ fits at l (length old) → next t → new ≡ paste old at (encoded r) (length (encoded r)) → Written state at r next old (Ok t) new
written_all state at r next old new t l well long room reached is =
    let none : refusing r at (length old) ≡ None = ap (λ o. in_order o (cond (fits at (length (encoded r)) (length old)) None (Some BufferTooSmall))) well ∙ ap (λ k. cond (fits at k (length old)) None (Some BufferTooSmall)) long ∙ ap (λ b. cond b None (Some BufferTooSmall)) (sym room) in
    record {
      value = subst (λ (o : Option Refusal). Outcome o state next (Ok t)) (sym none) reached;
      after = is ∙ sym (ap (λ o. filled o old at r) none);
    }

-- two parts that are copied in one after the other
pub two-parts : (old front rest first second : List ℕ) (at a b k l : ℕ) → first ≡ front → second ≡ rest → a ≡ at → b ≡ at + length front → k ≡ length front → l ≡ length rest → at ≤ length old →
    put_mid b l (put_mid a k old first) second ≡ paste old at (front ++ rest) (length (front ++ rest))
two-parts old front rest first second at a b k l copied then starts parts short rests fits =
    let f = length front in
    let r = length rest in
    put_mid-paste b l (put_mid a k old first) second rest r then (sym rests) refl
    ∙ ap (λ x. paste x b rest r) (put_mid-paste a k old first front f copied (sym short) refl)
    ∙ (λ i. paste (paste old (starts i) front f) (parts i) rest r)
    ∙ paste-paste old at front rest f r refl refl fits
    ∙ ap (paste old at (front ++ rest)) (sym (length-append front rest))

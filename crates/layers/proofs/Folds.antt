-- A put seen through the fold, by what is below alone. Assumes nothing.
use Rattle.std.specs.Prelude.{◌≡◌, ℕ, cond, List, Some, None, Result, nat_lt}
use Rattle.std.proofs.Common.{sym, ap, ◌∙◌}
use Rattle.std.proofs.lemmas.List.{map-set, length-map}
use Rattle.rules.specs.declared.refusal.Refusal.TheVariants.{PastText}
use Rattle.rules.specs.Refusals.{answer_of}
use Rattle.rules.specs.declared.refusal.Refusal.{Refusal}
use Rattle.rules.specs.Terms.{folded}
use Rattle.galleys.specs.Galleys.{Put}
use Rattle.layers.specs.Folded.{folded_text, folded_shown}

pub folded-put : {G H : Type 0} (text : G → List ℕ) (below : H → G) (shows : ℕ → ℕ) (old new : H) (at b : ℕ) (r : Result (Unit {0}) Refusal) →
    Put text (below old) at (shows b) r (below new) → (below new ≡ below old → new ≡ old) → Put (λ h. folded_text (text (below h))) old at (folded_shown shows b) r new
folded-put text below shows old new at b r p whole = record {
  value = p.value ∙ ap (λ k. answer_of (cond (nat_lt at k) None (Some PastText))) (sym (length-map (text (below old)) folded));
  after = ap folded_text p.after ∙ map-set folded (text (below old)) at (shows b);
  same = λ no. whole (p.same no);
}

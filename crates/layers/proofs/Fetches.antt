-- A fetch through a layer, whose text is as long as the one below. Assumes nothing.
use Rattle.std.proofs.Common.{◌≡◌, ℕ, ◌+◌, cond, leb, List, length, take, drop, Some, None, Ok, Err, sym, ap, ◌∙◌, arith}
use Rattle.std.proofs.lemmas.Bool.{lt-leb}
use Rattle.rules.specs.declared.refusal.Refusal.{Refusal}
use Rattle.rules.specs.declared.refusal.Refusal.TheVariants.{PastText}
use Rattle.rules.specs.Refusals.{answer_of}
use Rattle.galleys.specs.Galleys.{Fetched}
use Rattle.galleys.proofs.Calls.{fetched-all, fetched-within, fetched-past}

module _ (below text : List ℕ) (same : length text ≡ length below) (at : ℕ) (old : List ℕ) where
  pub fetched-through : (mid new : List ℕ) (x : Unit {0}) → Fetched below at old (Ok x) mid → new ≡ take (length old) (drop at text) → Fetched text at old (Ok tt) new
  fetched-through mid new x f e = fetched-all text at old new (omega (arith, (fetched-within below at old mid x f).0)) e

  pub refused-through : (new : List ℕ) (e : Refusal) → Fetched below at old (Err e) new → Fetched text at old (Err e) new
  refused-through new e f =
      let past = fetched-past below at old new e f in
      let off = lt-leb (at + length old) (length below) past in
      let stays : new ≡ old = f.after ∙ ap (λ b. cond b (take (length old) (drop at below)) old) off in
      record {
        value = f.value ∙ ap (λ k. answer_of (cond (leb (at + length old) k) None (Some PastText))) (sym same);
        after = stays ∙ sym (ap (λ b. cond b (take (length old) (drop at text)) old) (lt-leb (at + length old) (length text) (omega arith)));
      }

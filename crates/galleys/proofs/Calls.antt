-- What a fetch or a put has done, from what its tests learn. Assumes nothing.
use Rattle.std.proofs.Common.{◌≡◌, ℕ, ◌+◌, ◌<◌, ◌≤◌, Bool, true, false, cond, leb, List, length, take, drop, set, Some, None, Ok, Err, sym, refl, ap, ◌∙◌, arith}
use Rattle.std.proofs.lemmas.List.{set_past}
use Rattle.std.proofs.lemmas.Bool.{le-leb, lt-leb, lt-ltb, le-ltb, leb-true, leb-false, both_ways}
use Rattle.rules.specs.declared.refusal.Refusal.{Refusal}
use Rattle.rules.specs.declared.refusal.Refusal.TheVariants.{PastText}
use Rattle.rules.specs.Refusals.{answer_of}
use Rattle.galleys.specs.Galleys.{Fetched, Put}

pub fetched-all : (text : List ℕ) (at : ℕ) (old new : List ℕ) → at + length old ≤ length text → new ≡ take (length old) (drop at text) → Fetched text at old (Ok tt) new
fetched-all text at old new h e =
    let on = le-leb (at + length old) (length text) h in
    record {
      value = ap (λ b. answer_of (cond b None (Some PastText))) (sym on);
      after = e ∙ ap (λ b. cond b (take (length old) (drop at text)) old) (sym on);
    }

pub put_one : {G : Type 0} (text : G → List ℕ) (old : G) (at shown : ℕ) (new : G) → at < length (text old) → text new ≡ set (text old) at shown → Put text old at shown (Ok tt) new
put_one text old at shown new h e = record {
  value = ap (λ b. answer_of (cond b None (Some PastText))) (sym (lt-ltb at (length (text old)) h));
  after = e;
  same = λ no. absurd (both_ways true no refl);
}

pub put-none : {G : Type 0} (text : G → List ℕ) (old : G) (at shown : ℕ) (new : G) → length (text old) ≤ at → new ≡ old → Put text old at shown (Err PastText) new
put-none text old at shown new h e = record {
  value = ap (λ b. answer_of (cond b None (Some PastText))) (sym (le-ltb at (length (text old)) h));
  after = ap text e ∙ sym (set_past (text old) at shown h);
  same = λ no. e;
}

-- the test behind an answer that was given, and behind a refusal
answered : (b : Bool) (x : Unit {0}) (e : Refusal) → Ok x ≡ answer_of (cond b None (Some e)) → b ≡ true
answered true x e h = refl
answered false x e h = absurd (let z : ◌≡◌ {A = ℕ} 0 1 = cc in omega arith)

declined : (b : Bool) (d e : Refusal) → Err d ≡ answer_of (cond b None (Some e)) → b ≡ false
declined true d e h = absurd (let z : ◌≡◌ {A = ℕ} 0 1 = cc in omega arith)
declined false d e h = refl

-- what a caller learns of a fetch
pub fetched-within : (text : List ℕ) (at : ℕ) (old new : List ℕ) (x : Unit {0}) → Fetched text at old (Ok x) new → (at + length old ≤ length text) × (new ≡ take (length old) (drop at text))
fetched-within text at old new x f =
    let on = answered (leb (at + length old) (length text)) x PastText f.value in
    (leb-true (at + length old) (length text) on, f.after ∙ ap (λ b. cond b (take (length old) (drop at text)) old) on)

pub fetched-past : (text : List ℕ) (at : ℕ) (old new : List ℕ) (e : Refusal) → Fetched text at old (Err e) new → length text < at + length old
fetched-past text at old new e f = leb-false (at + length old) (length text) (declined (leb (at + length old) (length text)) e PastText f.value)

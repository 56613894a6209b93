-- What a look gives, by the stretch that it fetched. Assumes nothing.
use Rattle.std.proofs.Common.{◌≡◌, ℕ, ◌+◌, ◌-◌, ◌<◌, ◌≤◌, ◌⊎◌, List, length, take, drop, Some, Ok, Err, Option, Result, true, false, is_ok, sym, ◌∙◌, subst, arith, length-drop, length-take, MatchOption}
use Rattle.std.proofs.lemmas.Bool.{true≢false}
use Rattle.rules.specs.declared.refusal.Refusal.{Refusal}
use Rattle.galleys.specs.Galleys.{Fetched}
use Rattle.galleys.proofs.Calls.{fetched-within, fetched-past}
use Rattle.rules.specs.Words.{bit}
use Rattle.rules.specs.Terms.{Term, occurs}
use Rattle.rules.proofs.Words.{bit_is}
use Rattle.rules.proofs.Occurs.{occurs-stretch}
use Rattle.indexer.specs.Looks.{Sought}

-- the word sought in a stretch that is long enough, or ends with the text, tells the occurrences in the text
pub sought-word : (o : Option Term) (r : Option ℕ) (text : List ℕ) (t : Term) (start l q : ℕ) → Sought o text start q r → q ≡ l → o ≡ Some t → start + l ≤ length text → l ≤ 127 →
    (63 + length t.bytes ≤ l) ⊎ (start + l ≡ length text) → MatchOption r ⊥ (λ w. (s : ℕ) → s < 64 → bit w s ≡ occurs t text (start + s))
sought-word o r text t start l q given same held fits short long =
    let sought : Sought o text start l r = subst (λ x. Sought o text start x r) same given in
    subst (λ (x : Option ℕ). MatchOption x ⊥ (λ w. (s : ℕ) → s < 64 → bit w s ≡ occurs t text (start + s))) (sym (sought t held fits short))
    (λ s below. bit_is (occurs t (take l (drop start text))) s 64 below ∙ occurs-stretch t text start l s below fits long)

-- the length of a part from the start, as `&mut s[0..l]` has it
pub part_length : (l : ℕ) (xs : List ℕ) → l ≤ length xs → length (take (l - 0) (drop 0 xs)) ≡ l
part_length l xs h = simp (length-take, length-drop) (omega arith)

-- the term in a row is the one that stands there
pub some_same : (x t : Term) (o : Option Term) → o ≡ Some x → o ≡ Some t → x ≡ t
some_same x t o p q = cc

-- a fetch that was accepted, and one that was not
pub fetched-if-ok : (text : List ℕ) (at : ℕ) (old new : List ℕ) (r : Result (Unit {0}) Refusal) → Fetched text at old r new → is_ok r ≡ true → (at + length old ≤ length text) × (new ≡ take (length old) (drop at text))
fetched-if-ok text at old new (Ok x) fetched on = fetched-within text at old new x fetched
fetched-if-ok text at old new (Err e) fetched on = absurd (true≢false (sym on))

pub fetched-if-not : (text : List ℕ) (at : ℕ) (old new : List ℕ) (r : Result (Unit {0}) Refusal) → Fetched text at old r new → is_ok r ≡ false → length text < at + length old
fetched-if-not text at old new (Ok x) fetched off = absurd (true≢false off)
fetched-if-not text at old new (Err e) fetched off = fetched-past text at old new e fetched

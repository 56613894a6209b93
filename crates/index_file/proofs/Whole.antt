-- A file is its records. Assumes nothing.
use Rattle.std.proofs.Common.{◌≡◌, ℕ, ◌+◌, ◌<◌, ◌≤◌, min, Bool, true, false, cond, List, [], ◌∷◌, ◌++◌, length, Some, None, Ok, Err, Option, sym, refl, ap, ◌∙◌, subst, arith}
use lib.Seq.{paste}
use Rattle.std.proofs.lemmas.List.Edits.{length-paste, paste-paste}
use Rattle.std.proofs.lemmas.List.{append-nil, append_assoc, length-append}
use Rattle.std.proofs.lemmas.Bool.{leb-false, leb-true}
use Rattle.rules.specs.declared.refusal.Refusal.{Refusal}
use Rattle.rules.specs.declared.refusal.Refusal.TheVariants.{BufferTooSmall}
use Rattle.rules.specs.declared.declined.Declined.{Declined}
use Rattle.rules.specs.Refusals.{in_order}
use Rattle.index_file.specs.declared.state.Headed.{Headed}
use Rattle.index_file.specs.Records.{Record, encoded, encoded_all}
use Rattle.index_file.specs.Records.Record.{head, term, locator, end}
use Rattle.index_file.specs.Files.{Outcome, Reaches, WholeFile, Written, Wrote, filled, fits, locators_in, refusing, well_formed}
use Rattle.index_file.specs.Files.Wrote.{headed, termed, located}

-- what an accepted call did
module _ {S T : Type 0} (state : S) (at : ℕ) (r : Record) (next : T → Type 0) (old new : List ℕ) (t : T) where
  taken : (o : Option Refusal) → Outcome o state next (Ok t) → new ≡ filled o old at r → (o ≡ None) × (next t × (new ≡ paste old at (encoded r) (length (encoded r))))
  taken None v a = (refl, (v, a))
  taken (Some e) v a = absurd v

  room : (w : Option Refusal) (b : Bool) → in_order w (cond b None (Some BufferTooSmall)) ≡ None → b ≡ true
  room None true e = refl
  room None false e = absurd (grind arith)
  room (Some x) b e = absurd (grind arith)

  pub accepted : Written state at r next old (Ok t) new → next t × ((new ≡ paste old at (encoded r) (length (encoded r))) × (at + length (encoded r) ≤ length old))
  accepted w =
      let a = taken (refusing r at (length old)) w.value w.after in
      let b = leb-true (at + length (encoded r)) (min (length old) 4294967295) (room (well_formed r) (fits at (length (encoded r)) (length old)) a.0) in
      (a.1.0, (a.1.1, omega arith))

-- what a refused call tells
module _ {S T : Type 0} (state : S) (at : ℕ) (r : Record) (next : T → Type 0) (old new : List ℕ) (d : Declined S) where
  given : (o : Option Refusal) → Outcome {S = S} {T = T} o state next (Err d) → (o ≡ Some d.refusal) × (d.back ≡ state)
  given None v = absurd v
  given (Some e) v = (ap Some (sym v.0), v.1)

  -- the state is handed back
  pub handed-back : Written state at r next old (Err d) new → d.back ≡ state
  handed-back w = (given (refusing r at (length old)) w.value).1

  cramped : (w : Option Refusal) (b : Bool) → w ≡ None → in_order w (cond b None (Some BufferTooSmall)) ≡ Some d.refusal → b ≡ false
  cramped None true n e = absurd (grind arith)
  cramped None false n e = refl
  cramped (Some x) b n e = absurd (grind arith)

  -- a record that is well formed had no room
  pub no_room : Written state at r next old (Err d) new → well_formed r ≡ None → min (length old) 4294967295 < at + length (encoded r)
  no_room w well = leb-false (at + length (encoded r)) (min (length old) 4294967295) (cramped (well_formed r) (fits at (length (encoded r)) (length old)) well (given (refusing r at (length old)) w.value).0)

-- one record more
encoded-push : (rs : List Record) (r : Record) → encoded_all (rs ++ r ∷ []) ≡ encoded_all rs ++ encoded r
encoded-push [] r = append-nil (encoded r)
encoded-push (x ∷ rs) r = ap (λ bs. encoded x ++ bs) (encoded-push rs r) ∙ sym (append_assoc (encoded x) (encoded_all rs) (encoded r))

pub record Front (first : List ℕ) (rs : List Record) (at : ℕ) (buffer : List ℕ) : Type 0 where
  pub reach : at ≡ length (encoded_all rs)
  pub room : at ≤ length first
  pub bytes : buffer ≡ paste first 0 (encoded_all rs) at

front-more : (first : List ℕ) (rs : List Record) (at : ℕ) (old new : List ℕ) (r : Record) → Front first rs at old → new ≡ paste old at (encoded r) (length (encoded r)) → at + length (encoded r) ≤ length old →
    Front first (rs ++ r ∷ []) (at + length (encoded r)) new
front-more first rs at old new r f e l =
    let all = encoded_all rs in
    let n : length old ≡ length first = ap length f.bytes ∙ length-paste first 0 all at (omega (arith, f.room)) (omega (arith, f.reach)) in
    let long : length (encoded_all (rs ++ r ∷ [])) ≡ at + length (encoded r) = ap length (encoded-push rs r) ∙ length-append all (encoded r) ∙ ap (λ k. k + length (encoded r)) (sym f.reach) in
    let from : 0 + at ≡ at = omega arith in
    record {
      reach = sym long;
      room = omega arith;
      bytes = e ∙ ap (λ b. paste b at (encoded r) (length (encoded r))) f.bytes
          ∙ ap (λ k. paste (paste first 0 all at) k (encoded r) (length (encoded r))) (sym from)
          ∙ paste-paste first 0 all (encoded r) at (length (encoded r)) f.reach refl (omega arith)
          ∙ ap (λ bs. paste first 0 bs (at + length (encoded r))) (sym (encoded-push rs r));
    }

front-none : (first : List ℕ) → Front first [] 0 first
front-none first = record { reach = refl; room = omega arith; bytes = refl }

locators-push : (rs : List Record) (r : Record) → locators_in (rs ++ r ∷ []) ≡ locators_in rs + locators_in (r ∷ [])
locators-push [] r = omega arith
locators-push (head n owed terms ∷ rs) r = locators-push rs r
locators-push (term number limit bytes ∷ rs) r = locators-push rs r
locators-push (locator start page place variant ∷ rs) r = omega (arith, locators-push rs r)
locators-push (end locators ∷ rs) r = locators-push rs r

pub wrote-front : (first : List ℕ) (rs : List Record) (s : Headed) (buffer : List ℕ) → Wrote first rs s buffer → Front first rs s.at buffer × (s.locators ≡ locators_in rs)
wrote-front first _ s new (headed state n owed terms w) =
    let a = accepted state 0 (head n owed terms) (Reaches 12 0) first new s w in
    let more = front-more first [] 0 first new (head n owed terms) (front-none first) a.1.0 a.1.1 in
    (subst (λ (k : ℕ). Front first (head n owed terms ∷ []) k new) (sym a.0.0) more, a.0.1)
wrote-front first _ t new (termed {rs = rs} {old = old} {s = s} number limit bytes h w) =
    let r = term number limit bytes in
    let a = accepted s s.at r (Reaches (s.at + (6 + length bytes)) s.locators) old new t w in
    let before = wrote-front first rs s old h in
    let long : s.at + length (encoded r) ≡ t.at = omega (arith, a.0.0) in (
      subst (λ (k : ℕ). Front first (rs ++ r ∷ []) k new) long (front-more first rs s.at old new r before.0 a.1.0 a.1.1),
      omega (arith, a.0.1, before.1, locators-push rs r),
    )
wrote-front first _ t new (located {rs = rs} {old = old} {s = s} start page place variant h w) =
    let r = locator start page place variant in
    let a = accepted s s.at r (Reaches (s.at + 11) (s.locators + 1)) old new t w in
    let before = wrote-front first rs s old h in (
      subst (λ (k : ℕ). Front first (rs ++ r ∷ []) k new) (sym a.0.0) (front-more first rs s.at old new r before.0 a.1.0 a.1.1),
      omega (arith, a.0.1, before.1, locators-push rs r),
    )

pub whole-file : WholeFile
whole-file first old new rs s l h w =
    let a = accepted s s.at (end s.locators) (λ k. k ≡ s.at + 8) old new l w in
    let before = wrote-front first rs s old h in
    let more = front-more first rs s.at old new (end s.locators) before.0 a.1.0 a.1.1 in
    let same : encoded_all (rs ++ end s.locators ∷ []) ≡ encoded_all (rs ++ end (locators_in rs) ∷ []) = ap (λ k. encoded_all (rs ++ end k ∷ [])) before.1 in
    (a.0 ∙ more.reach ∙ ap length same, more.bytes ∙ ap (λ bs. paste first 0 bs (s.at + 8)) same ∙ ap (paste first 0 (encoded_all (rs ++ end (locators_in rs) ∷ []))) (sym a.0))

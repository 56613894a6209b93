-- What every matcher keeps and answers. Assumes nothing.
use Rattle.std.specs.Prelude.{◌≡◌, ℕ, ◌<◌, ◌≤◌, Bool, true, false, cond, ◌&&◌, List, length, is_ok, Some, None, Ok, Err, Option, Result, ◌==◌, nat_le}
use Rattle.rules.specs.declared.refusal.Refusal.{Refusal}
use Rattle.rules.specs.declared.refusal.Refusal.TheVariants.{TermUnfit, StretchTooLong, NoTermHeld}
use Rattle.rules.specs.Refusals.{answer_of, in_order, malformed}
use Rattle.rules.specs.Terms.{Term, scanned}

-- only terms of 1 to 64 bytes with a limit below their length fit any matcher
pub record Fitting (m k : ℕ) : Type 0 where
  pub some : 1 ≤ m
  pub short : m ≤ 64
  pub limit : k < m

-- terms of 1 to 64 bytes whose bytes match in their own case only
abbrev pub exact_fits : ℕ → ℕ → Bool
exact_fits m k = nat_le 1 m && (nat_le m 64 && k == 0)

-- why a term of m bytes with the limit k is not taken: its length, its limit, and then that it does not fit
abbrev pub preparing : ℕ → ℕ → Bool → Option Refusal
preparing m k fits = in_order (malformed m k) (cond fits None (Some TermUnfit))

-- prepare makes the matcher hold the term, whatever it held before, or is refused and leaves it; what fits stays the same
pub record Prepared {M : Type 0} (held : M → Option Term) (fit : M → ℕ → ℕ → Bool) (old : M) (term : List ℕ) (k : ℕ) (r : Result (Unit {0}) Refusal) (new : M) : Type 0 where
  pub value : r ≡ answer_of (preparing (length term) k (fit old (length term) k))
  pub holds : is_ok r ≡ true → held new ≡ Some (record { bytes = term; limit = k })
  pub same : is_ok r ≡ false → new ≡ old
  pub fits : (m j : ℕ) → fit new m j ≡ fit old m j

-- an answer of the held term, refused where none is held
abbrev pub of_term : {A : Type 0} → (Term → A) → Option Term → Result A Refusal
of_term f None = Err NoTermHeld
of_term f (Some t) = Ok (f t)

-- an answer of what is held and a stretch, refused where no term is held, then where the stretch is over 127 bytes
abbrev pub of_stretch : {T A : Type 0} → (T → List ℕ → A) → Option T → List ℕ → Result A Refusal
of_stretch f None stretch = Err NoTermHeld
of_stretch f (Some t) stretch = cond (nat_le (length stretch) 127) (Ok (f t stretch)) (Err StretchTooLong)

-- the answer of a scan: refused where no term is held, then where the stretch is over 127 bytes; else the word of the term in the stretch
abbrev pub scanning : Option Term → List ℕ → Result ℕ Refusal
scanning None stretch = Err NoTermHeld
scanning (Some t) stretch = cond (nat_le (length stretch) 127) (Ok (scanned t stretch)) (Err StretchTooLong)

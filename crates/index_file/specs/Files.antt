-- A file written record by record. Assumes nothing.
use Rattle.std.specs.Prelude.{◌≡◌, ℕ, ◌+◌, ◌<◌, ◌≤◌, min, Bool, cond, ◌&&◌, List, [], ◌∷◌, ◌++◌, length, Some, None, Ok, Err, Option, Result, MatchResult, nat_le}
use Rattle.std.proofs.Math.Seq.{paste}
use Rattle.rules.specs.declared.refusal.Refusal.{Refusal}
use Rattle.rules.specs.declared.refusal.Refusal.TheVariants.{TermLength, BufferTooSmall}
use Rattle.rules.specs.declared.declined.Declined.{Declined}
use Rattle.rules.specs.Refusals.{in_order}
use Rattle.index_file.specs.declared.state.Unheaded.{Unheaded}
use Rattle.index_file.specs.declared.state.Headed.{Headed}
use Rattle.index_file.specs.Records.{Record, encoded, encoded_all}
use Rattle.index_file.specs.Records.Record.{head, term, locator, end}

-- l bytes from `at` on fit into a buffer of `room` bytes, of which a file uses at most 4,294,967,295
abbrev pub fits : ℕ → ℕ → ℕ → Bool
fits at l room = nat_le (at + l) (min room 4294967295)

-- bytes placed from `at` on where they fit, the state with how far they reach; where they do not, all stays as it was
abbrev pub Placed : {S : Type 0} → S → ℕ → List ℕ → List ℕ → Result (S × ℕ) (Declined S) → List ℕ → Type 0
Placed state at bytes old answer new =
    MatchResult answer (λ t. (at + length bytes ≤ min (length old) 4294967295) × (t.0 ≡ state) × (t.1 ≡ at + length bytes) × (new ≡ paste old at bytes (length bytes)))
    (λ d. (min (length old) 4294967295 < at + length bytes) × (d.refusal ≡ BufferTooSmall) × (d.back ≡ state) × (new ≡ old))

-- why a record is not written: a term that is empty or over 64 bytes, then one that does not fit the rest of the buffer
abbrev pub well_formed : Record → Option Refusal
well_formed (head n owed terms) = None
well_formed (term number limit bytes) = cond (nat_le 1 (length bytes) && nat_le (length bytes) 64) None (Some TermLength)
well_formed (locator start page place variant) = None
well_formed (end locators) = None

abbrev pub refusing : Record → ℕ → ℕ → Option Refusal
refusing r at room = in_order (well_formed r) (cond (fits at (length (encoded r)) room) None (Some BufferTooSmall))

-- what was answered: the next state where nothing is refused, else the refusal and the state that was given
abbrev pub Outcome : {S T : Type 0} → Option Refusal → S → (T → Type 0) → Result T (Declined S) → Type 0
Outcome None state next (Ok t) = next t
Outcome None state next (Err d) = ⊥
Outcome (Some e) state next (Ok t) = ⊥
Outcome (Some e) state next (Err d) = (d.refusal ≡ e) × (d.back ≡ state)

-- the buffer afterwards: the record's bytes from `at` on, every other byte as it was; after a refusal all as it was
abbrev pub filled : Option Refusal → List ℕ → ℕ → Record → List ℕ
filled None buffer at r = paste buffer at (encoded r) (length (encoded r))
filled (Some e) buffer at r = buffer

-- a call that writes the record at the place
pub record Written {S T : Type 0} (state : S) (at : ℕ) (r : Record) (next : T → Type 0) (old : List ℕ) (answer : Result T (Declined S)) (new : List ℕ) : Type 0 where
  pub value : Outcome (refusing r at (length old)) state next answer
  pub after : new ≡ filled (refusing r at (length old)) old at r

-- the state after it: how far the file reaches, and how many locators it has
abbrev pub Reaches : ℕ → ℕ → Headed → Type 0
Reaches at locators s = (s.at ≡ at) × (s.locators ≡ locators)

-- A buffer, `first` before, into which the records of one file were written one after the other, and the file's state.
pub data Wrote (first : List ℕ) : List Record → Headed → List ℕ → Type 0 where
  headed : {new : List ℕ} {s : Headed} (state : Unheaded) (n owed terms : ℕ) → Written state 0 (head n owed terms) (Reaches 12 0) first (Ok s) new → Wrote first (head n owed terms ∷ []) s new
  termed : {rs : List Record} {old new : List ℕ} {s t : Headed} (number limit : ℕ) (bytes : List ℕ) → Wrote first rs s old → Written s s.at (term number limit bytes) (Reaches (s.at + (6 + length bytes)) s.locators) old (Ok t) new → Wrote first (rs ++ term number limit bytes ∷ []) t new
  located : {rs : List Record} {old new : List ℕ} {s t : Headed} (start page place variant : ℕ) → Wrote first rs s old → Written s s.at (locator start page place variant) (Reaches (s.at + 11) (s.locators + 1)) old (Ok t) new → Wrote first (rs ++ locator start page place variant ∷ []) t new

-- how many of the records are locators
abbrev pub locators_in : List Record → ℕ
locators_in [] = 0
locators_in (locator start page place variant ∷ rs) = 1 + locators_in rs
locators_in (head n owed terms ∷ rs) = locators_in rs
locators_in (term number limit bytes ∷ rs) = locators_in rs
locators_in (end locators ∷ rs) = locators_in rs

-- The whole file: whatever terms and locators were written after the head, the end leaves in the buffer's front exactly the bytes of these records and of an end that counts the locators, answers their length, and leaves the rest of the buffer as it was before the file was begun.
abbrev pub WholeFile : Type 0
WholeFile =
    (first old new : List ℕ) (rs : List Record) (s : Headed) (l : ℕ) → Wrote first rs s old → Written s s.at (end s.locators) (λ k. k ≡ s.at + 8) old (Ok l) new →
    (l ≡ length (encoded_all (rs ++ end (locators_in rs) ∷ []))) × (new ≡ paste first 0 (encoded_all (rs ++ end (locators_in rs) ∷ [])) l)

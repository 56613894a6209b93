-- What a withdrawal has done. Assumes nothing.
use Rattle.std.specs.Prelude.{◌≡◌, ℕ, ◌/◌, ◌%◌, false, cond, ◌&&◌, None, Some, Option, Result, ◌==◌, nat_lt, is_ok, is_some}
use Rattle.matchers.specs.declared.matcher.Matcher as matcher
use Rattle.galleys.specs.declared.galley.Galley as galley
use Rattle.rules.specs.declared.refusal.Refusal.{Refusal}
use Rattle.rules.specs.declared.refusal.Refusal.TheVariants.{NoTermStands}
use Rattle.rules.specs.Refusals.{answer_of, in_order, numbering}
use Rattle.indexer.specs.declared.index.Indexer.{Indexer}
use Rattle.indexer.specs.Machine.{Machine}
use Rattle.indexer.specs.Called.{view, Sound}

-- why a term is not withdrawn: its number, and that none stands there
abbrev pub withdrawing : Machine → ℕ → Option Refusal
withdrawing m number = in_order (numbering number) (cond (is_some (m.stands number)) None (Some NoTermStands))

-- the term and its units, of the 256 blocks, are gone
abbrev pub after_withdraw : Machine → ℕ → Option Refusal → Machine
after_withdraw m number (Some e) = m
after_withdraw m number None = record {
  text = m.text;
  pages = m.pages;
  stands = λ n. cond (n == number) None (m.stands n);
  owed = λ x. cond (x % 16 == number && nat_lt (x / 16) 256) false (m.owed x);
}

-- the withdrawal of a number from i has answered r and left j: what is said of every call, for a call that does no unit
pub record Withdrew {M G : Type 0} (matching : matcher.Ghosts M) (holding : galley.Ghosts G) (i : Indexer M G) (number : ℕ) (r : Result (Unit {0}) Refusal) (j : Indexer M G) : Type 0 where
  -- it answered as the machine does
  pub answers : r ≡ answer_of (withdrawing (view holding i) number)
  -- it left the indexer as the machine is left
  pub follows : view holding j ≡ after_withdraw (view holding i) number (withdrawing (view holding i) number)
  pub job : j.job ≡ i.job
  pub galley : j.galley ≡ i.galley
  pub matcher : j.matcher ≡ i.matcher
  -- a refusal leaves the whole indexer as it was
  pub same : is_ok r ≡ false → j ≡ i
  -- the sentence on the marks is kept
  pub sound : Sound matching holding i → Sound matching holding j

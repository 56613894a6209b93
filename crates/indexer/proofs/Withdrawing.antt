-- What a withdrawal has done, refused and accepted. Assumes nothing.
use Rattle.std.proofs.Common.{◌≡◌, ℕ, ◌/◌, ◌%◌, ◌≤◌, true, length, Some, None, Ok, Err, Result, sym, refl, ap, ◌∙◌}
use Rattle.std.proofs.lemmas.Bool.{both_ways}
use Rattle.matchers.specs.declared.matcher.Matcher as matcher
use Rattle.galleys.specs.declared.galley.Galley as galley
use Rattle.rules.specs.declared.refusal.Refusal.{Refusal}
use Rattle.rules.specs.Refusals.{answer_of}
use Rattle.ledger.specs.declared.book.Ledger.{Ledger}
use Rattle.ledger.specs.Books.{Withdrawn}
use Rattle.ledger.specs.Pages.{page_starts}
use Rattle.indexer.specs.declared.index.Indexer.{Indexer}
use Rattle.indexer.specs.Called.{view}
use Rattle.indexer.specs.Withdrawals.{Withdrew, withdrawing, after_withdraw}
use Rattle.indexer.proofs.Books.{withdrawn-right}
use Rattle.indexer.proofs.Calls.{same-machine}

module _ {M G : Type 0} (matching : matcher.Ghosts M) (holding : galley.Ghosts G) (i : Indexer M G) (number : ℕ) where
  pub withdraw-refused : (e : Refusal) (r : Result (Unit {0}) Refusal) → r ≡ Err e → withdrawing (view holding i) number ≡ Some e → Withdrew matching holding i number r i
  withdraw-refused e r is why = record {
    answers = is ∙ sym (ap answer_of why);
    follows = sym (ap (λ o. after_withdraw (view holding i) number o) why);
    job = refl;
    galley = refl;
    matcher = refl;
    same = λ _. refl;
    sound = λ sound. sound;
  }

  -- the term is gone, and so are its units
  pub withdraw-done : (l : Ledger) → withdrawing (view holding i) number ≡ None → length (holding.text i.galley) ≤ 16384 → Withdrawn i.ledger number l →
      Withdrew matching holding i number (Ok tt) (record { matcher = i.matcher; galley = i.galley; job = i.job; ledger = l })
  withdraw-done l why short withdrawn = record {
    answers = sym (ap answer_of why);
    follows = same-machine refl (ap page_starts withdrawn.pages) withdrawn.terms (λ x. withdrawn.debts (x % 16) (x / 16)) ∙ sym (ap (λ o. after_withdraw (view holding i) number o) why);
    job = refl;
    galley = refl;
    matcher = refl;
    same = λ no. absurd (both_ways true no refl);
    sound = withdrawn-right (matching.fit i.matcher) (holding.text i.galley) i.ledger l number short withdrawn;
  }

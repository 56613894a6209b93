use Rattle.std.proofs.Common.{◌≡◌, true, false, sym, ap, ◌∙◌, rules, of_calls, arith}
use Rattle.std.proofs.lemmas.Iterator.{first_from_Range}
use Rattle.ledger.specs.Books.{listed, first_from}
use Rattle.ledger.proofs.Firsts.{FoundFirst, first_from-found, found-below}
use Rattle.ledger.proofs.book.Ledger.first_listed.Goals as goal

pub returns-in_err-start : goal.returns-in_err-start
returns-in_err-start c =
    let p = listed c.args.self.now c.args.number.value in
    let found : FoundFirst p c.args.from c.min.result c.find.result =
    first_from_Range _ _ _ c.find.result (λ k. p k ≡ true) (λ k. p k ≡ false) c.find.ensures.ran (λ x q k. search (rules, of_calls)) (λ x q k. search (rules, of_calls)) in
    record { value = c.from_residual.ensures ∙ sym c.in_err-start.was ∙ first_from-found p c.args.from c.min.result c.find.result found ∙ ap (first_from p c.args.from) c.min.ensures }

pub overflow_cast-result : goal.overflow_cast-result
overflow_cast-result c =
    let p = listed c.args.self.now c.args.number.value in
    let found : FoundFirst p c.args.from c.min.result c.find.result =
    first_from_Range _ _ _ c.find.result (λ k. p k ≡ true) (λ k. p k ≡ false) c.find.ensures.ran (λ x q k. search (rules, of_calls)) (λ x q k. search (rules, of_calls)) in
    let below = found-below p c.args.from c.min.result c.find.result c.in_ok-start.start found c.in_ok-start.was in
    omega arith

pub returns : goal.returns
returns c =
    let p = listed c.args.self.now c.args.number.value in
    let found : FoundFirst p c.args.from c.min.result c.find.result =
    first_from_Range _ _ _ c.find.result (λ k. p k ≡ true) (λ k. p k ≡ false) c.find.ensures.ran (λ x q k. search (rules, of_calls)) (λ x q k. search (rules, of_calls)) in
    record { value = sym c.in_ok-start.was ∙ first_from-found p c.args.from c.min.result c.find.result found ∙ ap (first_from p c.args.from) c.min.ensures }

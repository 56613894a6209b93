use Rattle.std.proofs.Common.{◌+◌, refl, ap, ◌∙◌, arith}
use Rattle.std.proofs.lemmas.List.{take_rest}
use Rattle.std.proofs.lemmas.Result.{err_from_is_err_and}
use Rattle.term_sheet.specs.Sheets.{empty_lines}
use Rattle.term_sheet.proofs.Readings.{ahead-ends, ahead-line, next-within}
use Rattle.term_sheet.proofs.reader.Reader.next.Goals as goal

pub returns-then-at-sheet : goal.returns-then-at-sheet
returns-then-at-sheet c =
    let self = c.args.self.now in
    let empty = c.empty_lines-empty.ensures.value ∙ ap empty_lines (take_rest self.sheet.now self.at) in
    record { cases = ahead-ends self.sheet.now self.at self.passed _ self.within empty c.if-at-sheet.true; after = refl; same = refl }

pub returns-in_err-entry : goal.returns-in_err-entry
returns-in_err-entry c =
    let self = c.args.self.now in
    let empty = c.empty_lines-empty.ensures.value ∙ ap empty_lines (take_rest self.sheet.now self.at) in
    let line = ahead-line self.sheet.now self.at self.passed _ self.within empty c.if-at-sheet.false _ _ _ c.line_at-next.ensures.value c.line_at-next.ensures.after c.in_err-entry.ensures.value in
    let p = err_from_is_err_and c.from_residual.result c.from_residual.ensures.1 in
    rw (p.1, p.2) (record { cases = line; after = refl; same = refl })

pub invariant_of-self : goal.invariant_of-self
invariant_of-self c =
    let self = c.args.self.now in
    let n = next-within self.sheet.now (self.at + c.empty_lines-empty.result) c.if-at-sheet.false in
    let e = c.line_at-next.ensures.after in
    record { within = omega arith; counted = omega arith }

pub returns : goal.returns
returns c =
    let self = c.args.self.now in
    let empty = c.empty_lines-empty.ensures.value ∙ ap empty_lines (take_rest self.sheet.now self.at) in
    let line = ahead-line self.sheet.now self.at self.passed _ self.within empty c.if-at-sheet.false _ _ _ c.line_at-next.ensures.value c.line_at-next.ensures.after c.in_ok-entry.ensures.value in
    let n = next-within self.sheet.now (self.at + c.empty_lines-empty.result) c.if-at-sheet.false in
    let e = c.line_at-next.ensures.after in
    record { cases = line; after = omega arith; same = refl }

-- What is read of a sheet, line by line. Assumes nothing.
use Rattle.std.proofs.Common.{◌≡◌, ℕ, suc, ◌+◌, ◌<◌, ◌≤◌, true, false, cond, eqb, ◌⊎◌, List, [], ◌∷◌, length, get_or, drop, Some, None, Option, Result, unwrap_or, sym, refl, ap, ◌∙◌, inl, inr, ⊎_elim, arith}
use Rattle.std.proofs.lemmas.List.{drop_all, drop_more, drop-drop, length-drop, get_or-drop}
use Rattle.std.proofs.lemmas.Bool.{eq-eqb, ne_eqb, eqb-false, cond-true, cond-false, cases_Bool}
use Rattle.term_sheet.specs.Fields.{before, behind}
use Rattle.term_sheet.specs.declared.fault.Fault.{Fault}
use Rattle.term_sheet.specs.Sheets.{SheetEntry, Reading, ends, lines, onto, empty_lines, next_line, reading, read_then, line_entry}
use Rattle.term_sheet.proofs.Cuts.{length-behind, behind-is}

cases-option : {A : Type 0} (o : Option A) → (o ≡ None) ⊎ ((x : A) × (o ≡ Some x))
cases-option None = inl refl
cases-option (Some x) = inr (x, refl)

-- empty lines, byte by byte
pub empty-nil : empty_lines [] ≡ 0
unfolding empty_lines
empty-nil = refl

pub empty-other : (b : ℕ) (bs : List ℕ) → (b ≡ 10 → ⊥) → empty_lines (b ∷ bs) ≡ 0
unfolding empty_lines
empty-other b bs other = cond-false _ _ _ (ne_eqb b 10 other)

pub empty-feed : (b : ℕ) (bs : List ℕ) → b ≡ 10 → empty_lines (b ∷ bs) ≡ empty_lines bs + 1
unfolding empty_lines
empty-feed b bs feed = cond-true _ _ _ (eq-eqb b 10 feed) ∙ omega arith

-- behind the empty lines another line begins, or the bytes end
pub empty-le : (bytes : List ℕ) → empty_lines bytes ≤ length bytes
unfolding empty_lines
empty-le [] = omega arith
empty-le (b ∷ bs) =
    let h = empty-le bs in
    elim (eqb b 10) as (λ t. cond t (suc (empty_lines bs)) 0 ≤ suc (length bs)) [ true ↦ omega arith | false ↦ omega arith ]

pub empty-ends : (bytes : List ℕ) → empty_lines bytes < length bytes → get_or bytes (empty_lines bytes) 0 ≡ 10 → ⊥
unfolding empty_lines
empty-ends [] h feed = omega arith
empty-ends (b ∷ bs) h feed =
    ⊎_elim
    (λ (e : eqb b 10 ≡ true).
    let c : empty_lines (b ∷ bs) ≡ suc (empty_lines bs) = cond-true _ _ _ e in
    empty-ends bs (omega arith) (sym (ap (λ n. get_or (b ∷ bs) n 0) c) ∙ feed))
    (λ (e : eqb b 10 ≡ false).
    let c : empty_lines (b ∷ bs) ≡ 0 = cond-false _ _ _ e in
    let d : b ≡ 10 = sym (ap (λ n. get_or (b ∷ bs) n 0) c) ∙ feed in
    eqb-false b 10 e d)
    (cases_Bool (eqb b 10))

-- empty lines are passed over
pub reading-past : (line at : ℕ) (bytes : List ℕ) → reading line at (lines bytes) ≡ reading (line + empty_lines bytes) (at + empty_lines bytes) (lines (drop (empty_lines bytes) bytes))
unfolding empty_lines lines reading
reading-past line at [] = refl
reading-past line at (b ∷ bs) =
    ⊎_elim
    (λ (e : eqb b 10 ≡ true).
    let c : empty_lines (b ∷ bs) ≡ suc (empty_lines bs) = cond-true _ _ _ e in
    let l : lines (b ∷ bs) ≡ [] ∷ lines bs = cond-true _ _ _ e in
    let h = reading-past (line + 1) (at + 1) bs in
    let p : line + 1 + empty_lines bs ≡ line + suc (empty_lines bs) = omega arith in
    let q : at + 1 + empty_lines bs ≡ at + suc (empty_lines bs) = omega arith in
    ap (reading line at) l ∙ h ∙ (λ i. reading (p i) (q i) (lines (drop (empty_lines bs) bs)))
    ∙ sym (ap (λ n. reading (line + n) (at + n) (lines (drop n (b ∷ bs)))) c))
    (λ (e : eqb b 10 ≡ false).
    let c : empty_lines (b ∷ bs) ≡ 0 = cond-false _ _ _ e in
    let p : line ≡ line + 0 = omega arith in
    let q : at ≡ at + 0 = omega arith in
    (λ i. reading (p i) (q i) (lines (b ∷ bs))) ∙ sym (ap (λ n. reading (line + n) (at + n) (lines (drop n (b ∷ bs)))) c))
    (cases_Bool (eqb b 10))

-- the first line, and the lines behind its line feed
lines_step : (b : ℕ) (bs : List ℕ) → onto b (lines bs) ≡ (b ∷ before 10 bs) ∷ lines (unwrap_or (behind 10 bs) []) → lines (b ∷ bs) ≡ before 10 (b ∷ bs) ∷ lines (unwrap_or (behind 10 (b ∷ bs)) [])
unfolding lines before behind
lines_step b bs more =
    ⊎_elim
    (λ (e : eqb b 10 ≡ true).
    cond-true _ _ _ e ∙ sym (λ i. cond-true _ [] (b ∷ before 10 bs) e i ∷ lines (unwrap_or (cond-true _ (Some bs) (behind 10 bs) e i) [])))
    (λ (e : eqb b 10 ≡ false).
    cond-false _ _ _ e ∙ more ∙ sym (λ i. cond-false _ [] (b ∷ before 10 bs) e i ∷ lines (unwrap_or (cond-false _ (Some bs) (behind 10 bs) e i) [])))
    (cases_Bool (eqb b 10))

pub lines-first : (b : ℕ) (bs : List ℕ) → lines (b ∷ bs) ≡ before 10 (b ∷ bs) ∷ lines (unwrap_or (behind 10 (b ∷ bs)) [])
unfolding lines before behind
lines-first b [] = lines_step b [] refl
lines-first b (c ∷ cs) = lines_step b (c ∷ cs) (ap (onto b) (lines-first c cs))

-- a line that is not empty, and what is read behind it
pub reading-first : (line at b : ℕ) (bs : List ℕ) → (b ≡ 10 → ⊥) → reading line at (lines (b ∷ bs)) ≡
    read_then (line_entry line at (before 10 (b ∷ bs))) (reading (line + 1) (at + length (before 10 (b ∷ bs)) + 1) (lines (unwrap_or (behind 10 (b ∷ bs)) [])))
unfolding before reading
reading-first line at b bs other =
    let rest = lines (unwrap_or (behind 10 (b ∷ bs)) []) in
    let e : before 10 (b ∷ bs) ≡ b ∷ before 10 bs = cond-false _ _ _ (ne_eqb b 10 other) in
    ap (reading line at) (lines-first b bs ∙ ap (λ (l : List ℕ). l ∷ rest) e)
    ∙ sym (ap (λ (l : List ℕ). read_then (line_entry line at l) (reading (line + 1) (at + length l + 1) rest)) e)

-- where the next line begins
module _ (sheet : List ℕ) (at : ℕ) (h : at < length sheet) where
  pub next-within : (at < next_line sheet at) × (next_line sheet at ≤ length sheet)
  next-within = ⊎_elim
      (λ (e : behind 10 (drop at sheet) ≡ None). let l = ap (λ (o : Option (List ℕ)). length (unwrap_or o [])) e in (omega arith, omega arith))
      (λ (p : (rest : List ℕ) × (behind 10 (drop at sheet) ≡ Some rest)).
      let l = ap (λ (o : Option (List ℕ)). length (unwrap_or o [])) p.1 in
      let n = length-behind 10 (drop at sheet) p.0 p.1 in
      let d = length-drop at sheet in
      (omega arith, omega arith))
      (cases-option (behind 10 (drop at sheet)))

  -- what is read from the next line on
  pub reading-next : (line : ℕ) → reading line (at + length (before 10 (drop at sheet)) + 1) (lines (unwrap_or (behind 10 (drop at sheet)) [])) ≡ reading line (next_line sheet at) (lines (drop (next_line sheet at) sheet))
  unfolding lines reading
  reading-next line = ⊎_elim
      (λ (e : behind 10 (drop at sheet) ≡ None).
      let n : next_line sheet at ≡ length sheet = let l = ap (λ (o : Option (List ℕ)). length (unwrap_or o [])) e in omega arith in
      ap (λ (o : Option (List ℕ)). reading line (at + length (before 10 (drop at sheet)) + 1) (lines (unwrap_or o []))) e
      ∙ sym (ap (λ k. reading line k (lines (drop k sheet))) n ∙ ap (λ (l : List ℕ). reading line (length sheet) (lines l)) (drop_all (length sheet) sheet (omega arith))))
      (λ (p : (rest : List ℕ) × (behind 10 (drop at sheet) ≡ Some rest)).
      let m = at + length (before 10 (drop at sheet)) + 1 in
      let n : next_line sheet at ≡ at + length (before 10 (drop at sheet)) + 1 =
      let l = ap (λ (o : Option (List ℕ)). length (unwrap_or o [])) p.1 in
      let k = length-behind 10 (drop at sheet) p.0 p.1 in
      let d = length-drop at sheet in
      omega arith in
      let k : at + (length (before 10 (drop at sheet)) + 1) ≡ at + length (before 10 (drop at sheet)) + 1 = omega arith in
      let r : p.0 ≡ drop (at + length (before 10 (drop at sheet)) + 1) sheet = behind-is 10 (drop at sheet) p.0 p.1 ∙ drop-drop (length (before 10 (drop at sheet)) + 1) at sheet ∙ ap (λ j. drop j sheet) k in
      ap (λ (o : Option (List ℕ)). reading line m (lines (unwrap_or o []))) p.1
      ∙ ap (λ (l : List ℕ). reading line m (lines l)) r
      ∙ sym (ap (λ j. reading line j (lines (drop j sheet))) n))
      (cases-option (behind 10 (drop at sheet)))

  pub reading-line : (line : ℕ) → (get_or sheet at 0 ≡ 10 → ⊥) → reading line at (lines (drop at sheet)) ≡
      read_then (line_entry line at (before 10 (drop at sheet))) (reading (line + 1) (next_line sheet at) (lines (drop (next_line sheet at) sheet)))
  reading-line line other =
      let d = drop_more sheet at 0 h in
      let f : List ℕ → Reading = λ bs. read_then (line_entry line at (before 10 bs)) (reading (line + 1) (at + length (before 10 bs) + 1) (lines (unwrap_or (behind 10 bs) []))) in
      ap (λ (l : List ℕ). reading line at (lines l)) d ∙ reading-first line at (get_or sheet at 0) (drop (at + 1) sheet) other ∙ sym (ap f d)
      ∙ ap (read_then (line_entry line at (before 10 (drop at sheet)))) (reading-next (line + 1))

-- what a reader has before it, where so many empty lines come first: no entry more, or that of the line behind them
module _ (sheet : List ℕ) (at passed empty : ℕ) (within : at ≤ length sheet) (is : empty ≡ empty_lines (drop at sheet)) where
  past : reading (passed + 1) at (lines (drop at sheet)) ≡ reading (passed + empty + 1) (at + empty) (lines (drop (at + empty) sheet))
  past =
      let e : passed + 1 + empty ≡ passed + empty + 1 = omega arith in
      reading-past (passed + 1) at (drop at sheet)
      ∙ ap (λ n. reading (passed + 1 + n) (at + n) (lines (drop n (drop at sheet)))) (sym is)
      ∙ (λ i. reading (e i) (at + empty) (lines (drop-drop empty at sheet i)))

  pub ahead-ends : length sheet ≤ at + empty → reading (passed + 1) at (lines (drop at sheet)) ≡ ends
  unfolding lines reading
  ahead-ends h = past ∙ ap (λ (l : List ℕ). reading (passed + empty + 1) (at + empty) (lines l)) (drop_all (at + empty) sheet h)

  pub ahead-line : at + empty < length sheet → (bytes : List ℕ) (next : ℕ) (read : Result SheetEntry Fault) → bytes ≡ before 10 (drop (at + empty) sheet) → next ≡ next_line sheet (at + empty) → read ≡ line_entry (passed + empty + 1) (at + empty) bytes →
      reading (passed + 1) at (lines (drop at sheet)) ≡ read_then read (reading (passed + empty + 1 + 1) next (lines (drop next sheet)))
  ahead-line h bytes next read front after entry =
      let other : get_or sheet (at + empty) 0 ≡ 10 → ⊥ = λ feed.
      let d = length-drop at sheet in
      empty-ends (drop at sheet) (omega arith) (ap (λ k. get_or (drop at sheet) k 0) (sym is) ∙ get_or-drop at sheet empty 0 ∙ feed) in
      let e : read ≡ line_entry (passed + empty + 1) (at + empty) (before 10 (drop (at + empty) sheet)) = entry ∙ ap (line_entry (passed + empty + 1) (at + empty)) front in
      past ∙ reading-line sheet (at + empty) h (passed + empty + 1) other
      ∙ sym (λ i. read_then (e i) (reading (passed + empty + 1 + 1) (after i) (lines (drop (after i) sheet))))

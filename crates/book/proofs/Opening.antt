-- Pages opened one after the other, and a run to the end. Assumes nothing.
use Rattle.std.proofs.Common.{◌≡◌, ℕ, ◌+◌, ◌%◌, ◌<◌, ◌≤◌, min, Bool, true, false, cond, eqb, List, [], ◌∷◌, ◌++◌, length, get_or, drop, Ok, sym, refl, ap, ◌∙◌, arith}
use Rattle.std.proofs.lemmas.List.{at_drop_more, at_drop_all}
use Rattle.matchers.specs.declared.matcher.Matcher as matcher
use Rattle.galleys.specs.declared.galley.Galley as galley
use Rattle.rules.specs.Words.{count}
use Rattle.rules.proofs.Counts.{count_left, count_most}
use Rattle.indexer.specs.declared.index.Indexer.{Indexer}
use Rattle.indexer.specs.Machine.{Machine, Answer, owing, step, after_units}
use Rattle.indexer.specs.Machine.Call.{page, run}
use Rattle.indexer.specs.Called.{view, Sound, Called}
use Rattle.book.specs.Pages.{behind_feeds}
use Rattle.term_sheet.specs.Sheets.{sheet_reading}
use Rattle.term_sheet.specs.Entered.{first_fault, entered_all, Entered}
use Rattle.book.specs.Book.{opened, finished, Opened, Indexed}

-- i has become j by the pages so far, and `rest` is left to open
pub record Going {M G : Type 0} (matching : matcher.Ghosts M) (holding : galley.Ghosts G) (i : Indexer M G) (starts : List ℕ) (j : Indexer M G) (rest : List ℕ) : Type 0 where
  pub follows : opened (matching.fit i.matcher) holding.shows (view holding i) starts ≡ opened (matching.fit i.matcher) holding.shows (view holding j) rest
  pub matcher : j.matcher ≡ i.matcher
  pub galley : j.galley ≡ i.galley
  pub job : j.job ≡ i.job
  pub sound : Sound matching holding i → Sound matching holding j

-- one page more
pub going_more : {M G : Type 0} (matching : matcher.Ghosts M) (holding : galley.Ghosts G) (i : Indexer M G) (starts : List ℕ) (j : Indexer M G) (n at : ℕ) (a : Answer) (k : Indexer M G) →
    n < length starts → at ≡ get_or starts n 0 → Going matching holding i starts j (drop n starts) → Called matching holding j (page at) a k → Going matching holding i starts k (drop (n + 1) starts)
going_more matching holding i starts j n at a k below is going called =
    let more : opened (matching.fit i.matcher) holding.shows (view holding j) (drop n starts) ≡ opened (matching.fit i.matcher) holding.shows (step (matching.fit i.matcher) holding.shows (view holding j) (page (get_or starts n 0))) (drop (n + 1) starts) =
    at_drop_more (λ xs. opened (matching.fit i.matcher) holding.shows (view holding j) xs) starts n 0 below in
    let moved : step (matching.fit i.matcher) holding.shows (view holding j) (page (get_or starts n 0)) ≡ view holding k =
    ap (λ p. step (matching.fit i.matcher) holding.shows (view holding j) (page p)) (sym is) ∙ sym (called.follows ∙ ap (λ m. step (matching.fit m) holding.shows (view holding j) (page at)) going.matcher) in
    record {
      follows = going.follows ∙ more ∙ ap (λ m. opened (matching.fit i.matcher) holding.shows m (drop (n + 1) starts)) moved;
      matcher = called.matcher refl ∙ going.matcher;
      galley = called.galley ∙ going.galley;
      job = called.job ∙ going.job;
      sound = λ right. called.sound (going.sound right);
    }

-- a run of at least 4096 units does all that is owed
pub run-all : (m : Machine) (u : ℕ) → 4096 ≤ u → min u (owing m) ≡ owing m
run-all m u h = let b = count_most m.owed 4096 in omega arith

pub finished-owes : (m : Machine) → owing (finished m) ≡ 0
finished-owes m = let e = count_left m.owed (owing m) 4096 in omega arith

-- one byte further
pub feeds-more : (text xs : List ℕ) (i : ℕ) → i < length text → (here : ℕ) → here ≡ get_or text i 0 →
    xs ++ behind_feeds i (drop i text) ≡ cond (eqb here 12) ((xs ++ (i + 1) ∷ []) ++ behind_feeds (i + 1) (drop (i + 1) text)) (xs ++ behind_feeds (i + 1) (drop (i + 1) text))
unfolding behind_feeds
feeds-more text xs i l here is =
    at_drop_more (λ bs. xs ++ behind_feeds i bs) text i 0 l
    ∙ ap (λ b. xs ++ cond (eqb b 12) ((i + 1) ∷ behind_feeds (i + 1) (drop (i + 1) text)) (behind_feeds (i + 1) (drop (i + 1) text))) (sym is)
    ∙ split (eqb here 12)
  where
    split : (b : Bool) → xs ++ cond b ((i + 1) ∷ behind_feeds (i + 1) (drop (i + 1) text)) (behind_feeds (i + 1) (drop (i + 1) text))
        ≡ cond b ((xs ++ (i + 1) ∷ []) ++ behind_feeds (i + 1) (drop (i + 1) text)) (xs ++ behind_feeds (i + 1) (drop (i + 1) text))
    split true = sym (Rattle.std.proofs.lemmas.List.append_assoc xs ((i + 1) ∷ []) (behind_feeds (i + 1) (drop (i + 1) text)))
    split false = refl

pub feeds-all : (text xs : List ℕ) (i : ℕ) → length text ≤ i → xs ++ behind_feeds i (drop i text) ≡ xs
unfolding behind_feeds
feeds-all text xs i h = at_drop_all (λ bs. xs ++ behind_feeds i bs) text i h ∙ Rattle.std.proofs.lemmas.List.append-nil xs

-- pages, entries and a run to the end
module _ {M G : Type 0} (matching : matcher.Ghosts M) (holding : galley.Ghosts G) (i j k l : Indexer M G) (starts sheet : List ℕ) (u : ℕ) (a : Answer) where
  pub indexed : 4096 ≤ u → Opened matching holding i starts j → Entered matching holding j (sheet_reading sheet) (Ok tt) k → Called matching holding k (run u) a l → Indexed matching holding i starts sheet (Ok tt) l
  indexed enough pages entered ran =
      let before : entered_all (matching.fit j.matcher) holding.shows (view holding j) (sheet_reading sheet) ≡ entered_all (matching.fit i.matcher) holding.shows (opened (matching.fit i.matcher) holding.shows (view holding i) starts) (sheet_reading sheet) =
      ap (λ m. entered_all (matching.fit m) holding.shows (view holding j) (sheet_reading sheet)) pages.matcher ∙ ap (λ m. entered_all (matching.fit i.matcher) holding.shows m (sheet_reading sheet)) pages.follows in
      let all : view holding l ≡ finished (view holding k) = ran.follows ∙ ap (λ n. after_units (view holding k) n) (run-all (view holding k) u enough) in
      let last : entered_all (matching.fit i.matcher) holding.shows (opened (matching.fit i.matcher) holding.shows (view holding i) starts) (sheet_reading sheet) ≡ view holding k = sym (entered.follows ∙ before) in
      let same : k.matcher ≡ i.matcher = entered.matcher ∙ pages.matcher in
      record {
        answers = entered.answers ∙ ap (λ m. first_fault (matching.fit m) holding.shows (view holding j) (sheet_reading sheet)) pages.matcher ∙ ap (λ m. first_fault (matching.fit i.matcher) holding.shows m (sheet_reading sheet)) pages.follows;
        follows = all ∙ ap finished (entered.follows ∙ before);
        paid = λ _. ap owing all ∙ finished-owes (view holding k);
        fits = λ n m. ran.fits n m ∙ ap (λ x. matching.fit x n m) same;
        fault = λ e. absurd (let z : ◌≡◌ {A = ℕ} 0 1 = cc in omega arith);
        idle = λ none. ran.matcher (run-all (view holding k) u enough ∙ sym (ap owing last) ∙ none) ∙ same;
        holds = λ _ right x owes at. ran.holds (entered.sound (pages.sound right)) x (sym (ap (λ m. m.owed x) last) ∙ owes) (sym (ap (λ m. count m.owed x + 1) last) ∙ at ∙ ap owing last ∙ sym (run-all (view holding k) u enough)) ∙ sym (ap (λ m. m.stands (x % 16)) last);
        galley = ran.galley ∙ entered.galley ∙ pages.galley;
        job = ran.job ∙ entered.job ∙ pages.job;
        sound = λ right. ran.sound (entered.sound (pages.sound right));
      }

-- What becomes of the runs that a run touches: what the first holds before it, the run, and what the last holds after.
use Rattle.snippet_grid.proofs.Common.{common_steps, ◌≡◌, ℕ, suc, ◌+◌, ◌-◌, ◌<◌, ◌≤◌, List, [], ◌∷◌, ◌++◌, length, take, drop, set, get_or, refl, sym, ap, ◌∙◌}
use Rattle.snippet_grid.proofs.Common.{arith, false, inl, inr, subst, All, if◌then◌else◌, same_lists, take_all, take_more, get_or_default, get_or-take}
use Rattle.snippet_grid.proofs.Common.{get_or-drop, length-drop, All-cons, All-nil, cases_lt, cases_eq, true≢false, Cell, SPACE, IsRun, IsRow, IsPart}
use Rattle.snippet_grid.proofs.Common.{BeginsWith, ShowsMore, AddsRun, EndsBy, Precedes, Differ, Continues, Touches, IsClear, IsJoined, AreTouchedRuns, IsFront}
use Rattle.snippet_grid.proofs.Common.{IsBack, ArePieces, IsPut, run_chars, run_cell, holds, painted_over, shown_cell, Run}
use Rattle.snippet_grid.proofs.ShownLemmas.{painted-append, run_cell-grown, ShowsMore-joined, AddsRun-joined, pick, cell_same, holds_inside, holds_elsewhere}
use Rattle.snippet_grid.proofs.ShownLemmas.{AddsRun-pushed, ShowsMore-pushed, holds_before, holds-after}
use Rattle.snippet_grid.proofs.CopyLemmas.{shown_past}
use Rattle.snippet_grid.proofs.PutLemmas.{AreOrdered, AreApart, IsRow-added, painted_elsewhere}
use Rattle.snippet_grid.proofs.RowWoven.{painted_unheld}
use Rattle.snippet_grid.proofs.RunLemmas.{stretch, below_take}
use Rattle.snippet_grid.proofs.TouchLemmas.{cases_held, touched_stretch, IsPut-touched}

-- a part of a run shows what the run shows where it holds the same
part_shows : (text : List ℕ) (run part : Run) (from to r c : ℕ) (d : Cell) → IsPart text run from to part → run.cell ≤ from
    → to ≤ run.cell + run.count → (run.cell ≤ c → c < run.cell + run.count → (from ≤ c) × (c < to))
    → (if holds part r c then run_cell text part c else d) ≡ (if holds run r c then run_cell text run c else d)
part_shows text run part from to r c d cut low high same =
    let x = run_cell text part c in
    let y = run_cell text run c in
    let cs = run_chars text run in
    elim (cases_held run r c) [
      | inl held ↦
          let there = same held.low held.high in
          let yes = holds_inside part r c (cut.row ∙ held.row_is) (omega (arith, cut.cell, there.0)) (omega (arith, cut.cell, cut.count, there.1)) in
          let index : (from - run.cell) + (c - part.cell) ≡ c - run.cell = omega (arith, cut.cell, there.0) in
          let ch : x.ch ≡ y.ch = ap (λ (t : List ℕ). get_or t (c - part.cell) 32) cut.chars_are
          ∙ get_or-take (to - from) (drop (from - run.cell) cs) (c - part.cell) 32 (omega (arith, cut.cell, there.0, there.1))
          ∙ get_or-drop (from - run.cell) cs (c - part.cell) 32 ∙ ap (λ k. get_or cs k 32) index in
          pick x d yes ∙ cell_same x y ch cut.role cut.link ∙ sym (pick y d (holds_inside run r c held.row_is held.low held.high))
      | inr free ↦ elim (cases_held part r c) [
        | inl held ↦ absurd (true≢false (sym (holds_inside run r c (sym cut.row ∙ held.row_is) (omega (arith, cut.cell, held.low))
            (omega (arith, cut.cell, cut.count, held.high))) ∙ free))
        | inr none ↦ pick x d none ∙ sym (pick y d free)
      ]
    ]

unheld_before : (r c : ℕ) (runs : List Run) → All (λ x. x.row ≡ r → c < x.cell) runs → All (λ x. holds x r c ≡ false) runs
unheld_before r c runs all = grind (arith, common_steps, holds_before, holds_elsewhere)

unheld_after : (r c : ℕ) (runs : List Run) → All (λ x. x.row ≡ r → x.cell + x.count ≤ c) runs → All (λ x. holds x r c ≡ false) runs
unheld_after r c runs all = grind (arith, common_steps, holds-after, holds_elsewhere)

-- no runs are a row
pub IsRow-none : (text : List ℕ) (row : ℕ) → IsRow text row []
IsRow-none text row = grind (arith, common_steps)

IsRow-one : (text : List ℕ) (row : ℕ) (run : Run) → IsRun text run → run.row ≡ row → IsRow text row (run ∷ [])
IsRow-one text row run is here = grind (arith, common_steps, All-cons, All-nil)

-- nothing stands before the run
pub IsFront-none : (text : List ℕ) (runs : List Run) (run : Run) → All (λ x. run.cell ≤ x.cell) runs → IsFront text runs run []
IsFront-none text runs run all = grind (arith, common_steps, IsRow-none, run.row, painted_unheld, unheld_before, All-nil)

-- where the first run begins after a cell, each does
pub begin_after : (text : List ℕ) (run : Run) (runs : List Run) (n : ℕ) (d : Run) → AreTouchedRuns text run runs → n ≤ (get_or runs 0 d).cell
    → All (λ x. n ≤ x.cell) runs
begin_after text run runs n d is first =
    λ k e within.
    elim (cases_eq k 0) [
      | inl zero ↦ subst (λ i. n ≤ (get_or runs i e).cell) (sym zero) (subst (λ (x : Run). n ≤ x.cell) (get_or_default runs 0 d e (omega arith)) first)
      | inr other ↦
          let one : (get_or runs 0 e).row ≡ (get_or runs k e).row = is.is_row.in_row 0 e (omega arith) ∙ sym (is.is_row.in_row k e within) in
          let low : n ≤ (get_or runs 0 e).cell = subst (λ (x : Run). n ≤ x.cell) (get_or_default runs 0 d e (omega arith)) first in
          omega (arith, low, (is.is_row.ordered 0 k e (omega arith) within).cells one)
    ]

-- where the last run ends before a cell, each does
pub end_before : (text : List ℕ) (run : Run) (runs : List Run) (n i : ℕ) (d : Run) → AreTouchedRuns text run runs → i + 1 ≡ length runs
    → (get_or runs i d).cell + (get_or runs i d).count ≤ n → All (λ x. x.cell + x.count ≤ n) runs
end_before text run runs n i d is is_last last =
    λ k e within.
    let high : (get_or runs i e).cell + (get_or runs i e).count ≤ n = subst (λ (x : Run). x.cell + x.count ≤ n)
    (get_or_default runs i d e (omega arith)) last in
    elim (cases_eq k i) [
      | inl same ↦ subst (λ j. (get_or runs j e).cell + (get_or runs j e).count ≤ n) (sym same) high
      | inr other ↦
          let one : (get_or runs k e).row ≡ (get_or runs i e).row = is.is_row.in_row k e within ∙ sym (is.is_row.in_row i e (omega arith)) in
          omega (arith, high, (is.is_row.ordered k i e (omega arith) (omega arith)).cells one)
    ]

-- the first run begins before the run
front_first : (text : List ℕ) (first : Run) (runs : List Run) (run left : Run) → AreTouchedRuns text run (first ∷ runs) → first.cell < run.cell
    → IsPart text first first.cell run.cell left → IsFront text (first ∷ runs) run (left ∷ [])
front_first text first runs run left is before cut =
    let touch = is.touch 0 first (omega arith) in
    record {
      is_row = IsRow-one text run.row left cut.is_run (cut.row ∙ touch.row);
      shows = λ r c below.
          let rest : All (λ x. holds x r c ≡ false) runs = unheld_before r c runs (λ k d within here.
          let next = get_or runs k d in
          let one : first.row ≡ next.row = touch.row ∙ sym (is.is_row.in_row (suc k) d (omega arith)) in
          omega (arith, touch.reaches, (is.is_row.ordered 0 (suc k) d (omega arith) (omega arith)).cells one)) in
          part_shows text first left first.cell run.cell r c SPACE cut (omega arith) touch.reaches (λ low high. (low, below))
          ∙ sym (painted_unheld text r c (if holds first r c then run_cell text first c else SPACE) runs rest);
      ends = All-cons (λ x. x.cell + x.count ≤ run.cell) left [] (omega (arith, cut.cell, cut.count)) (All-nil _);
      follows = λ x all.
          let one : Precedes x first = all 0 first (omega arith) in
          All-cons (λ y. Precedes x y) left [] record {
            rows = omega (arith, cut.row, one.rows);
            cells = λ h.
                omega (arith, cut.cell, one.cells (h ∙ cut.row));
          } (All-nil _);
      apart_follows = λ x all. All-cons (λ y. Differ x y) left [] (λ at.
          all 0 first (omega arith) record { row = at.row ∙ cut.row; touches = at.touches ∙ cut.cell; role = at.role ∙ cut.role; link = at.link ∙ cut.link })
          (All-nil _);
      few = omega arith;
      one = omega arith;
    }

-- the front of the first touched run is what of it stands left of the run that is put in
pub IsFront-some : (text : List ℕ) (runs : List Run) (run first left : Run) → AreTouchedRuns text run runs → 0 < length runs → first ≡ get_or runs 0 first
    → first.cell < run.cell → IsPart text first first.cell run.cell left → IsFront text runs run (left ∷ [])
IsFront-some text [] run first left is some read before cut = absurd (omega arith)
IsFront-some text (x ∷ runs) run first left is some read before cut =
    front_first text x runs run left is (subst (λ (y : Run). y.cell < run.cell) read before) (subst (λ (y : Run). IsPart text y y.cell run.cell left) read cut)

-- nothing stands after the run
pub IsBack-none : (text : List ℕ) (runs : List Run) (run : Run) → All (λ x. x.cell + x.count ≤ run.cell + run.count) runs → IsBack text runs run []
IsBack-none text runs run all = grind (arith, common_steps, IsRow-none, run.row, painted_unheld, unheld_after, All-nil)

-- the last run ends after the run
pub IsBack-some : (text : List ℕ) (runs : List Run) (run last right : Run) (i from to : ℕ) → AreTouchedRuns text run runs → i + 1 ≡ length runs
    → last ≡ get_or runs i last → from ≡ run.cell + run.count → to ≡ last.cell + last.count → from < to → IsPart text last from to right
    → IsBack text runs run (right ∷ [])
IsBack-some text runs run last right i from to is is_last read is_from is_to past cut =
    let within : i < length runs = omega arith in
    let split : runs ≡ take i runs ++ last ∷ [] = sym (take_all (i + 1) runs (omega arith)) ∙ take_more runs i last within
    ∙ ap (λ x. take i runs ++ x ∷ []) (sym read) in
    let touch = is.touch i last within in
    let row : last.row ≡ run.row = ap (λ (x : Run). x.row) read ∙ touch.row in
    let starts : last.cell ≤ from = omega (arith, is_from, touch.starts, ap (λ (x : Run). x.cell) read) in
    record {
      is_row = IsRow-one text run.row right cut.is_run (cut.row ∙ row);
      shows = λ r c after.
          let front : All (λ x. holds x r c ≡ false) (take i runs) = unheld_after r c (take i runs) (λ k d inside here.
          let short : k < i = below_take runs i k inside in
          let seen : get_or (take i runs) k d ≡ get_or runs k d = get_or-take i runs k d short in
          let one : (get_or runs k d).row ≡ (get_or runs i d).row = is.is_row.in_row k d (omega arith) ∙ sym (is.is_row.in_row i d within) in
          let last_d : get_or runs i d ≡ last = get_or_default runs i d last within ∙ sym read in
          let end : (get_or runs k d).cell + (get_or runs k d).count ≤ last.cell = subst
          (λ (x : Run). (get_or runs k d).cell + (get_or runs k d).count ≤ x.cell) last_d ((is.is_row.ordered k i d short within).cells one) in
          subst (λ (x : Run). x.cell + x.count ≤ c) (sym seen) (omega (arith, end, starts, is_from, after))) in
          part_shows text last right from to r c SPACE cut starts (omega (arith, is_to))
          (λ low high. (omega (arith, is_from, after), omega (arith, is_to, high)))
          ∙ sym (ap (λ (l : List Run). shown_cell text l r c) split ∙ painted-append text r c SPACE (take i runs) (last ∷ []) ∙ ap (λ (d : Cell).
          if holds last r c then run_cell text last c else d) (painted_unheld text r c SPACE (take i runs) front));
      starts = All-cons (λ x. run.cell + run.count ≤ x.cell) right [] (omega (arith, cut.cell, is_from)) (All-nil _);
      ends = λ n all.
          let high : last.cell + last.count ≤ n = subst (λ (x : Run). x.cell + x.count ≤ n) (sym read) (all i last within) in
          All-cons (λ x. x.cell + x.count ≤ n) right [] (omega (arith, cut.cell, cut.count, is_to, high)) (All-nil _);
      after = λ y all.
          let one : Precedes last y = subst (λ x. Precedes x y) (sym read) (all i last within) in
          All-cons (λ x. Precedes x y) right [] record {
            rows = omega (arith, cut.row, one.rows);
            cells = λ h.
                omega (arith, cut.cell, cut.count, is_to, one.cells (sym cut.row ∙ h));
          } (All-nil _);
      apart_after = λ y all.
          let one : Differ last y = subst (λ x. Differ x y) (sym read) (all i last within) in
          All-cons (λ x. Differ x y) right [] (λ at. one record {
            row = sym cut.row
                ∙ at.row;
            touches = omega (arith, cut.cell, cut.count, is_to, at.touches);
            role = sym cut.role ∙ at.role;
            link = sym cut.link ∙ at.link;
          })
          (All-nil _);
      few = omega arith;
      one = omega arith;
    }

-- what stands before the run, with the run
record IsBegun (old new : List ℕ) (front begun : List Run) (run : Run) : Type 0 where
  is_row : IsRow new run.row begun
  shows : ShowsMore old new front begun run
  ends : EndsBy (run.cell + run.count) begun
  follows : (x : Run) → IsClear x run → All (λ y. Precedes x y) front → All (λ y. Precedes x y) begun
  apart_follows : (x : Run) → IsClear x run → All (λ y. Differ x y) front → All (λ y. Differ x y) begun
  after : (y : Run) → IsClear run y → All (λ x. Precedes x y) begun
  apart_after : (y : Run) → IsClear run y → All (λ x. Differ x y) begun
  few : length begun ≤ length front + 1

begun_by : (old new : List ℕ) (runs front begun : List Run) (run : Run) → IsRun old run → IsFront old runs run front → ShowsMore old new front begun run
    → All (λ x. IsRun new x) begun → AddsRun front begun run → IsBegun old new front begun run
begun_by old new runs front begun run is is_front shows are adds =
    record {
      is_row = IsRow-added old new run.row run.cell front begun run is_front.is_row is_front.ends (omega arith) refl are adds;
      shows = shows;
      ends = adds.ends (run.cell + run.count) (λ k d within. omega (arith, is_front.ends k d within)) (omega arith);
      follows = λ x clear all. adds.follows x all record { rows = clear.rows; cells = λ h. omega (arith, clear.cells h) };
      apart_follows = λ x clear all. adds.apart_follows x all (λ at. absurd (omega (arith, clear.cells at.row, at.touches)));
      after = λ y clear. adds.after y (λ k d within.
          let here = is_front.is_row.in_row k d within in
          record { rows = omega (arith, here, clear.rows); cells = λ h. omega (arith, is_front.ends k d within, clear.cells (sym here ∙ h)) }) record
          { rows = clear.rows; cells = λ h. omega (arith, clear.cells h) };
      apart_after = λ y clear. adds.apart_after y (λ k d within at.
          let here = is_front.is_row.in_row k d within in
          absurd (omega (arith, is_front.ends k d within, at.touches, clear.cells (sym here ∙ at.row)))) (λ at.
          absurd (omega (arith, clear.cells at.row, at.touches)));
      few = adds.count;
    }

-- the pieces show the run over what the touched runs show
pieces_show : (t0 t1 t2 : List ℕ) (runs front begun pieces back : List Run) (run : Run) → AreTouchedRuns t0 run runs → IsFront t0 runs run front
    → IsBack t0 runs run back → ShowsMore t0 t1 front begun run → ((r c : ℕ) → shown_cell t2 pieces r c ≡ painted_over t0 r c (shown_cell t1 begun r c) back)
    → ShowsMore t0 t2 runs pieces run
pieces_show t0 t1 t2 runs front begun pieces back run touched is_front is_back shows over =
    λ r c.
    let x = run_cell t0 run c in
    let was = shown_cell t0 runs r c in
    let left = shown_cell t0 front r c in
    elim (cases_lt c run.cell) [
      | inl below ↦
          let no = holds_before run r c below in
          let no_back = unheld_before r c back (λ k d within here. omega (arith, is_back.starts k d within)) in
          over r c ∙ painted_unheld t0 r c (shown_cell t1 begun r c) back no_back ∙ shows r c ∙ pick x left no ∙ is_front.shows r c below ∙ sym (pick x was no)
      | inr low ↦
          let blank : left ≡ SPACE = shown_past t0 r c run.cell SPACE front is_front.ends low in
          elim (cases_lt c (run.cell + run.count)) [
            | inl high ↦
                let no_back = unheld_before r c back (λ k d within here. omega (arith, is_back.starts k d within)) in
                let same : shown_cell t2 pieces r c ≡ (if holds run r c then x else left) = over r c
                ∙ painted_unheld t0 r c (shown_cell t1 begun r c) back no_back ∙ shows r c in
                elim (cases_eq run.row r) [
                  | inl here ↦
                      let yes = holds_inside run r c here low high in
                      same ∙ pick x left yes ∙ sym (pick x was yes)
                  | inr other ↦
                      let no = holds_elsewhere run r c other in
                      let none : was ≡ SPACE = painted_elsewhere t0 r c SPACE runs (λ k d within h. other (sym (touched.is_row.in_row k d within) ∙ h)) in
                      same ∙ pick x left no ∙ blank ∙ sym none ∙ sym (pick x was no)
                ]
            | inr past ↦
                let no = holds-after run r c past in
                let begun_is : shown_cell t1 begun r c ≡ SPACE = shows r c ∙ pick x left no ∙ blank in
                over r c ∙ ap (λ (d : Cell). painted_over t0 r c d back) begun_is ∙ is_back.shows r c past ∙ sym (pick x was no)
          ]
    ]

-- with nothing after the run
pub ArePieces-two : (old new : List ℕ) (runs front pieces : List Run) (run : Run) → AreTouchedRuns old run runs → IsRun old run
    → IsFront old runs run front → IsBack old runs run [] → ShowsMore old new front pieces run → All (λ x. IsRun new x) pieces
    → AddsRun front pieces run → ArePieces old new runs pieces run
ArePieces-two old new runs front pieces run touched is is_front is_back shows are adds =
    let begun = begun_by old new runs front pieces run is is_front shows are adds in
    record {
      is_row = begun.is_row;
      shows = pieces_show old new new runs front pieces pieces [] run touched is_front is_back shows (λ r c. refl);
      ends = λ n all high k d within. omega (arith, begun.ends k d within);
      follows = λ x clear all. begun.follows x clear (is_front.follows x all);
      apart_follows = λ x clear all. begun.apart_follows x clear (is_front.apart_follows x all);
      after = λ y clear all. begun.after y clear;
      apart_after = λ y clear all. begun.apart_after y clear;
      few = omega (arith, begun.few, is_front.few);
    }

-- where nothing is touched, the run alone
pub ArePieces-alone : (text : List ℕ) (run : Run) → IsRun text run → ArePieces text text [] (run ∷ []) run
ArePieces-alone text run is =
    grind (arith, common_steps, IsRow-none, run.row, All-nil, ArePieces-two, IsFront-none, IsBack-none, ShowsMore-pushed, All-cons, AddsRun-pushed)

-- with what the last run holds after it
pub ArePieces-three : (t0 t1 t2 : List ℕ) (runs front begun pieces : List Run) (run right : Run) → AreTouchedRuns t0 run runs → IsRun t0 run
    → IsFront t0 runs run front → IsBack t0 runs run (right ∷ []) → ShowsMore t0 t1 front begun run → All (λ x. IsRun t1 x) begun
    → AddsRun front begun run → BeginsWith t0 t1 → ShowsMore t1 t2 begun pieces right → All (λ x. IsRun t2 x) pieces → AddsRun begun pieces right
    → ArePieces t0 t2 runs pieces run
ArePieces-three t0 t1 t2 runs front begun pieces run right touched is is_front is_back shows are adds grows shows_more are_more adds_more =
    let begins = begun_by t0 t1 runs front begun run is is_front shows are adds in
    let is_right : IsRun t0 right = is_back.is_row.are_runs 0 right (omega arith) in
    let row : right.row ≡ run.row = is_back.is_row.in_row 0 right (omega arith) in
    let starts : run.cell + run.count ≤ right.cell = is_back.starts 0 right (omega arith) in
    let same_cell : (c : ℕ) → run_cell t1 right c ≡ run_cell t0 right c = λ c. run_cell-grown t0 t1 right c grows is_right in
    record {
      is_row = IsRow-added t1 t2 run.row (run.cell + run.count) begun pieces right begins.is_row begins.ends starts row are_more adds_more;
      shows = pieces_show t0 t1 t2 runs front begun pieces (right ∷ []) run touched is_front is_back shows (λ r c.
          shows_more r c ∙ ap (λ (d : Cell). if holds right r c then d else shown_cell t1 begun r c) (same_cell c));
      ends = λ n all high. adds_more.ends n (λ k d within. omega (arith, begins.ends k d within)) (is_back.ends n all 0 right (omega arith));
      follows = λ x clear all. adds_more.follows x (begins.follows x clear (is_front.follows x all)) record
          { rows = omega (arith, clear.rows, row); cells = λ h. omega (arith, clear.cells (h ∙ row), starts) };
      apart_follows = λ x clear all. adds_more.apart_follows x (begins.apart_follows x clear (is_front.apart_follows x all)) (λ at.
          absurd (omega (arith, clear.cells (at.row ∙ row), at.touches, starts)));
      after = λ y clear all. adds_more.after y (begins.after y clear) (is_back.after y all 0 right (omega arith));
      apart_after = λ y clear all. adds_more.apart_after y (begins.apart_after y clear) (is_back.apart_after y all 0 right (omega arith));
      few = omega (arith, begins.few, is_front.one, is_back.few, adds_more.count);
    }

-- all runs end before the run
IsFront-all : (text : List ℕ) (runs : List Run) (run : Run) → IsRow text run.row runs → EndsBy run.cell runs → length runs ≤ 1 → IsFront text runs run runs
IsFront-all text runs run is_row ends one = grind (arith, common_steps)

-- one run is touched, and the run goes on where it ends: it is made longer
ArePieces-one : (old new : List ℕ) (first run whole : Run) → BeginsWith old new → AreTouchedRuns old run (first ∷ []) → IsRun old run → Continues first run
    → IsJoined old new first run whole → ArePieces old new (first ∷ []) (whole ∷ []) run
ArePieces-one old new first run whole grows touched is goes joined =
    let runs = first ∷ [] in
    let before : EndsBy run.cell runs = All-cons (λ x. x.cell + x.count ≤ run.cell) first [] (omega (arith, goes.touches)) (All-nil _) in
    let within : EndsBy (run.cell + run.count) runs = λ k d inside. omega (arith, before k d inside) in
    let is_front = IsFront-all old runs run touched.is_row before (omega arith) in
    let shows = ShowsMore-joined old new runs 0 first run whole refl refl grows touched.is_row.are_runs is goes joined in
    ArePieces-two old new runs runs (whole ∷ []) run touched is is_front (IsBack-none old runs run within) shows
    (All-cons (λ x. IsRun new x) whole [] joined.is_run (All-nil _)) (AddsRun-joined old new runs 0 first run whole refl refl goes joined)

set_split : {X : Type 0} (xs : List X) (start end : ℕ) (y : X) → end ≡ start + 1 → end ≤ length xs → set xs start y ≡ take start xs ++ (y ∷ []) ++ drop end xs
set_split xs start end y one within = grind (arith, common_steps, same_lists)

-- what is put where it makes a single run longer
pub IsPut-one : (old new : List ℕ) (runs : List Run) (run first whole : Run) (start end : ℕ) → end - start ≡ 1 → end ≤ length runs
    → first ≡ get_or runs start first → ((k : ℕ) (d : Run) → k < start → IsClear (get_or runs k d) run)
    → ((k : ℕ) (d : Run) → start ≤ k → k < end → Touches (get_or runs k d) run)
    → ((k : ℕ) (d : Run) → end ≤ k → k < length runs → IsClear run (get_or runs k d)) → All (λ x. IsRun old x) runs → AreOrdered runs → AreApart runs
    → BeginsWith old new → IsRun old run → Continues first run → IsJoined old new first run whole → IsPut old new runs (set runs start whole) run
IsPut-one old new runs run first whole start end one within read above touch below are ordered apart grows is goes joined =
    let low : start ≤ end = omega (arith, one) in
    let only : stretch runs start end ≡ first ∷ [] = ap (λ n. take n (drop start runs)) one
    ∙ take_more (drop start runs) 0 first (omega (arith, length-drop start runs, one, within))
    ∙ ap (λ x. x ∷ []) (get_or-drop start runs 0 first ∙ ap (λ k. get_or runs k first) (omega arith) ∙ sym read) in
    let touched : AreTouchedRuns old run (first ∷ []) = subst (λ (l : List Run). AreTouchedRuns old run l) only
    (touched_stretch old runs run start end low within are ordered apart touch) in
    let pieces = subst (λ (l : List Run). ArePieces old new l (whole ∷ []) run) (sym only)
    (ArePieces-one old new first run whole grows touched is goes joined) in
    IsPut-touched old new runs (set runs start whole) (whole ∷ []) run start end low within above touch below are ordered apart grows pieces
    (set_split runs start end whole (omega (arith, one)) within)

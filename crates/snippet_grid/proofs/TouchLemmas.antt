-- A put that takes only the runs which it meets: those before the run and after it, in its own row too, stay.
use Rattle.snippet_grid.proofs.Common.{common_steps, ◌≡◌, ◌⊎◌, ℕ, suc, ◌+◌, ◌-◌, ◌<◌, ◌≤◌, List, [], ◌∷◌, ◌++◌, length, take, drop, get_or, sym, ap, ◌∙◌, arith}
use Rattle.snippet_grid.proofs.Common.{true, false, inl, inr, subst, All, if◌then◌else◌, get_or_default, get_or-take, get_or-drop, length-append, length-drop}
use Rattle.snippet_grid.proofs.Common.{All-take, All-drop, All-append, All-cons, cases_eq, AllPairs, Cell, SPACE, IsRun, BeginsWith, ShowsMore, AddsRun}
use Rattle.snippet_grid.proofs.Common.{Precedes, Differ, BeginsAfter, BeginsBy, IsClear, Touches, AreTouchedRuns, ArePieces, IsPut, EndsBy, run_cell, holds}
use Rattle.snippet_grid.proofs.Common.{painted_over, shown_cell, Run}
use Rattle.snippet_grid.proofs.RunLemmas.{stretch, below_take, get_or-stretch}
use Rattle.snippet_grid.proofs.ShownLemmas.{All-IsRun-grown, painted-append, painted-grown, pick, holds_inside, holds_elsewhere, holds_before, holds-after}
use Rattle.snippet_grid.proofs.PutLemmas.{AreOrdered, AreApart, AllPairs-append, AllPairs-take, AllPairs-drop, split_three, IsRow-stretch, fit-put}
use Rattle.snippet_grid.proofs.RowWoven.{painted_unheld}

-- a run that holds a cell of a row holds nothing before its first cell, after its last, or in other rows
pub record Held (run : Run) (r c : ℕ) : Type 0 where
  pub row_is : run.row ≡ r
  pub low : run.cell ≤ c
  pub high : c < run.cell + run.count

-- a run holds a cell or it doesn't
pub cases_held : (run : Run) (r c : ℕ) → Held run r c ⊎ (holds run r c ≡ false)
cases_held run r c = grind (arith, common_steps, run.row, holds_elsewhere, run.cell, holds_before, run.count, holds-after)

-- some run of a list holds the cell, or none does
record SomeHeld (runs : List Run) (r c : ℕ) : Type 0 where
  place : ℕ
  within : place < length runs
  held : (d : Run) → Held (get_or runs place d) r c

cases_some : (runs : List Run) (r c : ℕ) → SomeHeld runs r c ⊎ All (λ x. holds x r c ≡ false) runs
cases_some [] r c = inr (λ k d within. absurd (omega arith))
cases_some (run ∷ runs) r c =
    elim (cases_held run r c) [
      | inl held ↦ inl record { place = 0; within = omega arith; held = λ d. held }
      | inr free ↦ elim (cases_some runs r c) [
        | inl some ↦ inl record { place = suc some.place; within = omega (arith, some.within); held = λ d. some.held d }
        | inr none ↦ inr (All-cons (λ x. holds x r c ≡ false) run runs free none)
      ]
    ]

-- what stands before the run, or after it, is in order with what took the place of the runs between
pub ShowsMore-touch : (old new : List ℕ) (xs ys zs fresh : List Run) (run : Run) → BeginsWith old new → All (λ x. IsRun old x) (xs ++ ys ++ zs)
    → All (λ x. IsRun old x) xs → All (λ x. IsRun old x) zs → All (λ x. Precedes x run) xs → All (λ z. Precedes run z) zs
    → ((i j : ℕ) (d : Run) → i < length xs → j < length ys → Precedes (get_or xs i d) (get_or ys j d))
    → ((i j : ℕ) (d : Run) → i < length xs → j < length fresh → Precedes (get_or xs i d) (get_or fresh j d)) → ShowsMore old new ys fresh run
    → ShowsMore old new (xs ++ ys ++ zs) (xs ++ fresh ++ zs) run
ShowsMore-touch old new xs ys zs fresh run grows are are_xs are_zs before after order_old order_new shows =
    λ r c.
    let x = run_cell old run c in
    let new_is : shown_cell new (xs ++ fresh ++ zs) r c ≡ painted_over old r c (painted_over new r c (shown_cell old xs r c) fresh) zs =
    painted-append new r c SPACE (xs ++ fresh) zs ∙ painted-grown old new r c (painted_over new r c SPACE (xs ++ fresh)) zs grows are_zs
    ∙ ap (λ (d : Cell). painted_over old r c d zs)
    (painted-append new r c SPACE xs fresh ∙ ap (λ (d : Cell). painted_over new r c d fresh) (painted-grown old new r c SPACE xs grows are_xs)) in
    let old_is : shown_cell old (xs ++ ys ++ zs) r c ≡ painted_over old r c (painted_over old r c (shown_cell old xs r c) ys) zs = painted-append old r c SPACE
    (xs ++ ys) zs ∙ ap (λ (d : Cell). painted_over old r c d zs) (painted-append old r c SPACE xs ys) in
    let was = shown_cell old (xs ++ ys ++ zs) r c in
    elim (cases_some xs r c) [
      | inl some ↦
          let at : (d : Run) → Held (get_or xs some.place d) r c = some.held in
          let past : (y d : Run) → Precedes (get_or xs some.place d) y → holds y r c ≡ false = λ y d precedes.
          elim (cases_eq y.row r) [
            | inl here ↦ holds_before y r c (omega (arith, (at d).high, precedes.cells ((at d).row_is ∙ sym here)))
            | inr other ↦ holds_elsewhere y r c other
          ] in
          let no_fresh : All (λ z. holds z r c ≡ false) fresh = λ k d within. past (get_or fresh k d) d (order_new some.place k d some.within within) in
          let no_ys : All (λ z. holds z r c ≡ false) ys = λ k d within. past (get_or ys k d) d (order_old some.place k d some.within within) in
          let no_run = past run run (before some.place run some.within) in
          new_is ∙ ap (λ (d : Cell). painted_over old r c d zs) (painted_unheld new r c (shown_cell old xs r c) fresh no_fresh
          ∙ sym (painted_unheld old r c (shown_cell old xs r c) ys no_ys)) ∙ sym old_is ∙ sym (pick x was no_run)
      | inr none ↦
          let blank : shown_cell old xs r c ≡ SPACE = painted_unheld old r c SPACE xs none in
          let new_there : shown_cell new (xs ++ fresh ++ zs) r c ≡ painted_over old r c (if holds run r c then x else shown_cell old ys r c) zs = new_is
          ∙ ap (λ (d : Cell). painted_over old r c (painted_over new r c d fresh) zs) blank ∙ ap (λ (d : Cell). painted_over old r c d zs) (shows r c) in
          let old_there : was ≡ painted_over old r c (shown_cell old ys r c) zs = old_is
          ∙ ap (λ (d : Cell). painted_over old r c (painted_over old r c d ys) zs) blank in
          elim (cases_held run r c) [
            | inl held ↦
                let yes : holds run r c ≡ true = holds_inside run r c held.row_is held.low held.high in
                let no_zs : All (λ z. holds z r c ≡ false) zs = λ k d within.
                elim (cases_eq (get_or zs k d).row r) [
                  | inl here ↦ holds_before (get_or zs k d) r c (omega (arith, held.high, (after k d within).cells (held.row_is ∙ sym here)))
                  | inr other ↦ holds_elsewhere (get_or zs k d) r c other
                ] in
                new_there ∙ ap (λ (d : Cell). painted_over old r c d zs) (pick x (shown_cell old ys r c) yes) ∙ painted_unheld old r c x zs no_zs
                ∙ sym (pick x was yes)
            | inr free ↦ new_there ∙ ap (λ (d : Cell). painted_over old r c d zs) (pick x (shown_cell old ys r c) free) ∙ sym old_there ∙ sym (pick x was free)
          ]
    ]

-- what stands before a run that begins by a cell does so too
pub begun_all : (runs : List Run) (row cell : ℕ) (d : Run) (i : ℕ) → AreOrdered runs → i < length runs → BeginsBy row cell (get_or runs i d) → (k : ℕ) (e : Run)
    → k ≤ i → BeginsBy row cell (get_or runs k e)
begun_all runs row cell d i ordered high last =
    λ k e within.
    let here : BeginsBy row cell (get_or runs i e) = subst (λ x. BeginsBy row cell x) (get_or_default runs i d e high) last in
    elim (cases_eq k i) [
      | inl same ↦ subst (λ j. BeginsBy row cell (get_or runs j e)) (sym same) here
      | inr other ↦
          let x = get_or runs k e in
          let z = get_or runs i e in
          let gap : Precedes x z = ordered k i e (omega arith) high in
          record {
            rows = omega (arith, gap.rows, here.rows);
            cells = λ same.
                let one : x.row ≡ z.row = omega (arith, gap.rows, here.rows, same) in
                omega (arith, gap.cells one, here.cells (same ∙ one));
          }
    ]

-- what stands after a run that begins after a cell does so too
pub later_all : (runs : List Run) (row cell : ℕ) (d : Run) (i : ℕ) → AreOrdered runs → i < length runs → BeginsAfter row cell (get_or runs i d)
    → (k : ℕ) (e : Run) → i ≤ k → k < length runs → BeginsAfter row cell (get_or runs k e)
later_all runs row cell d i ordered high first =
    λ k e low within.
    let here : BeginsAfter row cell (get_or runs i e) = subst (λ x. BeginsAfter row cell x) (get_or_default runs i d e high) first in
    elim (cases_eq k i) [
      | inl same ↦ subst (λ j. BeginsAfter row cell (get_or runs j e)) (sym same) here
      | inr other ↦
          let x = get_or runs i e in
          let z = get_or runs k e in
          let gap : Precedes x z = ordered i k e (omega arith) within in
          record {
            rows = omega (arith, here.rows, gap.rows);
            cells = λ same.
                let one : row ≡ x.row = omega (arith, here.rows, gap.rows, same) in
                omega (arith, here.cells one, gap.cells (sym one ∙ same));
          }
    ]

-- what stands before a run that is clear is clear
pub clear_all : (runs : List Run) (run d : Run) (start : ℕ) → AreOrdered runs → start ≤ length runs → 0 < start → IsClear (get_or runs (start - 1) d) run
    → (k : ℕ) (e : Run) → k < start → IsClear (get_or runs k e) run
clear_all runs run d start ordered high some last =
    λ k e within.
    let here : IsClear (get_or runs (start - 1) e) run = subst (λ x. IsClear x run) (get_or_default runs (start - 1) d e (omega arith)) last in
    elim (cases_eq k (start - 1)) [
      | inl same ↦ subst (λ i. IsClear (get_or runs i e) run) (sym same) here
      | inr other ↦
          let x = get_or runs k e in
          let z = get_or runs (start - 1) e in
          let gap : Precedes x z = ordered k (start - 1) e (omega arith) (omega arith) in
          record {
            rows = omega (arith, gap.rows, here.rows);
            cells = λ same.
                let one : x.row ≡ z.row = omega (arith, gap.rows, here.rows, same) in
                omega (arith, gap.cells one, here.cells (sym one ∙ same));
          }
    ]

-- a relation of each run to those after it stays where others take the place of those that a run touches
pub AllPairs-put : (R : Run → Run → Type 0) (runs fresh : List Run) (run : Run) (start end : ℕ) → start ≤ end → end ≤ length runs
    → ((k : ℕ) (d : Run) → k < start → IsClear (get_or runs k d) run)
    → ((k : ℕ) (d : Run) → end ≤ k → k < length runs → IsClear run (get_or runs k d)) → AllPairs R runs → AllPairs R fresh
    → ((x : Run) → IsClear x run → All (λ y. R x y) (stretch runs start end) → All (λ y. R x y) fresh)
    → ((y : Run) → IsClear run y → All (λ x. R x y) (stretch runs start end) → All (λ x. R x y) fresh)
    → AllPairs R (take start runs ++ fresh ++ drop end runs)
AllPairs-put R runs fresh run start end low high above below pairs middle first second =
    let xs = take start runs in
    let ys = stretch runs start end in
    let zs = drop end runs in
    let in_xs : (k : ℕ) → k < length xs → k < start = λ k within. below_take runs start k within in
    let in_ys : (k : ℕ) → k < length ys → k < end - start = λ k within. below_take (drop start runs) (end - start) k within in
    let read_x : (k : ℕ) (d : Run) → k < length xs → get_or xs k d ≡ get_or runs k d = λ k d within. get_or-take start runs k d (in_xs k within) in
    let read_y : (k : ℕ) (d : Run) → k < length ys → get_or ys k d ≡ get_or runs (start + k) d = λ k d within. get_or-stretch runs start end k d within in
    let read_z : (k : ℕ) (d : Run) → get_or zs k d ≡ get_or runs (end + k) d = λ k d. get_or-drop end runs k d in
    let in_zs : (k : ℕ) → k < length zs → end + k < length runs = λ k within. omega (arith, length-drop end runs) in
    let across : (i j : ℕ) (d : Run) → i < length xs → j < length fresh → R (get_or xs i d) (get_or fresh j d) = λ i j d i_within j_within.
    let x = get_or runs i d in
    let all : All (λ y. R x y) ys = λ k e within.
    let same : get_or ys k e ≡ get_or runs (start + k) d = get_or_default ys k e d within ∙ read_y k d within in
    subst (λ y. R x y) (sym same) (pairs i (start + k) d (omega (arith, in_xs i i_within)) (omega (arith, in_ys k within))) in
    subst (λ x. R x (get_or fresh j d)) (sym (read_x i d i_within)) (first x (above i d (in_xs i i_within)) all j d j_within) in
    let after : (i j : ℕ) (d : Run) → i < length (xs ++ fresh) → j < length zs → R (get_or (xs ++ fresh) i d) (get_or zs j d) = λ i j d i_within j_within.
    let z = get_or runs (end + j) d in
    let left : All (λ x. R x z) xs = λ k e within.
    let same : get_or xs k e ≡ get_or runs k d = get_or_default xs k e d within ∙ read_x k d within in
    subst (λ x. R x z) (sym same) (pairs k (end + j) d (omega (arith, in_xs k within)) (in_zs j j_within)) in
    let all : All (λ x. R x z) ys = λ k e within.
    let same : get_or ys k e ≡ get_or runs (start + k) d = get_or_default ys k e d within ∙ read_y k d within in
    subst (λ x. R x z) (sym same) (pairs (start + k) (end + j) d (omega (arith, in_ys k within)) (in_zs j j_within)) in
    subst (λ z. R (get_or (xs ++ fresh) i d) z) (sym (read_z j d)) (All-append (λ x.
    R x z) xs fresh left (second z (below (end + j) d (omega arith) (in_zs j j_within)) all) i d i_within) in
    AllPairs-append R (xs ++ fresh) zs (AllPairs-append R xs fresh (AllPairs-take R start runs pairs) middle across) (AllPairs-drop R end runs pairs) after

-- the runs that a run touches
pub touched_stretch : (text : List ℕ) (runs : List Run) (run : Run) (start end : ℕ) → start ≤ end → end ≤ length runs → All (λ x. IsRun text x) runs
    → AreOrdered runs → AreApart runs → ((k : ℕ) (d : Run) → start ≤ k → k < end → Touches (get_or runs k d) run)
    → AreTouchedRuns text run (stretch runs start end)
touched_stretch text runs run start end low high are ordered apart touch =
    let ys = stretch runs start end in
    record {
      is_row = IsRow-stretch text run.row runs start end low high are ordered apart (λ k d first last. (touch k d first last).row);
      touch = λ k d within.
          let short : k < end - start = below_take (drop start runs) (end - start) k within in
          subst (λ x. Touches x run) (sym (get_or-stretch runs start end k d within)) (touch (start + k) d (omega arith) (omega arith));
    }

Precedes-clear : (a b : Run) → IsClear a b → Precedes a b
Precedes-clear a b clear =
    record { rows = clear.rows; cells = λ same. omega (arith, clear.cells same) }

-- what a run that was put over those that it touches leaves
pub IsPut-touched : (old new : List ℕ) (runs now fresh : List Run) (run : Run) (start end : ℕ) → start ≤ end → end ≤ length runs
    → ((k : ℕ) (d : Run) → k < start → IsClear (get_or runs k d) run) → ((k : ℕ) (d : Run) → start ≤ k → k < end → Touches (get_or runs k d) run)
    → ((k : ℕ) (d : Run) → end ≤ k → k < length runs → IsClear run (get_or runs k d)) → All (λ x. IsRun old x) runs → AreOrdered runs → AreApart runs
    → BeginsWith old new → ArePieces old new (stretch runs start end) fresh run → now ≡ take start runs ++ fresh ++ drop end runs
    → IsPut old new runs now run
IsPut-touched old new runs now fresh run start end low high above touch below are ordered apart grows pieces is =
    let xs = take start runs in
    let ys = stretch runs start end in
    let zs = drop end runs in
    let split : runs ≡ xs ++ ys ++ zs = split_three runs start end low high in
    let clear_x : All (λ x. Precedes x run) xs = λ k d within.
    let short : k < start = below_take runs start k within in
    subst (λ x. Precedes x run) (sym (get_or-take start runs k d short)) (Precedes-clear (get_or runs k d) run (above k d short)) in
    let clear_z : All (λ z. Precedes run z) zs = λ k d within.
    subst (λ z. Precedes run z) (sym (get_or-drop end runs k d)) (Precedes-clear run (get_or runs (end + k) d)
    (below (end + k) d (omega arith) (omega (arith, length-drop end runs)))) in
    let before : (i j : ℕ) (d : Run) → i < length xs → j < length ys → Precedes (get_or xs i d) (get_or ys j d) = λ i j d i_within j_within.
    let i_short : i < start = below_take runs start i i_within in
    let j_short : j < end - start = below_take (drop start runs) (end - start) j j_within in
    subst (λ y. Precedes (get_or xs i d) y) (sym (get_or-stretch runs start end j d j_within))
    (subst (λ x. Precedes x (get_or runs (start + j) d)) (sym (get_or-take start runs i d i_short))
    (ordered i (start + j) d (omega arith) (omega arith))) in
    let all_ordered = AllPairs-put (λ a b. Precedes a b) runs fresh run start end low high above below ordered pieces.is_row.ordered pieces.follows
    pieces.after in
    let all_apart = AllPairs-put (λ a b. Differ a b) runs fresh run start end low high above below apart pieces.is_row.apart pieces.apart_follows
    pieces.apart_after in
    let follows : (i j : ℕ) (d : Run) → i < length xs → j < length fresh → Precedes (get_or xs i d) (get_or fresh j d) = λ i j d i_within j_within.
    let x = get_or xs i d in
    let i_short : i < start = below_take runs start i i_within in
    pieces.follows x (subst (λ x. IsClear x run) (sym (get_or-take start runs i d i_short)) (above i d i_short)) (λ k e within.
    subst (λ x. Precedes x (get_or ys k e)) (get_or_default xs i e d i_within) (before i k e i_within within)) j d j_within in
    let all : All (λ x. IsRun new x) runs = All-IsRun-grown old new runs grows are in
    let shows = ShowsMore-touch old new xs ys zs fresh run grows (subst (λ (l : List Run). All (λ x. IsRun old x) l) split are)
    (All-take (λ x. IsRun old x) start runs are) (All-drop (λ x. IsRun old x) end runs are) clear_x clear_z before follows pieces.shows in
    record {
      shows = subst (λ (l : List Run). ShowsMore old new runs l run) (sym is)
          (subst (λ (l : List Run). ShowsMore old new l (xs ++ fresh ++ zs) run) (sym split) shows);
      are_runs = subst (λ (l : List Run). All (λ x. IsRun new x) l) (sym is)
          (All-append (λ x. IsRun new x) (xs ++ fresh) zs (All-append (λ x.
          IsRun new x) xs fresh (All-take (λ x. IsRun new x) start runs all) pieces.is_row.are_runs) (All-drop (λ x. IsRun new x) end runs all));
      ordered = subst AreOrdered (sym is) all_ordered;
      apart = subst AreApart (sym is) all_apart;
      in_row = λ n all here. subst (λ (l : List Run). All (λ x. x.row ≡ n) l) (sym is)
          (All-append (λ x. x.row ≡ n) (xs ++ fresh)
          zs (All-append (λ x. x.row ≡ n) xs fresh (All-take (λ x. x.row ≡ n) start runs all) (λ k d within. pieces.is_row.in_row k d within ∙ here))
          (All-drop (λ x. x.row ≡ n) end runs all));
      ends = λ n all within. subst (λ (l : List Run). EndsBy n l) (sym is)
          (All-append (λ x. x.cell + x.count ≤ n) (xs ++ fresh)
          zs (All-append (λ x. x.cell + x.count ≤ n) xs fresh (All-take (λ x. x.cell + x.count ≤ n) start runs all)
          (pieces.ends n (All-take (λ x. x.cell + x.count ≤ n) (end - start) (drop start runs) (All-drop (λ x. x.cell + x.count ≤ n) start runs all))
          within)) (All-drop (λ x. x.cell + x.count ≤ n) end runs all));
      inside = λ widths fit within. fit-put widths new runs now fresh run.row start end low high (λ k d first last.
          (touch k d first last).row) fit pieces.is_row (λ ends. pieces.ends (get_or widths run.row 0) ends within) is;
      few =
          let count : length now ≡ length xs + length fresh + length zs = ap length is ∙ length-append (xs ++ fresh) zs
          ∙ ap (λ n. n + length zs) (length-append xs fresh) in
          let old_count : length runs ≡ length xs + length ys + length zs = ap length split ∙ length-append (xs ++ ys) zs
          ∙ ap (λ n. n + length zs) (length-append xs ys) in
          omega (arith, count, old_count, pieces.few);
    }

-- a run that was added after all others
pub IsPut-added : (old new : List ℕ) (runs now : List Run) (run : Run) → ShowsMore old new runs now run → All (λ x. IsRun new x) now → AreOrdered runs
    → AreApart runs → All (λ x. Precedes x run) runs → AddsRun runs now run → IsPut old new runs now run
IsPut-added old new runs now run shows are ordered apart before adds =
    record {
      shows = shows;
      are_runs = are;
      ordered = adds.order ordered before;
      apart = adds.apart ordered before apart;
      in_row = adds.rows;
      ends = adds.ends;
      inside = adds.inside;
      few = omega (arith, adds.count);
    }

-- A row of cells that is added to a grid, as runs.
use Rattle.snippet_grid.proofs.Common.{common_steps, ◌≡◌, ℕ, ◌+◌, ◌-◌, ◌<◌, ◌≤◌, List, [], ◌∷◌, ◌++◌, length, map, take, drop, get_or, refl, sym, ap, ◌∙◌}
use Rattle.snippet_grid.proofs.Common.{arith, inl, inr, All, range_with_len, cases_eq, cases_lt, append_assoc, drop_all, ext_get_or, get_or-drop, get_or-map}
use Rattle.snippet_grid.proofs.Common.{get_or-take, get_or_append_left, get_or_default, get_or_past, get_or_push, length-drop, length-map, length-take}
use Rattle.snippet_grid.proofs.Common.{length_push, same_lists, All-append, All-nil, All-push, get_or-map-range_with_len, length-map-range_with_len, AddsRow}
use Rattle.snippet_grid.proofs.Common.{AddsStretch, RowAt, row_at, BeginsWith, Differ, EndsBy, FitIn, IsGrid, IsRow, IsRun, cells_to, grid_shown, run_cell}
use Rattle.snippet_grid.proofs.Common.{shown_cell, cell_of, ch_of, Run, StyledChar, Cell, SPACE, MainHeaderMsg}
use Rattle.snippet_grid.proofs.CopyLemmas.{shown_past}
use Rattle.snippet_grid.proofs.ReplacedRow.{IsExchanged, IsGrid-put, put_elsewhere}
use Rattle.snippet_grid.proofs.GridShown.{count_shown, row_shown, same_row}
use Rattle.snippet_grid.proofs.PutLemmas.{IsRow-added, put_shows}
use Rattle.snippet_grid.proofs.ShownLemmas.{AddsRun-pushed, All-IsRun-grown, cell_same, holds_before, holds_inside, painted-append, painted-grown, pick}

-- what the code reads past the last one, which it never does
abbrev pub FIRST : StyledChar
FIRST = record { ch = 0; role = MainHeaderMsg }

-- ---- the runs of a row, up to a cell

-- so far runs show the cells up to this one, and none of them goes on there
pub record RowSoFar (text : List ℕ) (row : ℕ) (cells : List StyledChar) (old new : List Run) (n : ℕ) : Type 0 where
  pub within : n ≤ length cells
  pub added : List Run
  pub is : new ≡ old ++ added
  pub is_row : IsRow text row added
  pub ends : EndsBy n added
  pub shows : (c : ℕ) (d : StyledChar) → c < n → shown_cell text added row c ≡ cell_of (get_or cells c d)
  pub stops : All (λ x. x.cell + x.count ≡ n → (d : StyledChar) → n < length cells → x.role ≡ (get_or cells n d).role
      → cell_of (get_or cells n d) ≡ SPACE) added

-- at first there is none
pub so_far_none : (text : List ℕ) (row : ℕ) (cells : List StyledChar) (old new : List Run) → new ≡ old → RowSoFar text row cells old new 0
so_far_none text row cells old new same = grind (arith, common_steps, All-nil)

-- a blank needs none
pub so_far_blank : (text : List ℕ) (row : ℕ) (cells : List StyledChar) (old new : List Run) (n : ℕ) (first : StyledChar) → n < length cells
    → cell_of (get_or cells n first) ≡ SPACE → RowSoFar text row cells old new n → RowSoFar text row cells old new (n + 1)
so_far_blank text row cells old new n first inside blank so_far =
    record {
      within = omega (arith, inside);
      added = so_far.added;
      is = so_far.is;
      is_row = so_far.is_row;
      ends = λ k d within. omega (arith, so_far.ends k d within);
      shows = λ c d below. elim (cases_eq c n) [
        | inl here ↦ shown_past text row c n SPACE so_far.added so_far.ends (omega (arith, here)) ∙ sym blank
            ∙ ap cell_of (get_or_default cells n first d inside ∙ ap (λ i. get_or cells i d) (sym here))
        | inr other ↦ so_far.shows c d (omega (arith, below, other))
      ];
      stops = λ k d within ends. absurd (omega (arith, ends, so_far.ends k d within));
    }

-- a stretch of cells of one role is one more run
pub so_far_more : (old_text text : List ℕ) (row : ℕ) (cells : List StyledChar) (old mid new : List Run) (n to : ℕ) (first : StyledChar)
    → BeginsWith old_text text → (cell_of (get_or cells n first) ≡ SPACE → ⊥) → AddsStretch text row cells n to mid new
    → RowSoFar old_text row cells old mid n → RowSoFar text row cells old new to
so_far_more old_text text row cells old mid new n to first grows filled adds so_far =
    let run : Run = adds.run in
    let added : List Run = so_far.added in
    let word = adds.holds first in
    let inside : n < length cells = omega (arith, adds.more, adds.within) in
    let many : run.count ≡ to - n = word.is_run.counted ∙ ap length (word.chars_are ∙ adds.spells)
    ∙ length-map (take (to - n) (drop n cells)) ch_of ∙ omega (arith, length-take (to - n) (drop n cells), length-drop n cells, adds.within, adds.more) in
    let are : All (λ x. IsRun text x) added = All-IsRun-grown old_text text added grows so_far.is_row.are_runs in
    let differs : (d : Run) → 0 < length added → Differ (get_or added (length added - 1) d) run = λ d some goes.
    filled (so_far.stops (length added - 1) d (omega (arith, some)) (goes.touches ∙ word.cell_is) first inside (goes.role ∙ word.role_is)) in
    let adds_run = AddsRun-pushed added (added ++ run ∷ []) run (λ k d within. (so_far.is_row.are_runs k d within).some) differs refl in
    record {
      within = adds.within;
      added = added ++ run ∷ [];
      is = adds.is ∙ ap (λ runs. runs ++ run ∷ []) so_far.is ∙ append_assoc old added (run ∷ []);
      is_row = IsRow-added old_text text row n added (added ++ run ∷ []) run so_far.is_row so_far.ends (omega (arith, word.cell_is)) word.row_is
          (All-push (λ x. IsRun text x) added run are word.is_run) adds_run;
      ends = All-push (λ x. x.cell + x.count ≤ to) added run (λ k d within. omega (arith, so_far.ends k d within, adds.more))
          (omega (arith, word.cell_is, many, adds.more));
      shows = λ c d below. painted-append text row c SPACE added (run ∷ []) ∙ elim (cases_lt c n) [
        | inl before ↦ pick (run_cell text run c) (shown_cell text added row c) (holds_before run row c (omega (arith, before, word.cell_is)))
            ∙ painted-grown old_text text row c SPACE added grows so_far.is_row.are_runs ∙ so_far.shows c d before
        | inr low ↦
            let part : List StyledChar = take (to - n) (drop n cells) in
            let here : c - n < length part = omega (arith, low, below, length-take (to - n) (drop n cells), length-drop n cells, adds.within) in
            let read : get_or part (c - n) d ≡ get_or cells c d = get_or-take (to - n) (drop n cells) (c - n) d (omega (arith, low, below))
            ∙ get_or-drop n cells (c - n) d ∙ ap (λ i. get_or cells i d) (let same : n + (c - n) ≡ c = omega (arith, low) in same) in
            pick (run_cell text run c) (shown_cell text added row c)
            (holds_inside run row c word.row_is (omega (arith, low, word.cell_is)) (omega (arith, low, below, word.cell_is, many)))
            ∙ cell_same (run_cell text run c) (cell_of (get_or cells c d))
            (ap (λ (cs : List ℕ). get_or cs (c - run.cell) 32) (word.chars_are ∙ adds.spells)
            ∙ ap (λ i. get_or (map ch_of part) (c - i) 32) word.cell_is ∙ get_or-map ch_of part (c - n) d 32 here ∙ ap ch_of read)
            ((adds.holds d).role_is ∙ sym (adds.role c d low below)) word.unlinked
      ];
      stops = All-push (λ x. x.cell + x.count ≡ to → (d : StyledChar) → to < length cells → x.role ≡ (get_or cells to d).role
          → cell_of (get_or cells to d) ≡ SPACE) added run
          (λ k d within ends. absurd (omega (arith, ends, so_far.ends k d within, adds.more)))
          (λ ends d short same. adds.stops d short (sym same ∙ (adds.holds d).role_is));
    }

-- at last runs show the row
pub so_far_all : (text : List ℕ) (row : ℕ) (cells : List StyledChar) (old new : List Run) (n : ℕ) → length cells ≤ n
    → RowSoFar text row cells old new n → AddsRow text row (map cell_of cells) old new
so_far_all text row cells old new n all so_far =
    let line : ℕ → Cell = λ c. shown_cell text so_far.added row c in
    let many : length (map cell_of cells) ≡ length cells = length-map cells cell_of in
    let long : length (cells_to text so_far.added row (length (map cell_of cells))) ≡ length (map cell_of cells) =
    length-map-range_with_len line 0 (length (map cell_of cells)) in
    record {
      added = so_far.added;
      is = so_far.is;
      is_row = so_far.is_row;
      ends = λ k d within. omega (arith, so_far.ends k d within, so_far.within, many);
      shows = same_lists (cells_to text so_far.added row (length (map cell_of cells))) (map cell_of cells) long (λ k d within.
          let here : k < length cells = omega (arith, within, long, many) in
          get_or-map-range_with_len line 0 (length (map cell_of cells)) k k d (omega (arith, within, long)) (omega arith)
          ∙ so_far.shows k FIRST (omega (arith, here, all)) ∙ sym (get_or-map cell_of cells k FIRST d here));
    }

-- ---- a grid with one more row

module _ (old_text text : List ℕ) (runs now : List Run) (widths : List ℕ) (row : ℕ) (cells : List Cell) (grows : BeginsWith old_text text)
    (grid : IsGrid old_text runs widths) (here : row ≡ length widths) (adds : AddsRow text row cells runs now) where
  abbrev wider : List ℕ
  wider = widths ++ length cells ∷ []

  above : (k : ℕ) (d : Run) → k < length runs → (get_or runs k d).row < row
  above k d within = grind (arith, common_steps, get_or_past)

  at_end : RowAt runs row (length runs) (length runs)
  at_end = grind (arith, common_steps, above)

  in_place : now ≡ take (length runs) runs ++ adds.added ++ drop (length runs) runs
  in_place = grind (arith, common_steps, drop_all)

  put : IsExchanged old_text text runs now adds.added row (length runs) (length runs)
  put = grind (arith, common_steps, at_end, in_place)

  width_same : (r : ℕ) → r < length widths → get_or wider r 0 ≡ get_or widths r 0
  width_same r within = get_or_append_left widths (length cells ∷ []) 0 r within

  width_here : get_or wider row 0 ≡ length cells
  width_here = get_or_push widths (length cells) 0 row (sym here)

  fits : FitIn wider now
  fits = grind (arith, common_steps, All-append, width_same, above, width_here)

  pub grid_added : IsGrid text now wider
  grid_added = IsGrid-put old_text text runs now adds.added widths wider row (length runs) (length runs) put fits

  pub row_added : grid_shown text now wider ≡ grid_shown old_text runs widths ++ cells ∷ []
  row_added =
      let old : List (List Cell) = grid_shown old_text runs widths in
      let new : List (List Cell) = grid_shown text now wider in
      let many : length new ≡ length widths + 1 = count_shown text now wider ∙ length_push widths (length cells) in
      let before : length old ≡ length widths = count_shown old_text runs widths in
      ext_get_or [] new (old ++ cells ∷ []) (omega (arith, many, before, length_push old cells)) (λ r within. elim (cases_lt r row) [
        | inl low ↦ same_row old_text text runs now widths wider r (width_same r (omega (arith, low, here)))
            (λ c. put_elsewhere old_text text runs now adds.added row (length runs) (length runs) r c put (λ same. omega (arith, low, same)))
            ∙ sym (get_or_append_left old (cells ∷ []) [] r (omega (arith, low, here, before)))
        | inr past ↦
            let last : r ≡ row = omega (arith, past, within, many, here) in
            ap (row_at new) last ∙ row_shown text now wider row ∙ ap (cells_to text now row) width_here
            ∙ map_same (length cells) ∙ adds.shows ∙ sym (get_or_push old cells [] r (omega (arith, before, here, last)))
      ])
    where
      map_same : (n : ℕ) → cells_to text now row n ≡ cells_to text adds.added row n
      map_same n =
          let f : ℕ → Cell = λ c. shown_cell text now row c in
          let g : ℕ → Cell = λ c. shown_cell text adds.added row c in
          same_lists (map f (range_with_len 0 n)) (map g (range_with_len 0 n)) (length-map-range_with_len f 0 n ∙ sym (length-map-range_with_len g 0 n))
          (λ k d within.
          let inside : k < n = omega (arith, within, length-map-range_with_len f 0 n) in
          get_or-map-range_with_len f 0 n k k d inside (omega arith)
          ∙ put_shows text runs now adds.added row (length runs) (length runs) k at_end in_place
          ∙ sym (get_or-map-range_with_len g 0 n k k d inside (omega arith)))

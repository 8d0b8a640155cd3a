-- The cells of a row, run by run, and rows that are printed one below another.
use Rattle.snippet_grid.proofs.Common.{common_steps, cells_alike, ◌≡◌, ℕ, ◌+◌, ◌-◌, ◌<◌, ◌≤◌, List, [], ◌∷◌, ◌++◌, length, take, drop, get_or, replicate, refl}
use Rattle.snippet_grid.proofs.Common.{sym, ap, ◌∙◌, subst, arith, false, inl, inr, All, if◌then◌else◌, same_lists, take-append-drop, drop_more, length-append}
use Rattle.snippet_grid.proofs.Common.{length-map, length-replicate, get_or-map, get_or-replicate, get_or_default, get_or_append_left, get_or-append_right}
use Rattle.snippet_grid.proofs.Common.{get_or-drop, length-drop, length-map-range_with_len, get_or-map-range_with_len, cases_lt, cases_eq, option_copied, Cell}
use Rattle.snippet_grid.proofs.Common.{SPACE, IsRun, IsRow, Precedes, run_chars, run_cell, holds, painted_over, shown_cell, cells_to, BeginsRow, RowAt}
use Rattle.snippet_grid.proofs.Common.{LevelInner, Run, Stylesheet, map, encode_utf8, append_assoc, append-nil, take_more, take_all, length-take}
use Rattle.snippet_grid.proofs.Common.{flat_map-append, range_with_len, flat_map, row_at, grid_shown, Piece, Char, piece_text, PrintsFurther, WeavesRow}
use Rattle.snippet_grid.proofs.Common.{WeavesRows}
use Rattle.snippet_grid.proofs.ShownLemmas.{painted-append, All-tail, pick, holds_inside, holds_before, holds-after}
use Rattle.snippet_grid.proofs.WeaveLemmas.{further-append}
use Rattle.snippet_grid.proofs.RunLemmas.{stretch}
use Rattle.snippet_grid.proofs.PutLemmas.{AreOrdered, rows_rise, row_shows}
use Rattle.snippet_grid.proofs.GridShown.{row_shown, count_shown}

-- a cell that no run holds is as it was before any is painted
pub painted_unheld : (text : List ℕ) (r c : ℕ) (d : Cell) (runs : List Run) → All (λ x. holds x r c ≡ false) runs → painted_over text r c d runs ≡ d
painted_unheld text r c d [] none = refl
painted_unheld text r c d (run ∷ runs) none =
    ap (λ (cell : Cell). painted_over text r c cell runs) (pick (run_cell text run c) d (none 0 run (omega arith)))
    ∙ painted_unheld text r c d runs (All-tail (λ x. holds x r c ≡ false) run runs none)

-- a run shows its own cells, whatever stands after it
pub shown_cell-run : (text : List ℕ) (row c n : ℕ) (runs : List Run) (d : Run) → IsRow text row runs → n < length runs
    → (let run = get_or runs n d in run.cell ≤ c → c < run.cell + run.count → shown_cell text runs row c ≡ run_cell text run c)
shown_cell-run text row c n runs d is within =
    λ low high.
    let run : Run = get_or runs n d in
    let front = take n runs in
    let back = drop (n + 1) runs in
    let split : runs ≡ front ++ run ∷ back = sym (take-append-drop n runs) ∙ ap (λ (xs : List Run). front ++ xs) (drop_more runs n d within) in
    let below : Cell = shown_cell text front row c in
    let none : All (λ x. holds x row c ≡ false) back = λ k e inside.
    let later : n + 1 + k < length runs = omega (arith, length-drop (n + 1) runs) in
    let precedes : Precedes (get_or runs n e) (get_or runs (n + 1 + k) e) = is.ordered n (n + 1 + k) e (omega arith) later in
    let first_is : get_or runs n e ≡ run = get_or_default runs n e d within in
    let rows : (get_or runs n e).row ≡ (get_or runs (n + 1 + k) e).row = is.in_row n e within ∙ sym (is.in_row (n + 1 + k) e later) in
    let gap : run.cell + run.count ≤ (get_or runs (n + 1 + k) e).cell = subst (λ (x : Run). x.cell + x.count ≤ (get_or runs (n + 1 + k) e).cell) first_is
    (precedes.cells rows) in
    subst (λ (x : Run). holds x row c ≡ false) (sym (get_or-drop (n + 1) runs k e)) (holds_before (get_or runs (n + 1 + k) e) row c (omega arith)) in
    ap (λ (xs : List Run). shown_cell text xs row c) split ∙ painted-append text row c SPACE front (run ∷ back)
    ∙ painted_unheld text row c (if holds run row c then run_cell text run c else below) back none
    ∙ pick (run_cell text run c) below (holds_inside run row c (is.in_row n d within) low high)

-- nothing is shown between two runs
pub shown_gap : (text : List ℕ) (row c n : ℕ) (runs : List Run)
    → ((k : ℕ) (d : Run) → k < n → k < length runs → (get_or runs k d).cell + (get_or runs k d).count ≤ c)
    → ((k : ℕ) (d : Run) → n ≤ k → k < length runs → c < (get_or runs k d).cell) → shown_cell text runs row c ≡ SPACE
shown_gap text row c n runs after ahead =
    painted_unheld text row c SPACE runs (λ k d within. elim (cases_lt k n) [
      | inl before ↦ holds-after (get_or runs k d) row c (after k d before within)
      | inr follows ↦ holds_before (get_or runs k d) row c (ahead k d follows within)
    ])

-- further cells of a row
pub cells_more : (text : List ℕ) (runs : List Run) (row a b : ℕ) (more : List Cell) → a + length more ≡ b
    → ((k : ℕ) → k < length more → get_or more k SPACE ≡ shown_cell text runs row (a + k)) → cells_to text runs row b ≡ cells_to text runs row a ++ more
cells_more text runs row a b more long same =
    let f = λ (c : ℕ). shown_cell text runs row c in
    let xs = cells_to text runs row a in
    let xs_long : length xs ≡ a = length-map-range_with_len f 0 a in
    same_lists (cells_to text runs row b) (xs ++ more) (omega (arith, length-map-range_with_len f 0 b, length-append xs more)) (λ k d within.
    let inside : k < b = omega (arith, length-map-range_with_len f 0 b) in
    get_or-map-range_with_len f 0 b k k d inside (omega arith) ∙ elim (cases_lt k a) [
      | inl front ↦ sym (get_or_append_left xs more d k (omega arith) ∙ get_or-map-range_with_len f 0 a k k d front (omega arith))
      | inr after ↦
          let place : a + (k - a) ≡ k = omega arith in
          sym (get_or-append_right xs more a k d xs_long after ∙ get_or_default more (k - a) d SPACE (omega arith) ∙ same (k - a) (omega arith) ∙ ap f place)
    ])

-- the runs up to a place end by a cell, and the others begin there or after it
pub record StandsTo (runs : List Run) (n col : ℕ) : Type 0 where
  pub after : (k : ℕ) (d : Run) → k < n → k < length runs → (get_or runs k d).cell + (get_or runs k d).count ≤ col
  pub ahead : (k : ℕ) (d : Run) → n ≤ k → k < length runs → col ≤ (get_or runs k d).cell

-- before the first run stands none
pub stands_first : (runs : List Run) → StandsTo runs 0 0
stands_first runs = record { after = λ k d before within. absurd (omega arith); ahead = λ k d follows within. omega arith }

-- after a run stand the next ones
pub stands_next : (text : List ℕ) (row n col : ℕ) (runs : List Run) (d : Run) → IsRow text row runs → n < length runs → StandsTo runs n col
    → StandsTo runs (n + 1) ((get_or runs n d).cell + (get_or runs n d).count)
stands_next text row n col runs d is within stands =
    let run : Run = get_or runs n d in
    let ahead : col ≤ run.cell = stands.ahead n d (omega arith) within in
    record {
      after = λ k e first inside. elim (cases_lt k n) [
        | inl before ↦ omega (arith, stands.after k e before inside)
        | inr last ↦
            let read : get_or runs k e ≡ run = ap (λ i. get_or runs i e) (omega arith) ∙ get_or_default runs n e d within in
            omega (arith, ap (λ (x : Run). x.cell + x.count) read)
      ];
      ahead = λ k e later inside.
          let precedes : Precedes (get_or runs n e) (get_or runs k e) = is.ordered n k e (omega arith) inside in
          let rows : (get_or runs n e).row ≡ (get_or runs k e).row = is.in_row n e within ∙ sym (is.in_row k e inside) in
          subst (λ (x : Run). x.cell + x.count ≤ (get_or runs k e).cell) (get_or_default runs n e d within) (precedes.cells rows);
    }

-- up to a cell before which no further run begins stand spaces
pub cells_gap : (text : List ℕ) (runs : List Run) (row n col to : ℕ) → StandsTo runs n col → col ≤ to
    → ((k : ℕ) (d : Run) → n ≤ k → k < length runs → to ≤ (get_or runs k d).cell)
    → cells_to text runs row to ≡ cells_to text runs row col ++ replicate (to - col) SPACE
cells_gap text runs row n col to stands low ahead =
    let long : length (replicate (to - col) SPACE) ≡ to - col = length-replicate (to - col) SPACE in
    cells_more text runs row col to (replicate (to - col) SPACE) (omega arith) (λ k within.
    get_or-replicate (to - col) k SPACE SPACE (omega arith)
    ∙ sym (shown_gap text row (col + k) n runs (λ j d first inside. omega (arith, stands.after j d first inside))
    (λ j d later inside. omega (arith, ahead j d later inside))))

-- up to the end of a run stands what it holds
pub cells_run : (text : List ℕ) (runs : List Run) (row n : ℕ) (d : Run) → IsRow text row runs → n < length runs
    → (let run = get_or runs n d in cells_to text runs row (run.cell + run.count)
    ≡ cells_to text runs row run.cell ++ cells_alike run.role (option_copied run.link) (run_chars text run))
cells_run text runs row n d is within =
    let run : Run = get_or runs n d in
    let is_run : IsRun text run = is.are_runs n d within in
    let word = run_chars text run in
    let as_cell = λ (ch : ℕ). (let cell : Cell = record { ch = ch; role = run.role; link = option_copied run.link } in cell) in
    let long : length (map as_cell word) ≡ length word = length-map word as_cell in
    cells_more text runs row run.cell (run.cell + run.count) (map as_cell word) (omega (arith, is_run.counted)) (λ k inside.
    let index : (run.cell + k) - run.cell ≡ k = omega arith in
    get_or-map as_cell word k 32 SPACE (omega arith) ∙ ap (λ i. as_cell (get_or word i 32)) (sym index)
    ∙ sym (shown_cell-run text row (run.cell + k) n runs d is within (omega arith) (omega (arith, is_run.counted))))

-- no run from this one on begins before it
pub first_ahead : (text : List ℕ) (row : ℕ) (runs : List Run) (n : ℕ) (e : Run) → IsRow text row runs → n < length runs → (k : ℕ) (d : Run) → n ≤ k
    → k < length runs → (get_or runs n e).cell ≤ (get_or runs k d).cell
first_ahead text row runs n e is within k d follows inside =
    let read : (get_or runs n d).cell ≡ (get_or runs n e).cell = ap (λ (x : Run). x.cell) (get_or_default runs n d e within) in
    elim (cases_eq n k) [
      | inl same ↦ omega (arith, ap (λ i. (get_or runs i d).cell) same)
      | inr other ↦
          let precedes : Precedes (get_or runs n d) (get_or runs k d) = is.ordered n k d (omega arith) inside in
          omega (arith, precedes.cells (is.in_row n d within ∙ sym (is.in_row k d inside)))
    ]

-- the runs of a row show its cells
pub cells_of_row : (text : List ℕ) (runs : List Run) (widths : List ℕ) (r from to : ℕ) → RowAt runs r from to
    → cells_to text (stretch runs from to) r (get_or widths r 0) ≡ row_at (grid_shown text runs widths) r
cells_of_row text runs widths r from to at =
    let n = get_or widths r 0 in
    let f = λ (c : ℕ). shown_cell text (stretch runs from to) r c in
    let g = λ (c : ℕ). shown_cell text runs r c in
    same_lists (map f (range_with_len 0 n)) (map g (range_with_len 0 n)) (length-map-range_with_len f 0 n ∙ sym (length-map-range_with_len g 0 n))
    (λ k d within.
    let inside : k < n = omega (arith, length-map-range_with_len f 0 n) in
    get_or-map-range_with_len f 0 n k k d inside (omega arith) ∙ row_shows text runs r from to k at
    ∙ sym (get_or-map-range_with_len g 0 n k k d inside (omega arith))) ∙ sym (row_shown text runs widths r)

-- one more row of a grid
pub rows_to-more : (text : List ℕ) (runs : List Run) (widths : List ℕ) (r : ℕ) → r < length widths
    → (let grid = grid_shown text runs widths in take (r + 1) grid ≡ take r grid ++ row_at grid r ∷ [])
rows_to-more text runs widths r within = take_more (grid_shown text runs widths) r [] (omega (arith, count_shown text runs widths))

-- as many rows as there are so far
pub rows_to-length : (text : List ℕ) (runs : List Run) (widths : List ℕ) (r : ℕ) → r < length widths → length (take r (grid_shown text runs widths)) ≡ r
rows_to-length text runs widths r within = omega (arith, length-take r (grid_shown text runs widths), count_shown text runs widths)

-- all rows of a grid
pub rows_to-all : (text : List ℕ) (runs : List Run) (widths : List ℕ) (r : ℕ) → r ≡ length widths
    → take r (grid_shown text runs widths) ≡ grid_shown text runs widths
rows_to-all text runs widths r all = take_all r (grid_shown text runs widths) (omega (arith, count_shown text runs widths))

-- the runs of a row end where none is left, or one of another row stands
pub row_ended : (runs : List Run) (from to row : ℕ) (e : Run) → AreOrdered runs → BeginsRow runs from row → from ≤ to → to ≤ length runs
    → ((k : ℕ) (d : Run) → from ≤ k → k < to → (get_or runs k d).row ≡ row) → (to < length runs → (get_or runs to e).row ≡ row → ⊥)
    → RowAt runs row from to
row_ended runs from to row e ordered begins low high inside other =
    record {
      ordered = low;
      within = high;
      above = begins.above;
      inside = inside;
      below = λ k d after within.
          let here : to < length runs = omega arith in
          let read : (get_or runs to d).row ≡ (get_or runs to e).row = ap (λ (x : Run). x.row) (get_or_default runs to d e here) in
          let rise : (get_or runs to d).row ≤ (get_or runs k d).row = rows_rise runs to k d ordered after within in
          let least : row ≤ (get_or runs to e).row = begins.below to e low here in
          elim (cases_eq (get_or runs to e).row row) [
            | inl same ↦ absurd (other here same)
            | inr differs ↦ omega arith
          ];
    }

-- the first row begins with the first run
pub begins_first : (runs : List Run) → BeginsRow runs 0 0
begins_first runs = record { within = omega arith; above = λ k d before. absurd (omega arith); below = λ k d after within. omega arith }

-- the next row begins where a row ends
pub begins_next : (runs : List Run) (from to row : ℕ) → RowAt runs row from to → BeginsRow runs to (row + 1)
begins_next runs from to row at = grind (arith, common_steps, at.within, at.above, at.below)

-- a first row
pub rows_one : (sheet : Stylesheet) (level : LevelInner) (old new : List ℕ) (row : List Cell) → WeavesRow sheet level row old new
    → WeavesRows sheet level (row ∷ []) old new
rows_one sheet level old new row added =
    record { pieces = added.pieces; text_is = added.text_is; are = (added.pieces, [], sym (append-nil added.pieces), added.are, refl) }

-- a row that stands below others, if there are any
pub rows_more : (sheet : Stylesheet) (level : LevelInner) (old now fed new : List ℕ) (rows : List (List Cell)) (row : List Cell)
    → (length rows ≡ 0 → fed ≡ now) → (0 < length rows → fed ≡ now ++ encode_utf8 10) → WeavesRows sheet level rows old now
    → WeavesRow sheet level row fed new → WeavesRows sheet level (rows ++ row ∷ []) old new
rows_more sheet level old now fed new [] row first broken above added = grind (arith, common_steps, above.text_is, above.are, rows_one)
rows_more sheet level old now fed new (head ∷ rows) row first broken above added =
    let more : List Piece = Char 10 ∷ added.pieces in
    let bytes : List ℕ = flat_map piece_text added.pieces in
    let below : PrintsFurther sheet level more (row ∷ []) = (
      added.pieces,
      [],
      ap (λ (ps : List Piece). Char 10 ∷ ps)
          (sym (append-nil added.pieces)),
      added.are,
      refl,
    ) in
    let are = above.are in
    record {
      pieces = above.pieces ++ more;
      text_is = added.text_is ∙ ap (λ (t : List ℕ). t ++ bytes) (broken (omega arith) ∙ ap (λ (t : List ℕ). t ++ encode_utf8 10) above.text_is)
          ∙ append_assoc (old ++ flat_map piece_text above.pieces) (encode_utf8 10) bytes
          ∙ append_assoc old (flat_map piece_text above.pieces) (encode_utf8 10 ++ bytes)
          ∙ ap (λ (t : List ℕ). old ++ t) (sym (flat_map-append piece_text above.pieces more));
      are = (
        are.0,
        are.1 ++ more,
        ap (λ (ps : List Piece). ps ++ more) are.2
            ∙ append_assoc are.0 are.1 more,
        are.3,
        further-append sheet level are.1 more rows (row ∷ []) are.4 below,
      );
    }

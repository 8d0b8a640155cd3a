-- The rows of cells that runs show, and what a run over others writes there.
use Rattle.snippet_grid.proofs.Common.{common_steps, ◌≡◌, ◌≢◌, ℕ, ◌+◌, List, [], ◌∷◌, ◌++◌, length, refl, sym, ap, ◌∙◌, arith, inl, inr, subst, get_or_past}
use Rattle.snippet_grid.proofs.Common.{get_or_push, cases_lt, length-written, slice_index_or-written_before, slice_index_or-written_inside}
use Rattle.snippet_grid.proofs.Common.{slice_index_or-written_after, written_end, written_last, Cell, SPACE, written, row_at, cells_written, WritesCells, ◌^◌}
use Rattle.snippet_grid.proofs.Common.{◌-◌, ◌<◌, ◌≤◌, max, map, get_or, false, All, None, Result, Ok, Err, OnErr, encode_utf8, encode_utf8_all, append-nil}
use Rattle.snippet_grid.proofs.Common.{same_lists, get_or_default, nil_from_length, length-map-range_with_len, get_or-map-range_with_len, cases_eq}
use Rattle.snippet_grid.proofs.Common.{encodes-chars, chars_from_encodes, range_with_len, option_copied, is_utf8, IsUtf8, length-text_cells}
use Rattle.snippet_grid.proofs.Common.{slice_index_or-text_cells, cell_at, text_cells, IsRun, BeginsWith, ShowsMore, FitIn, IsGrid, IsWord, IsWidened}
use Rattle.snippet_grid.proofs.Common.{run_chars, run_cell, holds, painted_over, shown_cell, grid_shown, ElementStyle, Run, Stored, stored}
use Rattle.std.specs.List.{slice_index_or}
use Rattle.std.specs.Str.{chars}
use Rattle.snippet_grid.proofs.RunLemmas.{stretch, stretch_added, BeginsWith-append, BeginsWith-le, IsUtf8-stretch, front_grown, is_utf8-end}
use Rattle.snippet_grid.proofs.ShownLemmas.{All-tail, pick, cell_same, painted-grown, All-IsRun-grown, holds_inside, holds_elsewhere, holds_before, holds-after}

-- Rows that are written.
-- writing below all rows appends one
pub cells_written_below : (rows : List (List Cell)) (at : ℕ) (cells : List Cell)
    → cells_written rows (length rows) at cells ≡ rows ++ written SPACE [] at cells ∷ []
cells_written_below rows at cells = grind (arith, common_steps, get_or_past, written_end)

-- writing in the last row
pub cells_written_last : (rows : List (List Cell)) (row : List Cell) (at : ℕ) (cells : List Cell)
    → cells_written (rows ++ row ∷ []) (length rows) at cells ≡ rows ++ written SPACE row at cells ∷ []
cells_written_last rows row at cells = grind (arith, common_steps, get_or_push, written_last)

-- the row that was written
pub row_at-cells_written_same : (rows : List (List Cell)) (row at : ℕ) (cells : List Cell)
    → row_at (cells_written rows row at cells) row ≡ written SPACE (row_at rows row) at cells
row_at-cells_written_same rows row at cells =
    let new = written SPACE (row_at rows row) at cells in
    let here : row + 0 ≡ row = omega arith in
    ap (λ r. row_at (cells_written rows row at cells) r) (sym here) ∙ slice_index_or-written_inside [] rows row (new ∷ []) 0 [] (omega arith)

-- the other rows
pub row_at-cells_written_other : (rows : List (List Cell)) (row at : ℕ) (cells : List Cell) (r : ℕ) → r ≢ row
    → row_at (cells_written rows row at cells) r ≡ row_at rows r
row_at-cells_written_other rows row at cells r other = grind (arith, common_steps, slice_index_or-written_before, slice_index_or-written_after)

-- a write, read cell by cell
pub WritesCells-cells_written : (rows : List (List Cell)) (row at : ℕ) (cells : List Cell) → WritesCells rows (cells_written rows row at cells) row at cells
WritesCells-cells_written rows row at cells =
    let old = row_at rows row in
    let same = row_at-cells_written_same rows row at cells in
    record {
      inside = λ k h. ap (λ r. slice_index_or r (at + k) SPACE) same ∙ slice_index_or-written_inside SPACE old at cells k SPACE h;
      before = λ c h. ap (λ r. slice_index_or r c SPACE) same ∙ slice_index_or-written_before SPACE old at cells c h;
      after = λ c h. ap (λ r. slice_index_or r c SPACE) same ∙ slice_index_or-written_after SPACE old at cells c SPACE h;
      others = row_at-cells_written_other rows row at cells;
      width = ap length same ∙ length-written SPACE old at cells;
      count = length-written [] rows row (written SPACE old at cells ∷ []);
    }

-- the same of a grid that is known to be the one after the write
pub WritesCells-from_equal : (old new : List (List Cell)) (row at : ℕ) (cells : List Cell) → new ≡ cells_written old row at cells
    → WritesCells old new row at cells
WritesCells-from_equal old new row at cells is =
    subst (λ rows. WritesCells old rows row at cells) (sym is) (WritesCells-cells_written old row at cells)

-- a shown grid has a row for each width
pub count_shown : (text : List ℕ) (runs : List Run) (widths : List ℕ) → length (grid_shown text runs widths) ≡ length widths
unfolding grid_shown
count_shown text runs widths = length-map-range_with_len (λ r. map (λ c. shown_cell text runs r c) (range_with_len 0 (get_or widths r 0))) 0 (length widths)

-- a row of a shown grid is its cells, up to the row's width
pub row_shown : (text : List ℕ) (runs : List Run) (widths : List ℕ) (r : ℕ)
    → row_at (grid_shown text runs widths) r ≡ map (λ c. shown_cell text runs r c) (range_with_len 0 (get_or widths r 0))
unfolding grid_shown
row_shown text runs widths r = grind (arith, common_steps, get_or-map-range_with_len, get_or_past, length-map-range_with_len)

-- a row of a shown grid is as long as its width says
pub width_shown : (text : List ℕ) (runs : List Run) (widths : List ℕ) (r : ℕ) → length (row_at (grid_shown text runs widths) r) ≡ get_or widths r 0
width_shown text runs widths r =
    ap length (row_shown text runs widths r) ∙ length-map-range_with_len (λ c. shown_cell text runs r c) 0 (get_or widths r 0)

-- no run holds a cell after a row's end
unheld : (text : List ℕ) (widths : List ℕ) (r c : ℕ) (d : Cell) (runs : List Run) → FitIn widths runs → get_or widths r 0 ≤ c → painted_over text r c d runs ≡ d
unheld text widths r c d [] fit past = refl
unheld text widths r c d (run ∷ runs) fit past =
    let rest = unheld text widths r c d runs (All-tail (λ x. x.cell + x.count ≤ get_or widths x.row 0) run runs fit) past in
    let first : run.cell + run.count ≤ get_or widths run.row 0 = fit 0 run (omega arith) in
    let no : holds run r c ≡ false = elim (cases_eq run.row r) [
      | inl here ↦ holds-after run r c (omega (arith, subst (λ k. run.cell + run.count ≤ get_or widths k 0) here first))
      | inr other ↦ holds_elsewhere run r c other
    ] in
    ap (λ (cell : Cell). painted_over text r c cell runs) (pick (run_cell text run c) d no) ∙ rest

-- a cell of a shown grid is what the runs show there
pub cell_shown : (text : List ℕ) (runs : List Run) (widths : List ℕ) (r c : ℕ) → FitIn widths runs
    → cell_at (grid_shown text runs widths) r c ≡ shown_cell text runs r c
cell_shown text runs widths r c fit = grind (arith, common_steps, row_shown, get_or-map-range_with_len, get_or_past, length-map-range_with_len, unheld)

-- rows that show the same
pub same_row : (old new : List ℕ) (runs now : List Run) (w v : List ℕ) (r : ℕ) → get_or v r 0 ≡ get_or w r 0
    → ((c : ℕ) → shown_cell new now r c ≡ shown_cell old runs r c) → row_at (grid_shown new now v) r ≡ row_at (grid_shown old runs w) r
same_row old new runs now w v r width same =
    let f = λ (c : ℕ). shown_cell new now r c in
    let g = λ (c : ℕ). shown_cell old runs r c in
    let n = get_or w r 0 in
    row_shown new now v r ∙ ap (λ k. map f (range_with_len 0 k)) width
    ∙ same_lists (map f (range_with_len 0 n)) (map g (range_with_len 0 n)) (length-map-range_with_len f 0 n ∙ sym (length-map-range_with_len g 0 n))
    (λ k d within.
    let inside : k < n = omega (arith, length-map-range_with_len f 0 n) in
    get_or-map-range_with_len f 0 n k k d inside (omega arith) ∙ same k ∙ sym (get_or-map-range_with_len g 0 n k k d inside (omega arith)))
    ∙ sym (row_shown old runs w r)

-- a grid whose runs show the same is the same
pub grid_same : (old new : List ℕ) (runs now : List Run) (widths : List ℕ) → ((r c : ℕ) → shown_cell new now r c ≡ shown_cell old runs r c)
    → grid_shown new now widths ≡ grid_shown old runs widths
grid_same old new runs now widths same =
    let a = grid_shown new now widths in
    let b = grid_shown old runs widths in
    same_lists a b (count_shown new now widths ∙ sym (count_shown old runs widths)) (λ r d within.
    let inside : r < length b = omega (arith, count_shown new now widths, count_shown old runs widths) in
    get_or_default a r d [] within ∙ same_row old new runs now widths widths r refl (λ c. same r c) ∙ sym (get_or_default b r d [] inside))

-- two grids that a write left are one
WritesCells-unique : (old a b : List (List Cell)) (row at : ℕ) (cells : List Cell) → WritesCells old a row at cells → WritesCells old b row at cells → a ≡ b
WritesCells-unique old a b row at cells one two =
    let cell_is : (c : ℕ) → cell_at a row c ≡ cell_at b row c = λ c. elim (cases_lt c at) [
      | inl before ↦ one.before c before ∙ sym (two.before c before)
      | inr low ↦ elim (cases_lt c (at + length cells)) [
        | inl high ↦
            let place : at + (c - at) ≡ c = omega arith in
            ap (cell_at a row) (sym place) ∙ one.inside (c - at) (omega arith) ∙ sym (two.inside (c - at) (omega arith)) ∙ ap (cell_at b row) place
        | inr after ↦ one.after c after ∙ sym (two.after c after)
      ]
    ] in
    let row_is : row_at a row ≡ row_at b row = same_lists (row_at a row) (row_at b row) (one.width ∙ sym two.width) (λ k d within.
    let inside : k < length (row_at b row) = omega (arith, one.width, two.width) in
    get_or_default (row_at a row) k d SPACE within ∙ cell_is k ∙ sym (get_or_default (row_at b row) k d SPACE inside)) in
    let each : (r : ℕ) → row_at a r ≡ row_at b r = λ r. elim (cases_eq r row) [
      | inl here ↦ subst (λ k. row_at a k ≡ row_at b k) (sym here) row_is
      | inr other ↦ one.others r other ∙ sym (two.others r other)
    ] in
    same_lists a b (one.count ∙ sym two.count) (λ r d within.
    let inside : r < length b = omega (arith, one.count, two.count) in
    get_or_default a r d [] within ∙ each r ∙ sym (get_or_default b r d [] inside))

-- a word over others writes its cells
WritesCells-shown : (old mid new : List ℕ) (runs now : List Run) (w v : List ℕ) (run : Run) (row at : ℕ) (role : ElementStyle) (word : List ℕ)
    → BeginsWith old mid → All (λ x. IsRun old x) runs → FitIn w runs → FitIn v now → IsWord mid row at role word run → ShowsMore mid new runs now run
    → IsWidened w v row (at + length (chars word)) → WritesCells (grid_shown old runs w) (grid_shown new now v) row at (text_cells role (chars word))
WritesCells-shown old mid new runs now w v run row at role word grows are fit_old fit_new is shows wide =
    let cells = text_cells role (chars word) in
    let before = grid_shown old runs w in
    let follows = grid_shown new now v in
    let long : length cells ≡ length (chars word) = length-text_cells role (chars word) in
    let count : run.count ≡ length (chars word) = is.is_run.counted ∙ ap length is.chars_are in
    let unchanged : (r c : ℕ) → holds run r c ≡ false → shown_cell new now r c ≡ shown_cell old runs r c = λ r c no.
    shows r c ∙ pick (run_cell mid run c) (shown_cell mid runs r c) no ∙ painted-grown old mid r c SPACE runs grows are in
    let same_cell : (r c : ℕ) → holds run r c ≡ false → cell_at follows r c ≡ cell_at before r c = λ r c no.
    cell_shown new now v r c fit_new ∙ unchanged r c no ∙ sym (cell_shown old runs w r c fit_old) in
    record {
      inside = λ k within.
          let yes = holds_inside run row (at + k) is.row_is (omega (arith, is.cell_is)) (omega (arith, is.cell_is, count, long)) in
          let index : (at + k) - run.cell ≡ k = omega (arith, is.cell_is) in
          let ch : get_or (run_chars mid run) ((at + k) - run.cell) 32 ≡ get_or (chars word) k 0 = ap
          (λ (cs : List ℕ). get_or cs ((at + k) - run.cell) 32) is.chars_are ∙ ap (λ i. get_or (chars word) i 32) index
          ∙ get_or_default (chars word) k 32 0 (omega arith) in
          cell_shown new now v row (at + k) fit_new ∙ shows row (at + k) ∙ pick (run_cell mid run (at + k)) (shown_cell mid runs row (at + k)) yes
          ∙ cell_same (run_cell mid run (at + k)) record { ch = get_or (chars word) k 0; role = role; link = None } ch is.role_is is.unlinked
          ∙ sym (slice_index_or-text_cells role (chars word) k SPACE (omega arith));
      before = λ c low. same_cell row c (holds_before run row c (omega (arith, is.cell_is)));
      after = λ c high. same_cell row c (holds-after run row c (omega (arith, is.cell_is, count, long)));
      others = λ r other. same_row old new runs now w v r (wide.others r other) (λ c. unchanged r c (holds_elsewhere run r c (λ h. other (sym h ∙ is.row_is))));
      width = width_shown new now v row ∙ wide.here ∙ ap (λ n. max n (at + length (chars word))) (sym (width_shown old runs w row))
          ∙ ap (λ n. max (length (row_at before row)) (at + n)) (sym long);
      count = count_shown new now v ∙ wide.count ∙ ap (λ n. max n (row + 1)) (sym (count_shown old runs w));
    }

-- a grid whose runs show a word put in is that grid with the word's cells written
pub grid_written : (old mid new : List ℕ) (runs now : List Run) (w v : List ℕ) (run : Run) (row at : ℕ) (role : ElementStyle) (word : List ℕ)
    → BeginsWith old mid → All (λ x. IsRun old x) runs → FitIn w runs → FitIn v now → IsWord mid row at role word run → ShowsMore mid new runs now run
    → IsWidened w v row (at + length (chars word))
    → grid_shown new now v ≡ cells_written (grid_shown old runs w) row at (text_cells role (chars word))
grid_written old mid new runs now w v run row at role word grows are fit_old fit_new is shows wide =
    WritesCells-unique (grid_shown old runs w) (grid_shown new now v) (cells_written (grid_shown old runs w) row at (text_cells role (chars word)))
    row at (text_cells role (chars word))
    (WritesCells-shown old mid new runs now w v run row at role word grows are fit_old fit_new is shows wide)
    (WritesCells-cells_written (grid_shown old runs w) row at (text_cells role (chars word)))

-- a word that was put at the end of the text
pub IsWord-pushed : (old new word : List ℕ) (run : Run) (row at : ℕ) (role : ElementStyle) → IsUtf8 old → IsUtf8 new → 0 < length (chars word)
    → at + length (chars word) < 2 ^ 64 → new ≡ old ++ word → run.row ≡ row → run.cell ≡ at → run.count ≡ length (chars word) → run.start ≡ length old
    → run.end ≡ length new → run.role ≡ role → option_copied run.link ≡ None → IsWord new row at role word run
IsWord-pushed old new word run row at role utf8 utf8_new some fits pushed row_is cell_is count start end role_is unlinked =
    grind (arith, common_steps, BeginsWith-append, run.end, stretch_added, BeginsWith-le, front_grown, is_utf8-end)

-- rows that are wider hold what they held
pub FitIn-widened : (w v : List ℕ) (row end : ℕ) (runs : List Run) → IsWidened w v row end → FitIn w runs → FitIn v runs
FitIn-widened w v row end runs wide fit = grind (arith, common_steps, wide.here, wide.others)

-- where a word's run ends
pub word_end : (text : List ℕ) (row at : ℕ) (role : ElementStyle) (word : List ℕ) (run : Run) → IsWord text row at role word run
    → run.cell + run.count ≡ at + length (chars word)
word_end text row at role word run is = omega (arith, is.cell_is, is.is_run.counted, ap length is.chars_are)

-- widths that are widened are so also where they are called otherwise
pub IsWidened-to : (old was new : List ℕ) (row m n : ℕ) → old ≡ was → m ≡ n → IsWidened old new row m → IsWidened was new row n
IsWidened-to old was new row m n same end wide =
    subst (λ (w : List ℕ). IsWidened w new row n) same (subst (λ k. IsWidened old new row k) end wide)

-- a grid whose text grew is the same
pub IsGrid-grown : (old new : List ℕ) (runs now : List Run) (w v : List ℕ) → BeginsWith old new → now ≡ runs → v ≡ w → IsGrid old runs w → IsGrid new now v
IsGrid-grown old new runs now w v grows same widths grid =
    let here : IsGrid new runs w = record {
      are_runs = All-IsRun-grown old new runs grows grid.are_runs;
      ordered = grid.ordered;
      apart = grid.apart;
      inside =
          grid.inside;
    } in
    subst (λ (l : List Run). IsGrid new l v) (sym same) (subst (λ (x : List ℕ). IsGrid new runs x) (sym widths) here)

-- a text that has grown shows the same grid of the same runs
pub grid_grown : (old new : List ℕ) (runs now : List Run) (w v : List ℕ) → BeginsWith old new → now ≡ runs → v ≡ w → IsGrid old runs w
    → grid_shown new now v ≡ grid_shown old runs w
grid_grown old new runs now w v grows same widths grid = grind (arith, common_steps, grid_same, painted-grown, grid.are_runs)

-- a fact of what a refused call leaves
pub on_err_from : {T E P : Type 0} (r : Result T E) → P → OnErr r P
on_err_from (Ok x) is = tt
on_err_from (Err e) is = is

-- a grid with no rows
pub grid_none : (text : List ℕ) (runs : List Run) (widths : List ℕ) → widths ≡ [] → grid_shown text runs widths ≡ []
unfolding grid_shown
grid_none text runs widths none =
    ap (λ (w : List ℕ). map (λ r. map (λ c. shown_cell text runs r c) (range_with_len 0 (get_or w r 0))) (range_with_len 0 (length w))) none

-- a text that has a byte has a character
pub chars_some : (text : List ℕ) → IsUtf8 text → 0 < length text → 0 < length (chars text)
chars_some text utf8 some = grind (arith, common_steps, encodes-chars text utf8, utf8, nil_from_length)

-- a grid that was read
pub IsGrid-read : (t s : List ℕ) (runs now : List Run) (w v : List ℕ) → s ≡ t → now ≡ runs → v ≡ w → IsGrid t runs w → IsGrid s now v
IsGrid-read t s runs now w v text same widths grid = grind (arith, common_steps)

-- the same text, runs and widths show the same grid
pub grid_read : (t s : List ℕ) (runs now : List Run) (w v : List ℕ) → s ≡ t → now ≡ runs → v ≡ w → grid_shown s now v ≡ grid_shown t runs w
grid_read t s runs now w v text same widths =
    ap (λ (x : List ℕ). grid_shown x now v) text ∙ ap (λ (l : List Run). grid_shown t l v) same ∙ ap (λ (x : List ℕ). grid_shown t runs x) widths

-- the characters that a text goes on with are those that were added to it
pub chars_added : (old new cs : List ℕ) → IsUtf8 old → IsUtf8 new → new ≡ old ++ encode_utf8_all cs → BeginsWith old new
    → chars (encode_utf8_all cs) ≡ cs
chars_added old new cs utf8_old utf8_new added grows =
    let word = encode_utf8_all cs in
    let starts = ap is_utf8 (front_grown old new (length old) grows (omega arith)) ∙ is_utf8-end old utf8_old in
    let part : IsUtf8 (stretch new (length old) (length new)) =
    IsUtf8-stretch new (length old) (length new) utf8_new (BeginsWith-le old new grows) (omega arith) starts (is_utf8-end new utf8_new) in
    let is : stretch new (length old) (length new) ≡ word = ap (λ (t : List ℕ). stretch t (length old) (length t)) added ∙ stretch_added old word in
    sym (chars_from_encodes cs word (subst IsUtf8 is part) refl)

-- the text of one character
pub one_char : (ch : ℕ) (text : List ℕ) → IsUtf8 text → text ≡ encode_utf8 ch → chars text ≡ ch ∷ []
one_char ch text utf8 is =
    sym (chars_from_encodes (ch ∷ []) text utf8 (append-nil (encode_utf8 ch) ∙ sym is))

-- What is stored after a call that was refused, or that wrote.
-- rows, and a number of runs
abbrev kept : List (List Cell) → ℕ → Stored
kept rows n = record { rows = rows; num_runs = n }

-- the same rows shown by as many runs are the same
pub stored_same : (old new : List ℕ) (runs now : List Run) (w v : List ℕ) → grid_shown new now v ≡ grid_shown old runs w → length now ≡ length runs
    → stored new now v ≡ stored old runs w
stored_same old new runs now w v rows count = ap (λ (r : List (List Cell)). kept r (length now)) rows ∙ ap (λ n. kept (grid_shown old runs w) n) count

-- a text that has grown stores the same by the same runs
pub stored_grown : (old new : List ℕ) (runs now : List Run) (w v : List ℕ) → BeginsWith old new → now ≡ runs → v ≡ w → IsGrid old runs w
    → stored new now v ≡ stored old runs w
stored_grown old new runs now w v grows same widths grid =
    stored_same old new runs now w v (grid_grown old new runs now w v grows same widths grid) (ap (λ (l : List Run). length l) same)

-- The cells of a window, and how they are written.
use Rattle.std.proofs.lemmas.Grind.{common_steps}
use Rattle.snippet_strokes.proofs.Common.{◌≡◌, ℕ, ◌+◌, ◌-◌, ◌<◌, ◌≤◌, ◌^◌, ◌==◌, false, Option, None, Some, IfSome, List, []}
use Rattle.snippet_strokes.proofs.Common.{◌∷◌, ◌++◌, length, refl, sym, ap, ◌∙◌, arith, add-zero, All, IsUtf8, nat_lt, places, same_lists}
use Rattle.snippet_strokes.proofs.Common.{All-take, All-drop, chars-nil, each_fails, uncovered_short, part_short, Margin, nat_tests, inner_part}
use Rattle.snippet_strokes.proofs.Common.{covered_columns, uncovered_part, covered_end, DecorStyle, Ascii, Unicode, ElementStyle, LineNumber, Quotation}
use Rattle.snippet_strokes.proofs.Common.{placeholder_of, cells_written, Cell, SPACE, text_cells, written, cells_written_last, length-text_cells}
use Rattle.snippet_strokes.proofs.Common.{length-written, is_listed, norm, IsFree, window_cells, with_cells, begun_cells, ended_cells, free_drawn, free_written}
use Rattle.snippet_strokes.proofs.Common.{chars_some, Layout, with_bars, part_glyph, BarStroke, OpenBar, bar_cell, bar_cell_part, Write, if◌then◌else◌}
use Rattle.snippet_strokes.proofs.Common.{flat_map, code_cell, PlacedEntry, is_primary, strokes_of, stroke_role, stems_of, connector_of, corner_of, label_of}
use Rattle.snippet_strokes.proofs.Common.{first_glyph, mark_end, connectors_of, corners_of, labels_of, glyph_at, stretch_of, Bool, ◌&&◌, option_map_or}
use Rattle.snippet_strokes.proofs.Common.{inner_cell, is_start_part, LineAnnotationType, gives_way, separator_row, bar_at}
use Rattle.snippet_strokes.proofs.Common.{foot_glyph, bare_row, column_of, list_any, LineAnnotation, UnderlinePrimary, UnderlineSecondary, highlights}
use Rattle.snippet_strokes.proofs.Common.{replaced_within, rules}
use Rattle.std.proofs.Common.{chars}
use Rattle.std.specs.Prelude.{replicate, fold}
use Rattle.snippet_strokes.proofs.CutWords.{Stretch}

-- the cells that are written from a cell on, after those that stand there
abbrev pub put : ℕ → List Cell → List Cell → List Cell
put k cells [] = cells
put k cells (y ∷ ys) = written SPACE cells k (y ∷ ys)

with_cells-some : (code : ℕ) (cells row : List Cell) → 0 < length cells → with_cells code cells row ≡ written SPACE row code cells
with_cells-some code [] row some = absurd (omega arith)
with_cells-some code (c ∷ cells) row some = refl

-- writing after a row that has some cells from `code` on
written_after : (code k : ℕ) (cells row ys : List Cell) → length row ≤ code → 0 < length cells
    → written SPACE (written SPACE row code cells) (code + k) ys ≡ written SPACE row code (written SPACE cells k ys)
written_after code k cells row ys ends some =
    same_lists _ _ (unfold written in grind (arith, places)) (λ i d h. unfold written in grind (arith, places))

written_first : (code k : ℕ) (row ys : List Cell) → length row ≤ code → written SPACE row (code + k) ys ≡ written SPACE row code (written SPACE [] k ys)
written_first code k row ys ends =
    same_lists _ _ (unfold written in grind (arith, places)) (λ i d h. unfold written in grind (arith, places))

-- one write more
put_more : (code k : ℕ) (cells row : List Cell) (y : Cell) (ys : List Cell) → length row ≤ code
    → written SPACE (with_cells code cells row) (code + k) (y ∷ ys) ≡ with_cells code (written SPACE cells k (y ∷ ys)) row
put_more code k [] row y ys ends =
    written_first code k row (y ∷ ys) ends ∙ sym (with_cells-some code (written SPACE [] k (y ∷ ys)) row (omega (arith, length-written SPACE [] k (y ∷ ys))))
put_more code k (c ∷ cells) row y ys ends = grind (arith, written_after, with_cells-some, length-written)

-- a text that is put after the cells of the last row
pub put_text : (above mid new : List (List Cell)) (cells row : List Cell) (r code k : ℕ) (bytes : List ℕ) (role : ElementStyle) → IsUtf8 bytes
    → length row ≤ code → mid ≡ above ++ with_cells code cells row ∷ [] → r ≡ length above
    → (0 < length bytes → new ≡ cells_written mid r (code + k) (text_cells role (chars bytes))) → (bytes ≡ [] → new ≡ mid)
    → new ≡ above ++ with_cells code (put k cells (text_cells role (chars bytes))) row ∷ []
put_text above mid new cells row r code k [] role utf8 ends before last writes stays =
    stays refl ∙ before ∙ ap (λ cs. above ++ with_cells code (put k cells (text_cells role cs)) row ∷ []) (sym chars-nil)
put_text above mid new cells row r code k (b ∷ bs) role utf8 ends before last writes stays =
    some (chars (b ∷ bs)) (chars_some (b ∷ bs) utf8 (omega arith)) (writes (omega arith))
  where
    some : (cs : List ℕ) → 0 < length cs → new ≡ cells_written mid r (code + k) (text_cells role cs)
        → new ≡ above ++ with_cells code (put k cells (text_cells role cs)) row ∷ []
    some [] none is = absurd (omega arith)
    some (c ∷ cs) more is = grind (arith, common_steps, cells_written_last, put_more)

-- the cells of a text that begins a window
pub put_alone : (role : ElementStyle) (cs : List ℕ) → put 0 [] (text_cells role cs) ≡ text_cells role cs
put_alone role [] = refl
put_alone role (c ∷ cs) =
    same_lists _ _ (unfold written in grind (arith, places)) (λ i d h. unfold written in grind (arith, places))

placeholder_some : (decor : DecorStyle) (cells : List Cell) (k : ℕ)
    → put k cells (text_cells LineNumber (placeholder_of decor)) ≡ written SPACE cells k (text_cells LineNumber (placeholder_of decor))
placeholder_some Ascii cells k = refl
placeholder_some Unicode cells k = refl

-- a number above zero isn't zero
pub above_zero : (n : ℕ) → 0 < n → (n == 0) ≡ false
above_zero n some = grind (arith, nat_tests)

pub put_begun : (decor : DecorStyle) (columns : ℕ) (cs : List ℕ)
    → put columns (put 0 [] (text_cells LineNumber (placeholder_of decor))) (text_cells Quotation cs) ≡ begun_cells decor (Some columns) cs
put_begun decor columns [] = put_alone LineNumber (placeholder_of decor)
put_begun decor columns (c ∷ cs) =
    ap (λ cells. written SPACE cells columns (text_cells Quotation (c ∷ cs))) (put_alone LineNumber (placeholder_of decor))

pub put_ended : (decor : DecorStyle) (at : ℕ) (cells : List Cell)
    → put at cells (text_cells LineNumber (placeholder_of decor)) ≡ ended_cells decor (Some at) cells
put_ended decor at cells = placeholder_some decor cells at

-- no cell of it is listed
pub free_placeholder : (decor : DecorStyle) → IsFree (text_cells LineNumber (placeholder_of decor))
free_placeholder Ascii = free_drawn LineNumber (placeholder_of Ascii) (each_fails is_listed (placeholder_of Ascii) refl)
free_placeholder Unicode = free_drawn LineNumber (placeholder_of Unicode) (each_fails is_listed (placeholder_of Unicode) refl)

free_begun : (decor : DecorStyle) (start : Option ℕ) (text : List ℕ) → All (λ c. is_listed c ≡ false) text → IsFree (begun_cells decor start text)
free_begun decor None text free = free_drawn Quotation text free
free_begun decor (Some columns) [] free = free_placeholder decor
free_begun decor (Some columns) (c ∷ cs) free =
    free_written (text_cells LineNumber (placeholder_of decor)) columns (text_cells Quotation (c ∷ cs)) (free_placeholder decor)
    (free_drawn Quotation (c ∷ cs) free)

-- the cells that show a text without listed characters are free
pub free_shown : (decor : DecorStyle) (start : Option ℕ) (text : List ℕ) (end : Option ℕ) → All (λ c. is_listed c ≡ false) text
    → IsFree (ended_cells decor end (begun_cells decor start text))
free_shown decor start text None free = free_begun decor start text free
free_shown decor start text (Some at) free =
    free_written (begun_cells decor start text) at (text_cells LineNumber (placeholder_of decor)) (free_begun decor start text free) (free_placeholder decor)

-- a placeholder is at most three cells
placeholder_short : (decor : DecorStyle) → length (text_cells LineNumber (placeholder_of decor)) ≤ 3
placeholder_short Ascii = omega arith
placeholder_short Unicode = omega arith

begun_short : (decor : DecorStyle) (start : Option ℕ) (text : List ℕ) → IfSome start (λ s. s < 2 ^ 59) → length text < 2 ^ 60
    → length (begun_cells decor start text) < 2 ^ 61
begun_short decor None text few short = omega (arith, length-text_cells Quotation text)
begun_short decor (Some columns) [] few short = omega (arith, placeholder_short decor)
begun_short decor (Some columns) (c ∷ cs) few short = grind (arith, placeholder_short, length-written, length-text_cells)

-- the cells that show a short text are few
pub shown_short : (decor : DecorStyle) (start : Option ℕ) (text : List ℕ) (end : Option ℕ) → IfSome start (λ s. s < 2 ^ 59) → length text < 2 ^ 60
    → IfSome end (λ at. at < 2 ^ 61) → length (ended_cells decor end (begun_cells decor start text)) < 2 ^ 61 + 4
shown_short decor start text None few short ends = omega (arith, begun_short decor start text few short)
shown_short decor start text (Some at) few short ends = grind (arith, begun_short, length-written, placeholder_short)

-- the text of a window holds no listed character
pub unlisted_part : (left room from right : ℕ) (placeholder text : List ℕ) → All (λ c. is_listed c ≡ false) text
    → All (λ c. is_listed c ≡ false) (uncovered_part left placeholder (inner_part room from right text))
unlisted_part left room from right placeholder text free = grind (arith, common_steps, All-take, All-drop)

-- the beginning of a window is written, where lines aren't cut on the left
pub begun_plain : (decor : DecorStyle) (start : Option ℕ) (above old new : List (List Cell)) (row : List Cell) (r code : ℕ) (text : List ℕ)
    → start ≡ None → IsUtf8 text → (0 < length text → new ≡ cells_written old r code (text_cells Quotation (chars text))) → (text ≡ [] → new ≡ old)
    → r ≡ length above → length row ≤ code → old ≡ above ++ row ∷ [] → new ≡ above ++ with_cells code (begun_cells decor start (chars text)) row ∷ []
begun_plain decor start above old new row r code text none utf8 writes stays last ends before =
    put_text above old new [] row r code 0 text Quotation utf8 ends before last
    (λ some. writes some ∙ ap (λ k. cells_written old r k (text_cells Quotation (chars text))) (sym (add-zero code))) stays
    ∙ ap (λ cells. above ++ with_cells code cells row ∷ []) (put_alone Quotation (chars text))
    ∙ ap (λ s. above ++ with_cells code (begun_cells decor s (chars text)) row ∷ []) (sym none)

-- and where they are
pub begun_cut : (decor : DecorStyle) (start : Option ℕ) (columns : ℕ) (above old mid new : List (List Cell)) (row : List Cell) (r code : ℕ)
    (placeholder text : List ℕ) → start ≡ Some columns → IsUtf8 placeholder → IsUtf8 text → chars placeholder ≡ placeholder_of decor
    → (0 < length placeholder → mid ≡ cells_written old r code (text_cells LineNumber (chars placeholder))) → (placeholder ≡ [] → mid ≡ old)
    → (0 < length text → new ≡ cells_written mid r (code + columns) (text_cells Quotation (chars text))) → (text ≡ [] → new ≡ mid) → r ≡ length above
    → length row ≤ code → old ≡ above ++ row ∷ [] → new ≡ above ++ with_cells code (begun_cells decor start (chars text)) row ∷ []
begun_cut decor start columns above old mid new row r code placeholder text some utf8_placeholder utf8 is first first_stays writes stays last ends before =
    let placed = put_text above old mid [] row r code 0 placeholder LineNumber utf8_placeholder ends before last (λ more.
    first more ∙ ap (λ k. cells_written old r k (text_cells LineNumber (chars placeholder))) (sym (add-zero code))) first_stays in
    put_text above mid new (put 0 [] (text_cells LineNumber (chars placeholder))) row r code columns text Quotation utf8 ends placed last writes stays
    ∙ ap (λ (cs : List ℕ). above ++ with_cells code (put columns (put 0 [] (text_cells LineNumber cs)) (text_cells Quotation (chars text)))
    row ∷ []) is ∙ ap (λ cells. above ++ with_cells code cells row ∷ []) (put_begun decor columns (chars text))
    ∙ ap (λ s. above ++ with_cells code (begun_cells decor s (chars text)) row ∷ []) (sym some)

-- the end of a window is written
pub ended_cut : (decor : DecorStyle) (end : Option ℕ) (at : ℕ) (above old new : List (List Cell)) (row cells : List Cell) (r code : ℕ)
    (placeholder : List ℕ) → end ≡ Some at → IsUtf8 placeholder → chars placeholder ≡ placeholder_of decor
    → (0 < length placeholder → new ≡ cells_written old r (code + at) (text_cells LineNumber (chars placeholder))) → (placeholder ≡ [] → new ≡ old)
    → r ≡ length above → length row ≤ code → old ≡ above ++ with_cells code cells row ∷ []
    → new ≡ above ++ with_cells code (ended_cells decor end cells) row ∷ []
ended_cut decor end at above old new row cells r code placeholder some utf8 is writes stays last ends before =
    put_text above old new cells row r code at placeholder LineNumber utf8 ends before last writes stays
    ∙ ap (λ (cs : List ℕ). above ++ with_cells code (put at cells (text_cells LineNumber cs)) row ∷ []) is
    ∙ ap (λ cs. above ++ with_cells code cs row ∷ []) (put_ended decor at cells)
    ∙ ap (λ e. above ++ with_cells code (ended_cells decor e cells) row ∷ []) (sym some)

-- the text of a window is no longer than its line
pub part_few : (left room from right : ℕ) (placeholder text : List ℕ) → length (uncovered_part left placeholder (inner_part room from right text)) ≤ length text
part_few left room from right placeholder text = grind (arith, uncovered_short, part_short)

-- the cells of a window that was found
pub cells_are : (decor : DecorStyle) (margin : Margin) (start end : Option ℕ) (shown placeholder cs text : List ℕ)
    → placeholder ≡ placeholder_of decor → cs ≡ text
    → start ≡ covered_columns margin.computed_left placeholder (inner_part margin.term_width margin.computed_left margin.computed_right cs)
    → shown ≡ uncovered_part margin.computed_left placeholder (inner_part margin.term_width margin.computed_left margin.computed_right cs)
    → end ≡ covered_end margin.term_width margin.computed_left margin.computed_right placeholder cs
    → ended_cells decor end (begun_cells decor start shown) ≡ window_cells decor margin text
cells_are decor margin start end shown placeholder cs text is_placeholder is_text is_start is_shown is_end = search rules

-- nothing stands in the window of a line with no text, where lines aren't cut on the left
pub no_window : (decor : DecorStyle) (margin : Margin) → margin.computed_left ≡ 0 → window_cells decor margin [] ≡ []
no_window decor margin uncut = search rules

-- and nothing is shown of such a line
pub nothing_shown : (line : List ℕ) → length line ≡ 0 → norm (chars line) ≡ []
unfolding norm
nothing_shown [] none = ap norm chars-nil
nothing_shown (c ∷ cs) none = absurd (omega (arith, none))

-- Words for the parts of the strokes of a line, which proofs cite.
-- the stem of an entry, so many rows below the row of the marks
abbrev pub stem_write : Layout → ℕ → PlacedEntry → ℕ → Write
stem_write layout row e below =
    glyph_at (row + below) (code_cell layout e.entry.start.display)
    (if below == e.position then foot_glyph layout.decor e else (strokes_of layout.decor (is_primary e.entry.kind)).stem) (stroke_role e)

-- the line from the bar of this depth to before the start of an entry
abbrev pub line_to : Layout → ℕ → PlacedEntry → ℕ → List Write
line_to layout row e depth =
    stretch_of (row + e.position) (inner_cell layout + depth) (code_cell layout e.entry.start.display)
    (strokes_of layout.decor (is_primary e.entry.kind)).connector (stroke_role e)

-- a bar in the rows from one to before another
abbrev pub bar_writes : Layout → PlacedEntry → ℕ → ℕ → ℕ → List Write
bar_writes layout e depth start end =
    column_of start end (bar_cell layout depth) (strokes_of layout.decor (is_primary e.entry.kind)).bar (stroke_role e)

-- the bar of an entry that stands for this part of a span, with its corner
abbrev pub corner_by : Layout → ℕ → ℕ → PlacedEntry → LineAnnotationType → List Write
corner_by layout row count e part =
    let strokes = strokes_of layout.decor (is_primary e.entry.kind) in
    let corner = row + 1 + e.position in
    let drawn : ℕ → List Write = λ depth. if is_start_part part
    then glyph_at corner (bar_cell layout depth) strokes.bar_top (stroke_role e) ∷ bar_writes layout e depth (corner + 1) count
    else bar_writes layout e depth row corner ++ glyph_at corner (bar_cell layout depth) strokes.bar_bottom (stroke_role e) ∷ [] in
    option_map_or (λ bar. drawn bar.depth) (bar_at part (is_primary e.entry.kind)) []

-- what of it stands in the source row
abbrev pub top_by : Layout → ℕ → PlacedEntry → LineAnnotationType → List Write
top_by layout row e part =
    let strokes = strokes_of layout.decor (is_primary e.entry.kind) in
    let drawn : ℕ → List Write = λ depth. if is_start_part part then [] else glyph_at row (bar_cell layout depth) strokes.bar (stroke_role e) ∷ [] in
    option_map_or (λ bar. drawn bar.depth) (bar_at part (is_primary e.entry.kind)) []

-- the source row of a line with the rows of its strokes below it, before they are drawn
abbrev pub begun_rows : Layout → Bool → ℕ → List Cell → List (List Cell)
begun_rows layout closes count source =
    source ∷ (replicate (count - 1) (separator_row layout.decor layout.gutter) ++ bare_row layout.decor layout.gutter closes ∷ [])

-- the role of a cell of a source row, one which has this role, with what entries highlight: that of primary marks where a
-- primary entry asks for it, else that of marks for context where an entry asks and the cell's role gives way
abbrev pub role_in_source : ℕ → ℕ → List LineAnnotation → ℕ → ElementStyle → ElementStyle
role_in_source code dropped es c role =
    if list_any (λ e. is_primary e.kind && highlights code dropped c e) es then UnderlinePrimary else
    (if list_any (highlights code dropped c) es && gives_way role then UnderlineSecondary else role)

-- a row with the placeholder in place of these stretches; one that the row doesn't hold stays
abbrev pub cut_row : DecorStyle → List Stretch → List Cell → List Cell
cut_row decor cuts row = fold (λ cells cut. replaced_within cut.from cut.to (text_cells LineNumber (placeholder_of decor)) cells) row cuts

-- Strokes as the code draws them: marks from their first glyph on, and no stem that the next one's covers.
-- the mark of an entry, if it takes any cell: its first glyph, and the underline after it
abbrev pub drawn_mark : Layout → ℕ → PlacedEntry → List Write
drawn_mark layout row e =
    let from = code_cell layout e.entry.start.display in
    let to = code_cell layout (mark_end e) in
    if nat_lt from to then glyph_at row from (first_glyph layout.decor e) (stroke_role e) ∷ stretch_of row (from + 1) to
    (strokes_of layout.decor (is_primary e.entry.kind)).underline (stroke_role e) else []

-- the marks of some entries, in the order in which they are painted
abbrev pub marks_of : Layout → ℕ → List PlacedEntry → List Write
marks_of layout row order = flat_map (drawn_mark layout row) order

-- the strokes of a line but its marks
abbrev pub drawn_under_marks : Layout → ℕ → ℕ → List PlacedEntry → List Write
drawn_under_marks layout row count placed =
    connectors_of layout (row + 1) placed ++ corners_of layout row count placed ++ stems_of layout (row + 1) placed ++ labels_of layout (row + 1) placed

-- all of them
abbrev pub drawn_strokes : Layout → ℕ → ℕ → List PlacedEntry → List PlacedEntry → List Write
drawn_strokes layout row count placed order =
    flat_map (connector_of layout (row + 1)) placed ++ flat_map (corner_of layout row count) placed ++ stems_of layout (row + 1) placed
    ++ flat_map (label_of layout (row + 1)) placed ++ flat_map (drawn_mark layout (row + 1)) order

-- One bar that is drawn into a row, and one write into rows: what `with_parts` and `painted` do at each step.
-- a row with a part of a bar in the cell of its depth
abbrev pub with_bar : Layout → BarStroke → List Cell → OpenBar → List Cell
with_bar layout stroke row bar =
    written SPACE row (bar_cell layout bar.depth) (bar_cell_part layout stroke bar ∷ [])

-- rows after one write
abbrev pub written_by : List (List Cell) → Write → List (List Cell)
written_by rows w = cells_written rows w.row w.cell (text_cells w.role w.text)

-- Parts of bars beside a row, as the code draws them.
-- a row with a part of each of some bars
abbrev pub with_parts : Layout → BarStroke → List OpenBar → List Cell → List Cell
with_parts layout stroke bars row = with_bars layout (part_glyph stroke) bars row

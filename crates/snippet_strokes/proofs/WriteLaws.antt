-- Laws of rows after writes: what no write reaches stays, the last write of a cell stands, and writes with a property leave
-- rows with it.
use Rattle.snippet_strokes.proofs.Common.{All, ◌≡◌, ◌≢◌, ℕ, ◌+◌, ◌<◌, ◌≤◌, ◌^◌, Bool, true, false, List, [], ◌∷◌, drop, filter, length, map, not, take}
use Rattle.snippet_strokes.proofs.Common.{if◌then◌else◌, slice_index_or, shown_number, LineNumbers, IsFree, is_bar, AnnotatedLineInfo, LineAnnotation, Cell}
use Rattle.snippet_strokes.proofs.Common.{SPACE, text_cells, unlinked_cell, separator_of, closing_row, LineNumber, norm, width_of, StandsClear, dropped_part}
use Rattle.snippet_strokes.proofs.Common.{Margin, Layout, separator_cell, is_end_part, shifted, PlacedEntry, Solid, Top, OpenBar, bars_apart, ends_of_bars}
use Rattle.snippet_strokes.proofs.Common.{is_whole_line, ArePlaced, overlapped, AreDrawable, row_count, painting_order, source_row, window_cells, painted}
use Rattle.snippet_strokes.proofs.Common.{with_blocks}
use Rattle.snippet_strokes.proofs.Common.{◌++◌, get_or, refl, sym, ap, ◌∙◌, arith, inl, inr, AnnotationKind, Primary, Context, Visible, cells_written}
use Rattle.snippet_strokes.proofs.Common.{label_role, is_mark_role, HasRows, has_label, Write, label_of, labels_of, HasPlace, ◌-◌, ◌⊎◌, cases_lt, cases_eq}
use Rattle.snippet_strokes.proofs.Common.{All-head, All-tail, All-weaker, flat_map, cell_at, row_at, WritesCells-cells_written, length-text_cells}
use Rattle.snippet_strokes.proofs.Common.{slice_index_or-text_cells, IsFreeCell, nat_lt, replicate, nat_tests, take_more, append-nil, flat_map-append}
use Rattle.snippet_strokes.proofs.Common.{fold-append, ElementStyle, strokes_of, is_primary, stroke_role, first_glyph, mark_end, stretch_of, common_steps}
use Rattle.snippet_strokes.proofs.Common.{rules, code_cell, label_place, pieces_at, row_at-cells_written_same, written}
use Rattle.std.proofs.Common.{chars}
use Rattle.snippet_strokes.specs.Squeezed.{middles_replaced, squeezed}
use Rattle.snippet_strokes.proofs.CellLemmas.{with_parts, cut_row, role_in_source, begun_rows, drawn_strokes, written_by, drawn_mark}
use Rattle.snippet_strokes.proofs.CutWords.{cuts_of}
use Rattle.snippet_strokes.proofs.DrawnCells.{DrawsFrom, MarksStarts, StandsFrom}
use Rattle.snippet_strokes.proofs.Reach.{Reaches, IsWithin, cell_of_write}
use Rattle.snippet_strokes.proofs.EachStroke.{each_label}
use Rattle.snippet_strokes.proofs.PieceWrites.{AreFree, All-pieces_at, has_piece, label_of-none, label_parts_of, label_write, piece_within}
use Rattle.snippet_strokes.proofs.PositionLemmas.{label_column}
use Rattle.snippet_labels.specs.Positions.{pieces_of}

-- Rows after writes.
-- one write more, and some more
pub painted-append : (ws vs : List Write) (rows : List (List Cell)) → painted (ws ++ vs) rows ≡ painted vs (painted ws rows)
painted-append ws vs rows = fold-append written_by rows ws vs

-- what a rule gives for one thing more
pub flat_map-take_more : {X : Type 0} (f : X → List Write) (xs : List X) (i : ℕ) (d : X) → i < length xs
    → flat_map f (take (i + 1) xs) ≡ flat_map f (take i xs) ++ f (get_or xs i d)
flat_map-take_more f xs i d within = grind (arith, common_steps, nat_tests, take_more, flat_map-append, append-nil)

-- the step of a loop that paints what a rule gives for each of some things
pub painted_more : {X : Type 0} (f : X → List Write) (xs : List X) (i : ℕ) (x : X) (old mid : List (List Cell)) → i < length xs → x ≡ get_or xs i x
    → mid ≡ painted (flat_map f (take i xs)) old → painted (f x) mid ≡ painted (flat_map f (take (i + 1) xs)) old
painted_more f xs i x old mid within is so_far = grind (arith, common_steps, nat_tests, painted-append, flat_map-take_more)

-- ---- stretches, columns and marks

-- the test answers yes for a lesser number
pub less : (a b : ℕ) → a < b → nat_lt a b ≡ true
less a b is = grind (arith, nat_tests)

-- where a stretch has no cell nothing is written
pub stretch_of-none : (row from to glyph : ℕ) (role : ElementStyle) → to ≤ from → stretch_of row from to glyph role ≡ []
stretch_of-none row from to glyph role past = search rules

-- and else one text, of as many glyphs as it has cells
pub stretch_painted : (row from to glyph : ℕ) (role : ElementStyle) (cs : List ℕ) (old new : List (List Cell)) → from < to → cs ≡ replicate (to - from) glyph
    → new ≡ cells_written old row from (text_cells role cs) → new ≡ painted (stretch_of row from to glyph role) old
stretch_painted row from to glyph role cs old new some is writes = search rules

-- an entry whose mark has no cell
pub drawn_mark-none : (layout : Layout) (row : ℕ) (e : PlacedEntry) → mark_end e ≤ e.entry.start.display → drawn_mark layout row e ≡ []
drawn_mark-none layout row e past = search rules

-- a mark is its first glyph, and the underline after it
pub mark_painted : (layout : Layout) (row : ℕ) (e : PlacedEntry) (first underline : ℕ) (role : ElementStyle) (end : ℕ)
    (old mid new : List (List Cell)) → e.entry.start.display < mark_end e → end ≡ mark_end e → first ≡ first_glyph layout.decor e
    → underline ≡ (strokes_of layout.decor (is_primary e.entry.kind)).underline → role ≡ stroke_role e
    → mid ≡ cells_written old row (layout.code + e.entry.start.display) (text_cells role (first ∷ []))
    → new ≡ painted (stretch_of row (layout.code + e.entry.start.display + 1) (layout.code + end) underline role) mid
    → new ≡ painted (drawn_mark layout row e) old
mark_painted layout row e first underline role end old mid new some is_end is_first is_underline is_role begins continues = search rules

-- a cell after one write: the write's where it reaches, else what was there
pub cell-written : (w : Write) (rows : List (List Cell)) (r c : ℕ) → Reaches r c w → cell_at (written_by rows w) r c ≡ cell_of_write w c
cell-written w rows r c reaches =
    let writes = WritesCells-cells_written rows w.row w.cell (text_cells w.role w.text) in
    let k : ℕ = c - w.cell in
    let within : k < length w.text = omega (arith, reaches.from, reaches.to) in
    let here : w.cell + k ≡ c = omega (arith, reaches.from) in
    ap (λ n. cell_at (written_by rows w) n c) (sym reaches.row) ∙ ap (cell_at (written_by rows w) w.row) (sym here)
    ∙ writes.inside k (omega (arith, within, length-text_cells w.role w.text)) ∙ slice_index_or-text_cells w.role w.text k SPACE within

pub cell-unwritten : (w : Write) (rows : List (List Cell)) (r c : ℕ) → (Reaches r c w → ⊥) → cell_at (written_by rows w) r c ≡ cell_at rows r c
cell-unwritten w rows r c beside =
    let writes = WritesCells-cells_written rows w.row w.cell (text_cells w.role w.text) in
    elim (cases_eq r w.row) [
      | inl here ↦ ap (λ n. cell_at (written_by rows w) n c) here ∙ elim (cases_lt c w.cell) [
        | inl left ↦ writes.before c left
        | inr after ↦ elim (cases_lt c (w.cell + length w.text)) [
          | inl inside ↦ absurd (beside (record { row = sym here; from = omega (arith, after); to = inside }))
          | inr right ↦ writes.after c (omega (arith, right, length-text_cells w.role w.text))
        ]
      ] ∙ ap (λ n. cell_at rows n c) (sym here)
      | inr other ↦ ap (λ row. get_or row c SPACE) (writes.others r other)
    ]

reached : (w : Write) (r c : ℕ) → Reaches r c w ⊎ (Reaches r c w → ⊥)
reached w r c = search rules

kept_written : (P : Cell → Type 0) (w : Write) (rows : List (List Cell)) (r c : ℕ) → P (cell_at rows r c) → (Reaches r c w → P (cell_of_write w c))
    → P (cell_at (written_by rows w) r c)
kept_written P w rows r c before leaves = grind (arith, cell-written, cell-unwritten)

-- what holds of a cell, and of what each write leaves there that reaches it, holds after the writes
pub painted-cell : (P : Cell → Type 0) (ws : List Write) (rows : List (List Cell)) (r c : ℕ) → P (cell_at rows r c)
    → All (λ w. Reaches r c w → P (cell_of_write w c)) ws → P (cell_at (painted ws rows) r c)
painted-cell P [] rows r c before all = before
painted-cell P (w ∷ ws) rows r c before all =
    let Q : Write → Type 0 = λ v. Reaches r c v → P (cell_of_write v c) in
    painted-cell P ws (written_by rows w) r c (kept_written P w rows r c before (All-head Q w ws all)) (All-tail Q w ws all)

-- a cell that no write reaches stays
pub painted-untouched : (ws : List Write) (rows : List (List Cell)) (r c : ℕ) → All (λ w. Reaches r c w → ⊥) ws
    → cell_at (painted ws rows) r c ≡ cell_at rows r c
painted-untouched [] rows r c beside = refl
painted-untouched (w ∷ ws) rows r c beside =
    painted-untouched ws (written_by rows w) r c (All-tail (λ v. Reaches r c v → ⊥) w ws beside)
    ∙ cell-unwritten w rows r c (All-head (λ v. Reaches r c v → ⊥) w ws beside)

-- the last write of a cell stands
pub painted-last : (ws vs : List Write) (w : Write) (rows : List (List Cell)) (r c : ℕ) → Reaches r c w → All (λ v. Reaches r c v → ⊥) vs
    → cell_at (painted (ws ++ w ∷ vs) rows) r c ≡ cell_of_write w c
painted-last ws vs w rows r c reaches beside = grind (arith, painted-append, painted-untouched, cell-written)

-- a row in which nothing is written stays
pub painted-other : (ws : List Write) (rows : List (List Cell)) (r : ℕ) → All (λ w. r ≢ w.row) ws → row_at (painted ws rows) r ≡ row_at rows r
painted-other [] rows r beside = refl
painted-other (w ∷ ws) rows r beside =
    painted-other ws (written_by rows w) r (All-tail (λ v. r ≢ v.row) w ws beside)
    ∙ (WritesCells-cells_written rows w.row w.cell (text_cells w.role w.text)).others r (All-head (λ v. r ≢ v.row) w ws beside)

-- rows that are there are no more after it
pub painted-count : (ws : List Write) (rows : List (List Cell)) (n : ℕ) → n ≡ length rows → All (λ w. w.row < n) ws → length (painted ws rows) ≡ n
painted-count [] rows n is there = sym is
painted-count (w ∷ ws) rows n is there =
    let here : w.row < n = All-head (λ v. v.row < n) w ws there in
    painted-count ws (written_by rows w) n (omega (arith, is, here, (WritesCells-cells_written rows w.row w.cell (text_cells w.role w.text)).count))
    (All-tail (λ v. v.row < n) w ws there)

-- where no element has writes there are none
pub flat_map-none : {X : Type 0} (f : X → List Write) (xs : List X) → All (λ x. f x ≡ []) xs → flat_map f xs ≡ []
flat_map-none f [] none = refl
flat_map-none f (x ∷ xs) none =
    ap (λ ws. ws ++ flat_map f xs) (All-head (λ y. f y ≡ []) x xs none) ∙ flat_map-none f xs (All-tail (λ y. f y ≡ []) x xs none)

-- writes that stay below a row and right of a cell draw there, and nothing else
pub DrawsFrom-painted : (row from : ℕ) (ws : List Write) (rows : List (List Cell)) → All (IsWithin row (length rows) from) ws
    → DrawsFrom row from rows (painted ws rows)
DrawsFrom-painted row from ws rows within =
    let n = length rows in
    let W : Write → Type 0 = IsWithin row n from in
    record {
      above = λ r high. painted-other ws rows r (All-weaker W (λ w. r ≢ w.row) (λ w is same. omega (arith, is.below, high, same)) ws within);
      left = grind (arith, common_steps, painted-untouched, All-weaker, W);
      free = λ r free c. painted-cell IsFreeCell ws rows r c (free c)
          (All-weaker W (λ w. Reaches r c w → IsFreeCell (cell_of_write w c)) (λ w is there.
          (is.free (c - w.cell) 0 (omega (arith, there.from, there.to)), refl)) ws within);
      count = painted-count ws rows n refl (All-weaker W (λ w. w.row < n) (λ w is. is.there) ws within);
    }

-- The writes of labels.
-- they stand in rows that are there, so there are as many after them
pub labels_count : (layout : Layout) (row : ℕ) (es : List PlacedEntry) (old : List (List Cell)) → All (HasRows row (length old)) es
    → length (painted (labels_of layout row es) old) ≡ length old
labels_count layout row es old rows =
    painted-count (labels_of layout row es) old (length old) refl (each_label (λ w. w.row < length old) layout row es (λ k d within n inside some.
    omega (arith, (rows k d within).label (has_piece (get_or es k d) n some), inside)))

-- and they are drawn there, and not left of their entries
pub DrawsFrom-labels : (layout : Layout) (row from : ℕ) (es : List PlacedEntry) (old : List (List Cell)) → All (λ e. HasPlace e.entry) es
    → All (HasRows row (length old)) es → All (λ e. StandsFrom layout.code from e.entry) es → All (λ e. AreFree (pieces_of e)) es
    → DrawsFrom row from old (painted (labels_of layout row es) old)
DrawsFrom-labels layout row from es old places rows stand free =
    DrawsFrom-painted row from (labels_of layout row es) old (each_label (IsWithin row (length old) from) layout row es (λ k d within n inside some.
    let e : PlacedEntry = get_or es k d in record {
      below = omega arith;
      there = omega (arith, (rows k d within).label (has_piece e n some), inside);
      right = omega (arith, stand k d within, (label_column e (places k d within)).0);
      free = free k d within n [] inside;
    }))

-- a label is in no role of marks
label_unmarked : (kind : AnnotationKind) → is_mark_role (unlinked_cell (label_role kind) 32).role ≡ false
label_unmarked Primary = refl
label_unmarked Context = refl
label_unmarked Visible = refl

-- labels, painted, mark no start
pub labels_unmarked : (layout : Layout) (row : ℕ) (es : List PlacedEntry) (rows : List (List Cell))
    → MarksStarts layout.code [] rows (painted (labels_of layout row es) rows)
labels_unmarked layout row es rows r c _ before =
    let M : Cell → Type 0 = λ cell. is_mark_role cell.role ≡ false in
    let Q : Write → Type 0 = λ w. Reaches r c w → M (cell_of_write w c) in
    painted-cell M (labels_of layout row es) rows r c before (each_label Q layout row es (λ k d within n _ _ there.
    label_unmarked (get_or es k d).entry.kind))

-- where no entry has a label nothing is written
pub labels_none : (layout : Layout) (row : ℕ) (es : List PlacedEntry) → All (λ e. has_label e ≡ false) es → labels_of layout row es ≡ []
labels_none layout row es none =
    flat_map-none (label_of layout row) es (λ k d within. label_of-none layout row (get_or es k d) (none k d within))

-- the first piece of a lone label stands one cell after its mark
pub label_lone : (layout : Layout) (row : ℕ) (e : PlacedEntry) (rows : List (List Cell)) → e.position ≡ 0 → 0 < e.entry.end.display
    → 0 < length (get_or (pieces_of e) 0 []) → row_at (painted (labels_of layout row (e ∷ [])) rows) row
    ≡ written SPACE (row_at rows row) (layout.code + e.entry.end.display + 1) (text_cells (label_role e.entry.kind) (get_or (pieces_of e) 0 []))
label_lone layout row e rows beside some shown =
    let role : ElementStyle = label_role e.entry.kind in
    let cell : ℕ = code_cell layout (label_place e).1 in
    let at : ℕ = layout.code + e.entry.end.display + 1 in
    let w : Write = label_write layout row e 0 in
    let here : w.row ≡ row = grind (arith, nat_tests, beside, label_place) in
    let there : w.cell ≡ at = grind (arith, nat_tests, beside, some, label_place) in
    let rest : List Write = pieces_at (row + (label_place e).0 + 0 + 1) cell role (drop (0 + 1) (pieces_of e)) in
    let split : labels_of layout row (e ∷ []) ≡ w ∷ rest = right_nil (label_of layout row e)
    ∙ label_parts_of layout row e 0 (piece_within (pieces_of e) 0 shown) shown in
    let mid : List (List Cell) = cells_written rows w.row w.cell (text_cells role (get_or (pieces_of e) 0 [])) in
    ap (λ ws. row_at (painted ws rows) row) split
    ∙ painted-other rest mid row (All-pieces_at (λ v. row ≢ v.row) (row + (label_place e).0 + 0 + 1) cell role (drop (0 + 1) (pieces_of e)) (λ n _ _ same.
    absurd (omega (arith, same)))) ∙ ap (row_at mid) (sym here)
    ∙ row_at-cells_written_same rows w.row w.cell (text_cells role (get_or (pieces_of e) 0 []))
    ∙ ap (λ r. written SPACE (row_at rows r) w.cell (text_cells role (get_or (pieces_of e) 0 []))) here
    ∙ ap (λ c. written SPACE (row_at rows row) c (text_cells role (get_or (pieces_of e) 0 []))) there
  where
    right_nil : (ws : List Write) → ws ++ [] ≡ ws
    right_nil [] = refl
    right_nil (w ∷ ws) = ap (λ xs. w ∷ xs) (right_nil ws)

-- What is known of the rows of a line, by which laws are proved. LineFromValue has it of the rows that painters promise.
-- ---- the source row

-- the row begins with what the gutter shows, and from the code's cell to its end it holds these cells
pub record ShowsSource (gutter from : ℕ) (shown : List ℕ) (cells row : List Cell) : Type 0 where
  pub number : take (length shown) row ≡ text_cells LineNumber shown
  pub code : drop from row ≡ cells

-- a source row, and what is seen of it: what ShowsSource says, the separator, and else spaces left of the code
pub record IsSourceRow (layout : Layout) (shown : List ℕ) (cells row : List Cell) : Type 0 where
  pub is : row ≡ source_row layout shown cells
  pub shows : ShowsSource layout.gutter layout.code shown cells row
  pub separator : slice_index_or row (separator_cell layout) SPACE ≡ unlinked_cell LineNumber (separator_of layout.decor)
  pub blank : (c : ℕ) → length shown ≤ c → c ≢ separator_cell layout → c < layout.code → slice_index_or row c SPACE ≡ SPACE
  pub free : IsFree row

-- the row is this source row, with the characters highlighted that entries ask for
pub record IsHighlighted (code dropped : ℕ) (es : List LineAnnotation) (plain row : List Cell) : Type 0 where
  pub width : length row ≡ length plain
  pub cells : (c : ℕ) → c < length plain
      → slice_index_or row c SPACE ≡ (let cell = slice_index_or plain c SPACE in record cell { role = role_in_source code dropped es c cell.role })

-- ---- the rows below it

-- what is known of the rows of strokes, whatever the placed entries hold their labels in: as many as the entries ask for, and over them
-- all strokes. The entries are placed from right to left, and their marks painted in the order of painting. Of the first two rows, the
-- source row and that of the marks, stretches are cut where entries are wide
pub record StrokesPainted (layout : Layout) (room : ℕ) (closes : Bool) (es : List LineAnnotation) (source : List Cell) (rows : List (List Cell)) : Type 0 where
  pub placed : List PlacedEntry
  pub are : ArePlaced layout es placed
  pub top : List Cell
  pub marks : List Cell
  pub lower : List (List Cell)
  pub painted_are : top ∷ marks ∷ lower ≡ painted (drawn_strokes layout 0 (row_count placed + 1) placed (painting_order placed))
      (begun_rows layout closes (row_count placed) source)
  pub rows_are : rows ≡ (let cuts = cuts_of layout room (painting_order placed)
      (with_blocks layout (painting_order placed) (overlapped placed)) in cut_row layout.decor cuts top ∷ cut_row layout.decor cuts marks ∷ lower)
  pub count : length rows ≡ row_count placed + 1

-- the rows that a line has by its own entries, of which so many columns are dropped: beside a line that is marked as a whole the tops
-- of its bars, and no row below; without entries none below either, but a closing row where the window closes with the line; and
-- else the rows of its strokes, where the middles of wide spans are cut out first if labels are broken
pub record AreOwnRows (layout : Layout) (room : ℕ) (closes : Bool) (text : List ℕ) (dropped : ℕ) (es : List LineAnnotation) (source : List Cell)
    (rows : List (List Cell)) : Type 0 where
  pub whole : is_whole_line text es ≡ true → rows ≡ with_parts layout Top (ends_of_bars es) source ∷ []
  pub none : es ≡ [] → rows ≡ source ∷ (if closes then closing_row layout.decor layout.gutter ∷ [] else [])
  pub strokes : is_whole_line text es ≡ false → 0 < length es
      → (let line = squeezed layout room (map (shifted dropped) es) in
      StrokesPainted layout room closes line.0 (middles_replaced layout room line.1 source) rows)

-- the rows of a line, where these bars are open above it: its own, and over each of them the bars that run past
pub record AreLineRows (layout : Layout) (room : ℕ) (closes : Bool) (text : List ℕ) (dropped : ℕ) (open_bars : List OpenBar) (es : List LineAnnotation)
    (source : List Cell) (rows : List (List Cell)) : Type 0 where
  pub own : List (List Cell)
  pub are : AreOwnRows layout room closes text dropped es source own
  pub rows_are : rows ≡ map (with_parts layout Solid (bars_apart open_bars (ends_of_bars es))) own

-- ---- all of them

-- a line can be shown: its number is one that a machine holds, what the gutter shows beside it has room up to the separator, its entries
-- can be drawn, and none of them stands left of the padding of the margin's left bound
pub record CanBeShown (layout : Layout) (margin : Margin) (numbers : LineNumbers) (info : AnnotatedLineInfo) : Type 0 where
  pub small : info.line_index < 2 ^ 64
  pub number : length (shown_number numbers layout.gutter info.line_index) ≤ separator_cell layout
  pub entries : AreDrawable layout info.annotations.items
  pub clear : All (StandsClear margin) info.annotations.items

-- the rows show this line. Its source row shows its number and the window of its source, normalised, and is highlighted as its entries
-- ask; the rows are what the entries, and the bars that are open above the line, make of that row, as far left as columns of the line
-- are dropped. No entry starts in a column that is dropped, but those for which a bar alone is drawn
pub record ShowsLine (layout : Layout) (margin : Margin) (numbers : LineNumbers) (closes : Bool) (open_bars : List OpenBar) (info : AnnotatedLineInfo)
    (rows : List (List Cell)) : Type 0 where
  pub plain : List Cell
  pub shows : IsSourceRow layout (shown_number numbers layout.gutter info.line_index) (window_cells layout.decor margin (norm (chars info.line.now))) plain
  pub dropped : ℕ
  pub dropped_is : dropped ≡ width_of (dropped_part margin.computed_left (norm (chars info.line.now)))
  pub clear : All (λ e. is_bar e.annotation_type ≡ false → dropped ≤ e.start.display) info.annotations.items
  pub highlighted : List Cell
  pub highlights : IsHighlighted layout.code dropped (filter (λ e. not (is_end_part e.annotation_type)) info.annotations.items) plain highlighted
  pub drawn : AreLineRows layout margin.term_width closes (norm (chars info.line.now)) dropped open_bars info.annotations.items highlighted rows

-- Stems lead to labels: below a mark whose label hangs, a stem stands in each row down to the label, unless a label stands there.
use Rattle.std.proofs.lemmas.Grind.{common_steps}
use Rattle.snippet_strokes.proofs.Common.{◌≡◌, ℕ, zero, suc, ◌+◌, ◌-◌, ◌<◌, ◌≤◌, ◌==◌, ◌&&◌, ◌||◌, nat_lt, cond, Bool, true, false, List, [], ◌∷◌, ◌++◌}
use Rattle.snippet_strokes.proofs.Common.{length, get_or, map, refl, sym, ap, subst, arith, All, range_with_len, nat_tests, All-head, All-tail}
use Rattle.snippet_strokes.proofs.Common.{get_or-map-range_with_len, length-map-range_with_len, cell_at, is_primary, Cell, unlinked_cell, underline_role}
use Rattle.snippet_strokes.proofs.Common.{DecorStyle, Layout, PlacedEntry, stroke_role, has_label, has_stem, takes_space, Write, painted, IsStemCell}
use Rattle.snippet_strokes.proofs.Common.{stem_glyphs, stem_of, connectors_of, corners_of, labels_of, stems_of, take, drop, replicate, ◌∙◌, length-append}
use Rattle.snippet_strokes.proofs.Common.{length-map, length-replicate, take-append-drop, separator_row, LineAnnotation, placed_of, overlapped, row_count}
use Rattle.snippet_strokes.proofs.Common.{with_blocks}
use Rattle.snippet_strokes.proofs.Common.{HasRows, painting_order, bare_row, stroke_rows, Option, None, Some, option_map_or, map-append, take-map, drop-map}
use Rattle.snippet_strokes.proofs.Common.{Margin, window, LineNumber, Quotation, placeholder_of, SPACE, written, row_text, window_cells, begun_cells}
use Rattle.snippet_strokes.proofs.Common.{ended_cells, row_text-text_cells, rules, flat_map}
use Rattle.snippet_strokes.proofs.StrokeGlyphs.{IsAmong}
use Rattle.snippet_strokes.proofs.EveryStem.{stems_painted}
use Rattle.snippet_strokes.proofs.EachStroke.{All-flat_map, each_cell_of_stem, each_corner, each_label, each_line, each_mark, each_stem_cell, each_stroke}
use Rattle.snippet_strokes.proofs.EachStroke.{glyphs_leave}
use Rattle.snippet_strokes.proofs.CellLemmas.{written_by, drawn_strokes, marks_of, stem_write, cut_row, begun_rows, above_zero}
use Rattle.snippet_strokes.proofs.PieceWrites.{has_piece, labels_some}
use Rattle.snippet_strokes.proofs.PlacedOf.{placed_of_are}
use Rattle.snippet_strokes.proofs.WriteLaws.{painted-append, cell-written, painted-cell, painted-count}
use Rattle.snippet_strokes.proofs.Reach.{Reaches, cell_of_write}
use Rattle.snippet_strokes.proofs.StrokeCells.{BesideLabels}
use Rattle.snippet_strokes.proofs.CutWords.{cuts_of}
use Rattle.snippet_strokes.proofs.PositionLemmas.{HasRows-row_count, row_count_some}
use Rattle.snippet_strokes.proofs.CutLemmas.{stroke_rows-cut}
use Rattle.snippet_labels.specs.Positions.{pieces_of}

-- a glyph of stems is a stem in the role of an entry's strokes
stem_cell : (decor : DecorStyle) (primary : Bool) (ch : ℕ) → IsAmong (stem_glyphs decor) ch → IsStemCell decor (unlinked_cell (underline_role primary) ch)
stem_cell decor true ch among = (among, refl)
stem_cell decor false ch among = (among, refl)

module _ (layout : Layout) (r c : ℕ) where
  abbrev P : Cell → Type 0
  P = IsStemCell layout.decor

  -- a write leaves a stem in the cell, if it reaches it
  abbrev Q : Write → Type 0
  Q w = Reaches r c w → P (cell_of_write w c)

  -- where one of some writes that do reaches the cell, a stem stands there after them
  painted_reached : (ws : List Write) (k : ℕ) (d : Write) (rows : List (List Cell)) → k < length ws → Reaches r c (get_or ws k d) → All Q ws
      → P (cell_at (painted ws rows) r c)
  painted_reached [] k d rows within there all = absurd (omega (arith, within))
  painted_reached (w ∷ ws) zero d rows within there all =
      painted-cell P ws (written_by rows w) r c (subst P (sym (cell-written w rows r c there)) (All-head Q w ws all there)) (All-tail Q w ws all)
  painted_reached (w ∷ ws) (suc k) d rows within there all =
      painted_reached ws k d (written_by rows w) (omega (arith, within)) there (All-tail Q w ws all)

  -- each cell of a stem is one
  stem_leaves : (row : ℕ) (e : PlacedEntry) → All Q (stem_of layout row e)
  stem_leaves row e =
      each_cell_of_stem Q layout row e (λ _ b glyph low among. glyphs_leave P r c (row + b) (layout.code + e.entry.start.display) 1 glyph (stroke_role e)
      (stem_cell layout.decor (is_primary e.entry.kind) glyph among))

  -- a stem that is drawn stands in each of its cells
  stem_stands : (row b : ℕ) (e : PlacedEntry) (rows : List (List Cell)) → has_stem e ≡ true → b ≤ e.position → r ≡ row + b
      → c ≡ layout.code + e.entry.start.display → P (cell_at (painted (stem_of layout row e) rows) r c)
  stem_stands row b e rows stem low at_row at_cell =
      let f : ℕ → Write = stem_write layout row e in
      let own : List Write = map f (range_with_len 0 (e.position + 1)) in
      let is : stem_of layout row e ≡ own = ap (λ t. cond t own []) stem in
      let inside : b < e.position + 1 = omega (arith, low) in
      let there : Reaches r c (f b) = record { row = sym at_row; from = omega (arith, at_cell); to = omega (arith, at_cell) } in
      let here : get_or own b (f b) ≡ f b = get_or-map-range_with_len f 0 (e.position + 1) b b (f b) inside (omega arith) in
      ap_cell is (painted_reached own b (f b) rows (omega (arith, inside, length-map-range_with_len f 0 (e.position + 1)))
      (subst (Reaches r c) (sym here) there) (subst (All Q) is (stem_leaves row e)))
    where
      ap_cell : {vs : List Write} → stem_of layout row e ≡ vs → P (cell_at (painted vs rows) r c) → P (cell_at (painted (stem_of layout row e) rows) r c)
      ap_cell same holds = subst (λ ws. P (cell_at (painted ws rows) r c)) (sym same) holds

  -- and where further ones are drawn after it
  stems_stand : (row : ℕ) (es : List PlacedEntry) (k b : ℕ) (d : PlacedEntry) (rows : List (List Cell)) → k < length es
      → has_stem (get_or es k d) ≡ true → b ≤ (get_or es k d).position → r ≡ row + b → c ≡ layout.code + (get_or es k d).entry.start.display
      → P (cell_at (painted (flat_map (stem_of layout row) es) rows) r c)
  stems_stand row [] k b d rows within stem low at_row at_cell = absurd (omega (arith, within))
  stems_stand row (e ∷ later) zero b d rows within stem low at_row at_cell =
      let own : List Write = stem_of layout row e in
      let others : List Write = flat_map (stem_of layout row) later in
      subst (λ rs. P (cell_at rs r c)) (sym (painted-append own others rows)) (painted-cell P others (painted own rows) r c
      (stem_stands row b e rows stem low at_row at_cell) (All-flat_map Q (stem_of layout row) later (λ k x inside. stem_leaves row (get_or later k x))))
  stems_stand row (e ∷ later) (suc k) b d rows within stem low at_row at_cell =
      let own : List Write = stem_of layout row e in
      subst (λ rs. P (cell_at rs r c)) (sym (painted-append own (flat_map (stem_of layout row) later) rows))
      (stems_stand row later k b d (painted own rows) (omega (arith, within)) stem low at_row at_cell)

  -- so a stem stands in each cell between the row of the marks and a label that hangs, if no label stands there: nothing else is
  -- painted over it
  stem_of_strokes : (row count : ℕ) (placed order : List PlacedEntry) (rows : List (List Cell)) (k b : ℕ) (d : PlacedEntry) → k < length placed
      → has_label (get_or placed k d) ≡ true → 0 < b → b ≤ (get_or placed k d).position → r ≡ row + 1 + b
      → c ≡ layout.code + (get_or placed k d).entry.start.display → BesideLabels layout (row + 1) r c placed
      → P (cell_at (painted (drawn_strokes layout row count placed order) rows) r c)
  stem_of_strokes row count placed order rows k b d within has some low at_row at_cell beside =
      let e : PlacedEntry = get_or placed k d in
      let bars : List Write = connectors_of layout (row + 1) placed ++ corners_of layout row count placed in
      let stems : List Write = stems_of layout (row + 1) placed in
      let labels : List Write = labels_of layout (row + 1) placed in
      let marks : List Write = marks_of layout (row + 1) order in
      let stem : has_stem e ≡ true = hangs e.position (has_label e) (takes_space e) (omega (arith, some, low)) has in
      let hung : P (cell_at (painted (bars ++ stems) rows) r c) = subst (λ rs.
      P (cell_at rs r c)) (sym (painted-append bars stems rows ∙ sym (stems_painted layout (row + 1) placed (painted bars rows))))
      (stems_stand (row + 1) placed k b d (painted bars rows) within stem low at_row at_cell) in
      let own_labels : All Q labels = each_label Q layout (row + 1) placed (λ i x inside n _ _ there. absurd (beside i x inside n there)) in
      let named : P (cell_at (painted (bars ++ stems ++ labels) rows) r c) = subst (λ rs.
      P (cell_at rs r c)) (sym (painted-append (bars ++ stems) labels rows)) (painted-cell P labels (painted (bars ++ stems) rows) r c hung own_labels) in
      subst (λ rs. P (cell_at rs r c)) (sym (painted-append (bars ++ stems ++ labels) marks rows))
      (painted-cell P marks (painted (bars ++ stems ++ labels) rows) r c named
      (each_mark Q layout (row + 1) order (λ _ _ _ _ _ _ _ _ _ there. absurd (omega (arith, there.row, some, at_row)))))
    where
      hangs : (p : ℕ) (label space : Bool) → 0 < p → label ≡ true → (nat_lt 0 p && (label || space)) ≡ true
      hangs p label space some has = grind (arith, nat_tests, some, has)

-- in the rows from `row` on, that of the marks, a stem stands in each cell between the mark of an entry and its label, if it has one that
-- hangs, and no label of these entries stands there
abbrev pub IsHung : Layout → ℕ → List PlacedEntry → List (List Cell) → PlacedEntry → Type 0
IsHung layout row placed rows e =
    has_label e ≡ true → (b : ℕ) → 0 < b → b ≤ e.position → BesideLabels layout row (row + b) (layout.code + e.entry.start.display) placed
    → IsStemCell layout.decor (cell_at rows (row + b) (layout.code + e.entry.start.display))

-- all strokes of a line leave rows in which each label that hangs is hung so
pub all_hung : (layout : Layout) (row count : ℕ) (placed order : List PlacedEntry) (rows : List (List Cell))
    → All (IsHung layout (row + 1) placed (painted (drawn_strokes layout row count placed order) rows)) placed
all_hung layout row count placed order rows k d within has b some low beside = search (rules, stem_of_strokes)

-- Strokes stay in the rows that there are, so a line has as many rows as its entries ask for, and its source row.
strokes_inside : (layout : Layout) (count : ℕ) (placed order : List PlacedEntry) → 1 < count → All (HasRows 1 count) placed
    → All (λ w. w.row < count) (drawn_strokes layout 0 count placed order)
strokes_inside layout count placed order some rows =
    let Inside : Write → Type 0 = λ w. w.row < count in
    each_stroke Inside layout 0 count placed order (each_line Inside layout 1 placed (λ k d within _ _ _. (rows k d within).mark))
    (each_corner Inside layout 0 count placed (λ k d within _ _ _ _ _ _ there _. omega (arith, there, (rows k d within).mark)))
    (each_stem_cell Inside layout 1 placed (λ k d within _ _ _ low _. omega (arith, (rows k d within).mark, low)))
    (each_label Inside layout 1 placed (λ k d within n inside some.
    omega (arith, (rows k d within).label (has_piece (get_or placed k d) n some), inside))) (each_mark Inside layout 1 order (λ _ _ _ _ _ _ _ _ _. some))

-- the rows over which strokes are painted stay as many
pub painted_rows-count : (layout : Layout) (closes : Bool) (placed order : List PlacedEntry) (source : List Cell)
    → All (λ e. 0 < length (pieces_of e)) placed
    → length (painted (drawn_strokes layout 0 (row_count placed + 1) placed order) (begun_rows layout closes (row_count placed) source)) ≡ row_count placed + 1
painted_rows-count layout closes placed order source pieces =
    let count : ℕ = row_count placed in
    let seps : List (List Cell) = replicate (count - 1) (separator_row layout.decor layout.gutter) in
    let last : List Cell = bare_row layout.decor layout.gutter closes in
    let some : 0 < count = row_count_some placed in
    let bare : count + 1 ≡ length (begun_rows layout closes count source) =
    grind (arith, common_steps, some, length-append, seps, last, length-replicate, count, layout.decor, layout.gutter) in
    let rows : All (HasRows 1 (count + 1)) placed = HasRows-row_count 1 (count + 1) placed pieces (omega arith) in
    painted-count (drawn_strokes layout 0 (count + 1) placed order) (begun_rows layout closes count source) (count + 1) bare
    (strokes_inside layout (count + 1) placed order (omega (arith, some)) rows)

-- so there are as many rows of strokes as the entries ask for, and the source row
pub stroke_rows-count : (layout : Layout) (room : ℕ) (closes : Bool) (es : List LineAnnotation) (source : List Cell)
    → length (stroke_rows layout room closes es source) ≡ row_count (placed_of layout es) + 1
stroke_rows-count layout room closes es source =
    let placed : List PlacedEntry = placed_of layout es in
    let order : List PlacedEntry = painting_order placed in
    let whole : List (List Cell) = painted (drawn_strokes layout 0 (row_count placed + 1) placed order) (begun_rows layout closes (row_count placed) source) in
    let cut : List Cell → List Cell = cut_row layout.decor (cuts_of layout room order (with_blocks layout order (overlapped placed))) in
    ap length (stroke_rows-cut layout room closes es source)
    ∙ length-append (map cut (take 2 whole)) (drop 2 whole) ∙ ap (λ n. n + length (drop 2 whole)) (length-map (take 2 whole) cut)
    ∙ sym (length-append (take 2 whole) (drop 2 whole)) ∙ ap length (take-append-drop 2 whole) ∙ painted_rows-count layout closes placed order source
    (labels_some layout es placed (placed_of_are layout es))

-- The text that the cells of a window print.
-- the characters of cells that were written
map-replicate : {X Y : Type 0} (f : X → Y) (n : ℕ) (x : X) → map f (replicate n x) ≡ replicate n (f x)
map-replicate f zero x = refl
map-replicate f (suc n) x = ap (λ ys. f x ∷ ys) (map-replicate f n x)

row_text-written : (cells : List Cell) (at : ℕ) (new : List Cell) → row_text (written SPACE cells at new) ≡ written 32 (row_text cells) at (row_text new)
unfolding written
row_text-written cells at new = grind (arith, common_steps, map-replicate, length-map, take-map, map-append, drop-map)

-- a text, which stands after as many columns, if lines are cut on the left, with the placeholder at their beginning, and with the
-- placeholder over its end, from this cell on
abbrev ended_with : List ℕ → Option ℕ → List ℕ → List ℕ
ended_with placeholder end text = option_map_or (λ at. written 32 text at placeholder) end text

row_text-begun : (decor : DecorStyle) (start : Option ℕ) (text : List ℕ)
    → row_text (begun_cells decor start text)
    ≡ option_map_or (λ columns. cond (length text == 0) (placeholder_of decor) (written 32 (placeholder_of decor) columns text)) start text
row_text-begun decor None text = row_text-text_cells Quotation text
row_text-begun decor (Some columns) [] = row_text-text_cells LineNumber (placeholder_of decor)
row_text-begun decor (Some columns) (c ∷ cs) = grind (arith, row_text-written, row_text-text_cells, above_zero)

row_text-ended : (decor : DecorStyle) (end : Option ℕ) (cells : List Cell) (text : List ℕ) → row_text cells ≡ text
    → row_text (ended_cells decor end cells) ≡ ended_with (placeholder_of decor) end text
row_text-ended decor None cells text is = is
row_text-ended decor (Some at) cells text is = grind (arith, row_text-written, row_text-text_cells)

-- the characters of the cells of a window are the window
pub row_text-window_cells : (decor : DecorStyle) (margin : Margin) (text : List ℕ)
    → row_text (window_cells decor margin text) ≡ window (placeholder_of decor) margin.term_width margin.computed_left margin.computed_right text
row_text-window_cells decor margin text = search (rules, row_text-ended, row_text-begun)

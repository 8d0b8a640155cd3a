-- Strokes are painted into the source row of a line apart from the rows below it: what stands in these is the same over any source row.
use Rattle.std.proofs.lemmas.Grind.{common_steps}
use Rattle.snippet_strokes.proofs.Common.{All, ◌≡◌, drop, ℕ, ◌+◌, ◌-◌, ◌<◌, ◌≤◌, ◌^◌, List, [], ◌∷◌, ◌++◌, Bool, length, map, replicate, refl, sym, ap, ◌∙◌}
use Rattle.snippet_strokes.proofs.Common.{subst, arith, LineAnnotation, Cell, separator_row, Layout, PlacedEntry, shifted, entries_all, row_at}
use Rattle.snippet_strokes.proofs.Common.{painting_order, bare_row, painted, AreDrawable, IsReady, HasBarCell, row_count, AreEnough, HasPlaceAmong, HasRows}
use Rattle.snippet_strokes.proofs.Common.{is_uncut, connectors_of, corners_of, labels_of, HasPlace, ArePlaced, stems_of, suc, ◌==◌, cond, false, take, fold}
use Rattle.snippet_strokes.proofs.Common.{get_or, range_with_len, append_assoc, length-drop, length-take-le, length_push, take-append-drop, nat_tests}
use Rattle.snippet_strokes.proofs.Common.{flat_map-cons, All-append, All-cons, All-head, All-nil, All-tail, fold-append, cells_written, is_primary}
use Rattle.snippet_strokes.proofs.Common.{LineAnnotationType, Singleline, MultilineStart, MultilineEnd, MultilineLine, SPACE, text_cells, written, strokes_of}
use Rattle.snippet_strokes.proofs.Common.{stroke_role, corner_of, top_of, tops_of, Write, glyph_at, rules}
use Rattle.snippet_strokes.proofs.SeenRows.{wide_entries, AreSeen, CutsRows, HasNoBars}
use Rattle.snippet_strokes.proofs.LineFromValue.{rows_cut}
use Rattle.snippet_strokes.proofs.StrokeCells.{Painted-marks}
use Rattle.snippet_strokes.proofs.EachStroke.{All-column_of, All-flat_map, each_label, each_line, each_mark, each_stem_cell}
use Rattle.snippet_strokes.proofs.PieceWrites.{labels_some}
use Rattle.snippet_strokes.proofs.WriteLaws.{StrokesPainted, labels_count}
use Rattle.snippet_strokes.proofs.CellLemmas.{drawn_strokes, marks_of, begun_rows, bar_writes, corner_by, top_by, written_by}
use Rattle.snippet_strokes.proofs.BarWrites.{DrawsBarCells-corners, DrawsFrom-connectors, DrawsFrom-stems}
use Rattle.snippet_strokes.proofs.BegunLemmas.{rows_begun, rows_ready, sole}
use Rattle.snippet_strokes.proofs.PositionLemmas.{HasRows-row_count, row_count_some}
use Rattle.snippet_strokes.proofs.ReadyLemmas.{all_ready, ready_bar_cells}
use Rattle.snippet_strokes.proofs.StrokeLemmas.{strokes_seen}
use Rattle.snippet_strokes.proofs.EntryBarLaws.{marks_painted, under_painted}
use Rattle.snippet_strokes.proofs.LowerWrites.{flat_map-lowered, lowered, painted-below, strokes-lowered, written-cons}

-- the first of some rows after a write, and those below it
abbrev top_written : List Cell → Write → List Cell
top_written row w = cond (w.row == 0) (written SPACE row w.cell (text_cells w.role w.text)) row

abbrev rest_written : List (List Cell) → Write → List (List Cell)
rest_written rows w = cond (w.row == 0) rows (cells_written rows (w.row - 1) w.cell (text_cells w.role w.text))

not_first : (r : ℕ) → 0 < r → (r == 0) ≡ false
not_first r below = grind (arith, nat_tests)

written-first : (x : List Cell) (xs : List (List Cell)) (new : List Cell) → written [] (x ∷ xs) 0 (new ∷ []) ≡ new ∷ xs
unfolding written
written-first x xs new = refl

one_written : (row : List Cell) (rows : List (List Cell)) (w : Write) → written_by (row ∷ rows) w ≡ top_written row w ∷ rest_written rows w
one_written row rows w = grind (arith, written-first, written-cons)

-- so it is with writes one after another
split : (ws : List Write) (row : List Cell) (rows : List (List Cell)) → painted ws (row ∷ rows) ≡ fold top_written row ws ∷ fold rest_written rows ws
split [] row rows = refl
split (w ∷ ws) row rows = ap (painted ws) (one_written row rows w) ∙ split ws (top_written row w) (rest_written rows w)

-- writes below the first row leave it, and those into it leave the others
abbrev IsBelow : Write → Type 0
IsBelow w = 0 < w.row

top_kept : (ws : List Write) (row : List Cell) → All IsBelow ws → fold top_written row ws ≡ row
top_kept [] row below = refl
top_kept (w ∷ ws) row below = grind (arith, All-head, All-tail, not_first, top_kept ws row (All-tail IsBelow w ws below))

rest_kept : (ws : List Write) (rows : List (List Cell)) → All (λ w. w.row ≡ 0) ws → fold rest_written rows ws ≡ rows
rest_kept [] rows top = refl
rest_kept (w ∷ ws) rows top = grind (arith, All-head, All-tail, rest_kept ws rows (All-tail (λ v. v.row ≡ 0) w ws top))

-- ---- the strokes of a line

module _ (layout : Layout) where
  -- the bars, of which only the uppermost parts of those of ends stand in the source row
  corner_top : (count : ℕ) (e : PlacedEntry) (row : List Cell) → fold top_written row (corner_of layout 0 count e) ≡ fold top_written row (top_of layout 0 e)
  corner_top count e row = by_part e.entry.annotation_type
    where
      glyph : ℕ
      glyph = (strokes_of layout.decor (is_primary e.entry.kind)).bar

      below : (depth start end : ℕ) → 0 < start → All IsBelow (bar_writes layout e depth start end)
      below depth start end some =
          All-column_of IsBelow start end (layout.gutter + 2 + depth) glyph (stroke_role e) (λ r high low. omega (arith, some, high))

      by_part : (part : LineAnnotationType) → fold top_written row (corner_by layout 0 count e part) ≡ fold top_written row (top_by layout 0 e part)
      by_part Singleline = refl
      by_part (MultilineLine depth) = refl
      by_part (MultilineStart depth) = grind (arith, common_steps, top_kept, All-cons, below)
      by_part (MultilineEnd depth) =
          let n = 0 + 1 + e.position in
          let f : ℕ → Write = λ r. glyph_at r (layout.gutter + 2 + depth) glyph (stroke_role e) in
          let more : n - 0 ≡ suc e.position = omega arith in
          let bottom : Write = glyph_at n (layout.gutter + 2 + depth) (strokes_of layout.decor (is_primary e.entry.kind)).bar_bottom (stroke_role e) in
          let lower : List Write = map f (range_with_len 1 e.position) ++ bottom ∷ [] in
          ap (λ m. fold top_written row (map f (range_with_len 0 m) ++ bottom ∷ [])) more
          ∙ top_kept lower (top_written row (f 0)) (All-append IsBelow (map f (range_with_len 1 e.position)) (bottom ∷ [])
          (subst (λ m. All IsBelow (map f (range_with_len 1 m))) (let same : 1 + e.position - 1 ≡ e.position = omega arith in same)
          (below depth 1 (1 + e.position) (omega arith)))
          (All-cons IsBelow bottom [] (let low : 0 < n = omega arith in low) (All-nil IsBelow)))

  corners_top : (count : ℕ) (es : List PlacedEntry) (row : List Cell)
      → fold top_written row (corners_of layout 0 count es) ≡ fold top_written row (tops_of layout 0 es)
  corners_top count [] row = refl
  corners_top count (e ∷ es) row =
      grind (arith, common_steps, flat_map-cons, fold-append, corner_top, corners_top count es (fold top_written row (top_of layout 0 e)))

  -- all else stands below it
  connectors_below : (es : List PlacedEntry) → All IsBelow (connectors_of layout 1 es)
  connectors_below es = each_line IsBelow layout 1 es (λ _ _ _ _ _ _. omega arith)

  stems_below : (es : List PlacedEntry) → All IsBelow (stems_of layout 1 es)
  stems_below es = each_stem_cell IsBelow layout 1 es (λ _ _ _ _ _ _ _ _. omega arith)

  labels_below : (es : List PlacedEntry) → All IsBelow (labels_of layout 1 es)
  labels_below es = each_label IsBelow layout 1 es (λ _ _ _ _ _ _. omega arith)

  marks_below : (es : List PlacedEntry) → All IsBelow (marks_of layout 1 es)
  marks_below es = each_mark IsBelow layout 1 es (λ _ _ _ _ _ _ _ _ _. omega arith)

  strokes_top : (count : ℕ) (placed order : List PlacedEntry) (row : List Cell)
      → fold top_written row (drawn_strokes layout 0 count placed order) ≡ fold top_written row (tops_of layout 0 placed)
  strokes_top count placed order row = simp (fold-append, top_kept, marks_below, labels_below, stems_below, connectors_below, corners_top)

  -- what stands in the source row is written there alone
  tops_above : (es : List PlacedEntry) → All (λ w. w.row ≡ 0) (tops_of layout 0 es)
  tops_above es = All-flat_map T (top_of layout 0) es (λ k d within. by_part (get_or es k d) (get_or es k d).entry.annotation_type)
    where
      T : Write → Type 0
      T w = w.row ≡ 0

      by_part : (e : PlacedEntry) (part : LineAnnotationType) → All T (top_by layout 0 e part)
      by_part e Singleline = All-nil T
      by_part e (MultilineLine depth) = All-nil T
      by_part e (MultilineStart depth) = All-nil T
      by_part e (MultilineEnd depth) = All-cons T _ [] refl (All-nil T)

  tops-lowered : (n : ℕ) (es : List PlacedEntry) → tops_of layout n es ≡ map (lowered n) (tops_of layout 0 es)
  tops-lowered n es = grind (arith, flat_map-lowered)

  -- of the source row the uppermost parts of bars are written, and nothing else
  module _ (row : ℕ) (placed : List PlacedEntry) (old topped : List (List Cell)) (last : length old ≡ row + 1) (tops : topped ≡ painted
      (tops_of layout row placed) old) where
    abbrev rows_above : List (List Cell)
    rows_above = take row old

    abbrev lone_source : (source : List Cell) × (drop row old ≡ source ∷ [])
    lone_source = sole (drop row old) (omega (arith, length-drop row old, last))

    abbrev top_row : List Cell
    top_row = fold top_written lone_source.0 (tops_of layout 0 placed)

    above_long : length rows_above ≡ row
    above_long = length-take-le row old (omega (arith, last))

    old_parts : old ≡ rows_above ++ lone_source.0 ∷ []
    old_parts = sym (take-append-drop row old) ∙ ap (λ rows. take row old ++ rows) lone_source.1

    topped_parts : topped ≡ rows_above ++ top_row ∷ []
    topped_parts =
        let above = rows_above in
        let source : List (List Cell) = lone_source.0 ∷ [] in
        tops ∙ ap (λ n. painted (tops_of layout n placed) old) (sym above_long) ∙ ap (painted (tops_of layout (length above) placed)) old_parts
        ∙ ap (λ ws. painted ws (above ++ source)) (tops-lowered (length above) placed) ∙ painted-below above (tops_of layout 0 placed) source
        ∙ ap (λ rows. above ++ rows) (split (tops_of layout 0 placed) lone_source.0 []
        ∙ ap (λ rows. top_row ∷ rows) (rest_kept (tops_of layout 0 placed) [] (tops_above placed)))

    pub tops_count : length topped ≡ length old
    tops_count = omega (arith, ap length topped_parts, length_push rows_above top_row, above_long, last)

  -- strokes that are painted over an empty row in place of the source row, and what of them stands in the source row painted there, are
  -- the strokes painted below it
  pub meeting_painted : (row count : ℕ) (placed order : List PlacedEntry) (old topped dense new bare : List (List Cell)) → length old ≡ row + 1
      → topped ≡ painted (tops_of layout row placed) old → dense ≡ painted (drawn_strokes layout 0 (count + 1) placed order) ([] ∷ bare)
      → new ≡ topped ++ drop 1 dense → new ≡ painted (drawn_strokes layout row (length old + count) placed order) (old ++ bare)
  meeting_painted row count placed order old topped dense new bare last tops drawn added =
      let above : List (List Cell) = rows_above row placed old topped last tops in
      let source : List Cell = (lone_source row placed old topped last tops).0 in
      let strokes : List Write = drawn_strokes layout 0 (count + 1) placed order in
      let rest : List (List Cell) = fold rest_written bare strokes in
      let top : List Cell = top_row row placed old topped last tops in
      let here : length above ≡ row = above_long row placed old topped last tops in
      let parts : old ≡ above ++ source ∷ [] = old_parts row placed old topped last tops in
      let all : length old + count ≡ length above + (count + 1) = omega (arith, last, here) in
      let in_row : topped ≡ above ++ top ∷ [] = topped_parts row placed old topped last tops in
      let below : drop 1 dense ≡ rest = ap (drop 1) (drawn ∙ split strokes [] bare) in
      let whole : old ++ bare ≡ above ++ source ∷ bare = ap (λ rows. rows ++ bare) parts ∙ append_assoc above (source ∷ []) bare in
      let lower : painted (drawn_strokes layout row (length old + count) placed order) (old ++ bare) ≡ above ++ top ∷ rest =
      ap (λ n. painted (drawn_strokes layout n (length old + count) placed order) (old ++ bare)) (sym here)
      ∙ ap (λ n. painted (drawn_strokes layout (length above) n placed order) (old ++ bare)) all
      ∙ ap (painted (drawn_strokes layout (length above) (length above + (count + 1)) placed order)) whole
      ∙ ap (λ ws. painted ws (above ++ source ∷ bare)) (strokes-lowered layout (length above) (count + 1) placed order)
      ∙ painted-below above strokes (source ∷ bare) ∙ ap (λ rows. above ++ rows)
      (split strokes source bare ∙ ap (λ r. r ∷ rest) (strokes_top (count + 1) placed order source)) in
      added ∙ ap (λ rows. topped ++ rows) below ∙ ap (λ rows. rows ++ rest) in_row ∙ append_assoc above (top ∷ []) rest ∙ sym lower

-- Rows over which the strokes of a line are painted, one list after another: they stay as many, so that each entry has the rows that
-- it needs.
-- as many rows as are begun are enough
pub enough_begun : {row count : ℕ} {placed : List PlacedEntry} (layout : Layout) (dropped : ℕ) (entries : List LineAnnotation)
    (old begun : List (List Cell)) (sep end : List Cell) → AreDrawable layout entries
    → ArePlaced layout (map (shifted dropped) entries) placed → count ≡ row_count placed → length old ≡ row + 1
    → begun ≡ old ++ replicate (count - 1) sep ++ end ∷ [] → length begun ≤ 2 ^ 60 → AreEnough layout row (length begun) placed
enough_begun {row} {count} {placed} layout dropped entries old begun sep end drawable are is last begins small =
    record {
      marks = omega (arith, is, row_count_some placed, last, rows_begun old begun sep end count (omega (arith, is, row_count_some placed)) begins);
      small = small;
      rows = rows_ready placed old begun sep end count (row + 1) (length begun)
          (labels_some layout (map (shifted dropped) entries) placed are) is (sym last) begins refl;
      ready = all_ready layout dropped entries placed drawable are;
    }

-- so they are below a source row in which nothing stands yet
pub rows_lifted : (row count : ℕ) (placed : List PlacedEntry) (old : List (List Cell)) → length old ≡ row + 1
    → All (HasRows (row + 1) (length old + count)) placed → All (HasRows 1 (1 + count)) placed
rows_lifted row count placed old last rows k d within = search rules

-- rows that are begun for entries are as many as these need
module _ (layout : Layout) (row count : ℕ) (placed : List PlacedEntry) (old begun : List (List Cell)) (sep end : List Cell) (some : 0 < count)
    (last : length old ≡ row + 1) (rows : All (HasRows (row + 1) (length old + count)) placed) (begins : begun ≡ old ++ replicate
    (count - 1) sep ++ end ∷ []) where
  pub begun_long : length begun ≡ length old + count
  begun_long = rows_begun old begun sep end count some begins

  pub begun_enough : All (IsReady layout) placed → length begun ≤ 2 ^ 60 → AreEnough layout row (length begun) placed
  begun_enough ready small = grind (arith, begun_long)

-- so each entry has its place among them
pub places_among : {layout : Layout} {row n : ℕ} {placed : List PlacedEntry} → AreEnough layout row n placed → All (HasPlaceAmong (row + 1) n) placed
places_among enough k d within =
    record { columns = (enough.ready k d within).columns; small = enough.small; rows = enough.rows k d within }

-- no list of strokes adds a row
module _ {layout : Layout} {row : ℕ} {placed : List PlacedEntry} (old new : List (List Cell)) (enough : AreEnough layout row (length old) placed) where
  pub count_connectors : new ≡ painted (connectors_of layout (row + 1) placed) old → length new ≡ length old
  count_connectors drawn = ap length drawn ∙ (DrawsFrom-connectors layout (row + 1) placed old enough.rows).count

  pub count_corners : new ≡ painted (corners_of layout row (length old) placed) old → length new ≡ length old
  count_corners drawn = ap length drawn ∙ (DrawsBarCells-corners layout row placed old (ready_bar_cells layout placed enough.ready) enough.rows).draws.count

  pub count_stems : new ≡ painted (stems_of layout (row + 1) placed) old → length new ≡ length old
  count_stems drawn = ap length drawn ∙ (DrawsFrom-stems layout (row + 1) 0 placed old enough.rows (λ k d within. omega arith)).count

  pub count_labels : new ≡ painted (labels_of layout (row + 1) placed) old → length new ≡ length old
  count_labels drawn = ap length drawn ∙ labels_count layout (row + 1) placed old enough.rows

  pub count_marks : (order : List PlacedEntry) → new ≡ painted (marks_of layout (row + 1) order) old → length new ≡ length old
  count_marks order drawn = ap length drawn ∙ (Painted-marks layout (row + 1) order old).count enough.marks

  -- so there are enough after each
  pub enough_after : length new ≡ length old → AreEnough layout row (length new) placed
  enough_after same = subst (λ n. AreEnough layout row n placed) (sym same) enough

  pub after_connectors : new ≡ painted (connectors_of layout (row + 1) placed) old → AreEnough layout row (length new) placed
  after_connectors drawn = enough_after (count_connectors drawn)

  pub after_corners : new ≡ painted (corners_of layout row (length old) placed) old → AreEnough layout row (length new) placed
  after_corners drawn = enough_after (count_corners drawn)

  pub after_stems : new ≡ painted (stems_of layout (row + 1) placed) old → AreEnough layout row (length new) placed
  after_stems drawn = enough_after (count_stems drawn)

-- what is seen of the rows of a line's strokes
pub painted_seen : (layout : Layout) (room : ℕ) (closes : Bool) (es : List LineAnnotation) (source : List Cell) (rows : List (List Cell))
    → layout.gutter + 3 ≤ layout.code → All HasPlace es → All (HasBarCell layout) es → HasNoBars layout source
    → StrokesPainted layout room closes es source rows → AreSeen layout room es closes source rows
painted_seen layout room closes es source rows place places bar_cells bare_bars is =
    let placed = is.placed in
    let order = painting_order placed in
    let begun = begun_rows layout closes (row_count placed) source in
    let sep = separator_row layout.decor layout.gutter in
    let end = bare_row layout.decor layout.gutter closes in
    let long : length begun ≡ 1 + row_count placed = rows_begun (source ∷ []) begun sep end (row_count placed) (row_count_some placed) refl in
    let joined = painted (connectors_of layout 1 placed) begun in
    let barred = painted (corners_of layout 0 (length joined) placed) joined in
    let stemmed = painted (stems_of layout 1 placed) barred in
    let labelled = painted (labels_of layout 1 placed) stemmed in
    let marked = painted (marks_of layout 1 order) labelled in
    let many : length joined ≡ length begun = (DrawsFrom-connectors layout 1 placed begun (HasRows-row_count 1 (length begun) placed
    (labels_some layout es placed is.are) long)).count in
    let under = under_painted layout 0 (length joined) (length begun) placed begun joined barred stemmed labelled many refl refl refl refl in
    let all : painted (drawn_strokes layout 0 (row_count placed + 1) placed order) begun ≡ marked =
    grind (arith, common_steps, placed, order, begun, long, marks_painted, labelled, marked, under) in
    let Cut : List (List Cell) → Type 0 = λ drawn.
    CutsRows layout (wide_entries room layout.decor es) (is_uncut room layout es) (row_at drawn 0) (row_at drawn 1) (drop 2 drawn) rows in
    strokes_seen layout room closes es placed [] source begun joined barred stemmed labelled marked place is.are
    (entries_all HasPlace es placed is.are.same places) (entries_all (HasBarCell layout) es placed is.are.same bar_cells)
    bare_bars refl refl refl refl refl refl rows (subst Cut (is.painted_are ∙ all) (rows_cut layout room closes es source rows is))

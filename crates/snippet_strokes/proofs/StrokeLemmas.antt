-- The rows of a line's strokes, once all are drawn.
use Rattle.std.proofs.lemmas.Grind.{common_steps}
use Rattle.snippet_strokes.proofs.Common.{◌≡◌, ◌≢◌, ℕ, zero, suc, ◌+◌, ◌-◌, ◌<◌, ◌≤◌, ◌==◌, ◌&&◌, max, Bool, true}
use Rattle.snippet_strokes.proofs.Common.{false, List, [], ◌∷◌, ◌++◌, length, map, drop, replicate, get_or, refl, sym, ap, ◌∙◌, subst, arith}
use Rattle.snippet_strokes.proofs.Common.{All, slice_index_or, IsPermutation, cases_lt, length-append, length-replicate, length-drop}
use Rattle.snippet_strokes.proofs.Common.{get_or_append_left, get_or_past, get_or_push, length_push, get_or-drop, All-from_get_or, All-nil, All-cons}
use Rattle.snippet_strokes.proofs.Common.{IsPermutation-map, IsPermutation-trans, length_permutation, LineAnnotation, cell_at, row_at, Cell}
use Rattle.snippet_strokes.proofs.Common.{SPACE, text_cells, written, length-written, Layout, PlacedEntry, IsBarCell, is_mark_role}
use Rattle.snippet_strokes.proofs.Common.{label_role, label_text, IsFreeCell, painting_order, painted, row_count, HasRows, has_label, has_stem, takes_space}
use Rattle.snippet_strokes.proofs.Common.{bare_row, separator_row, is_uncut, mark_end, connectors_of, corners_of, labels_of, HasPlace, HasItsLabel, ArePlaced}
use Rattle.snippet_strokes.proofs.Common.{HasBarCell, label_place, stems_of, entries_all, rules, All-permutation, inl, inr}
use Rattle.snippet_strokes.proofs.SeenRows.{EntryCovers, are_plain, wide_entries, AreSeen, CutsRows, HasNoBars, IsCut, IsStrokeRow, ShowsMarks, first_piece}
use Rattle.snippet_strokes.proofs.PaintedMarks.{IsPaintedAt, AreMarked, StandsWhole}
use Rattle.snippet_strokes.proofs.DrawnCells.{DrawsFrom, DrawsBarCells, KeepsBarCells, MarksStarts, StandsFrom}
use Rattle.snippet_strokes.proofs.DrawLemmas.{DrawsFrom-more, bar_space}
use Rattle.snippet_strokes.proofs.CellLemmas.{drawn_strokes, marks_of}
use Rattle.snippet_strokes.proofs.LabelPlaces.{EndRows, HasStrokesBeside, LabelsStand-placed}
use Rattle.snippet_strokes.proofs.PaintOrder.{IsPermutation-painting_order}
use Rattle.snippet_strokes.proofs.RowEnds.{label_row_by, row_ends, strokes-by}
use Rattle.snippet_strokes.proofs.SeenLabels.{EndsBy}
use Rattle.snippet_strokes.proofs.StrokeCells.{cell_of_strokes, AreMarked-marks, labels_stand}
use Rattle.snippet_strokes.proofs.StemCells.{IsHung, all_hung}
use Rattle.snippet_strokes.proofs.BegunLemmas.{mark_shown, IsPlainEntry, covered_painted, mark_end_plain, spaceless, lone_placed, unlabelled, begun_row}
use Rattle.snippet_strokes.proofs.BegunLemmas.{written_far, same_after, free_cell, sole, plain_entries, plain_narrow, IsStrokeRow-cut, sole_same}
use Rattle.snippet_strokes.proofs.LabelKept.{labels_kept}
use Rattle.snippet_strokes.proofs.PieceWrites.{has_piece, label_shows, labels_free, labels_some, piece_within}
use Rattle.snippet_strokes.proofs.BarWrites.{DrawsBarCells-corners, DrawsFrom-connectors, KeepsBarCells-connectors, connectors_none, corners_none}
use Rattle.snippet_strokes.proofs.BarWrites.{DrawsFrom-stems, stems_none, stems_start}
use Rattle.snippet_strokes.proofs.WriteLaws.{DrawsFrom-labels, label_lone, labels_none, labels_unmarked}
use Rattle.snippet_strokes.proofs.EntryBarLaws.{marks_painted, under_painted}
use Rattle.snippet_strokes.proofs.SourceBars.{source_beside}
use Rattle.snippet_strokes.proofs.PositionLemmas.{HasRows-row_count, row_count_some, stemless_bare, stemless_beside}
use Rattle.snippet_strokes.proofs.RowLemmas.{bare_row_short, bare_row_right, free_bare_row}
use Rattle.snippet_strokes.proofs.Common.{LabelPieces, label_at}
use Rattle.snippet_labels.specs.Positions.{pieces_of}

module _ (layout : Layout) (room : ℕ) (closes : Bool) (es : List LineAnnotation) (placed : List PlacedEntry) (above_rows : List (List Cell))
    (plain_row : List Cell) (begun joined barred stemmed labelled new : List (List Cell))
    (place : layout.gutter + 3 ≤ layout.code)
    (is : ArePlaced layout es placed)
    (places : All (λ (e : PlacedEntry). HasPlace e.entry) placed)
    (bar_cells : All (λ (e : PlacedEntry). HasBarCell layout e.entry) placed)
    (bare_bars : HasNoBars layout plain_row)
    (begins : begun ≡ (above_rows ++ plain_row ∷ []) ++ replicate (row_count placed - 1) (separator_row layout.decor layout.gutter)
    ++ bare_row layout.decor layout.gutter closes ∷ [])
    (lines_are : joined ≡ painted (connectors_of layout (length above_rows + 1) placed) begun)
    (bars_are : barred ≡ painted (corners_of layout (length above_rows) (length joined) placed) joined)
    (stems_are : stemmed ≡ painted (stems_of layout (length above_rows + 1) placed) barred)
    (labels_are : labelled ≡ painted (labels_of layout (length above_rows + 1) placed) stemmed)
    (marks_are : new ≡ painted (marks_of layout (length above_rows + 1) (painting_order placed)) labelled) where
  -- the rows that were there
  abbrev old : List (List Cell)
  old = above_rows ++ plain_row ∷ []

  -- the row of the marks
  abbrev row : ℕ
  row = length above_rows + 1

  last : row ≡ length old
  last = sym (length_push above_rows plain_row)

  abbrev plain : Bool
  plain = are_plain room layout.decor es

  -- the row at this place below, as it was begun
  abbrev bare : ℕ → List Cell
  bare k = bare_row layout.decor layout.gutter (closes && k + 1 == row_count placed)

  -- all rows but the last, as they were begun
  abbrev but_last : List (List Cell)
  but_last = old ++ replicate (row_count placed - 1) (separator_row layout.decor layout.gutter)

  abbrev end : List Cell
  end = bare_row layout.decor layout.gutter closes

  long_but_last : length but_last ≡ length old + (row_count placed - 1)
  long_but_last = simp (length-append, length-replicate)

  long_begun : length begun ≡ row + row_count placed
  long_begun =
      omega (arith, ap length begins, length_push but_last end, long_but_last, row_count_some placed, last)

  -- each entry has the rows that it needs, as long as no row is added
  enough : (rows : List (List Cell)) → length rows ≡ length begun → All (HasRows row (length rows)) placed
  enough rows same = HasRows-row_count row (length rows) placed (labels_some layout es placed is) (omega (arith, same, long_begun))

  -- ---- what each list of strokes draws

  lines : DrawsFrom row (layout.gutter + 3) begun joined
  lines = subst (DrawsFrom row (layout.gutter + 3) begun) (sym lines_are) (DrawsFrom-connectors layout row placed begun (enough begun refl))

  line_bar_cells : KeepsBarCells layout begun joined
  line_bar_cells = subst (KeepsBarCells layout begun) (sym lines_are) (KeepsBarCells-connectors layout row placed begun)

  bars : DrawsBarCells layout (length above_rows) joined barred
  bars =
      subst (DrawsBarCells layout (length above_rows) joined) (sym bars_are)
      (DrawsBarCells-corners layout (length above_rows) placed joined bar_cells (enough joined lines.count))

  stems : (from : ℕ) → All (λ (e : PlacedEntry). StandsFrom layout.code from e.entry) placed → DrawsFrom row from barred stemmed
  stems from stand =
      subst (DrawsFrom row from barred) (sym stems_are) (DrawsFrom-stems layout row from placed barred (enough barred (bars.draws.count ∙ lines.count)) stand)

  stem_starts : MarksStarts layout.code placed barred stemmed
  stem_starts = subst (MarksStarts layout.code placed barred) (sym stems_are) (stems_start layout row placed barred)

  no_stems : All (λ e. has_stem e ≡ false) placed → stemmed ≡ barred
  no_stems none = stems_are ∙ ap (λ ws. painted ws barred) (stems_none layout row placed none)

  labels : (from : ℕ) → All (λ (e : PlacedEntry). StandsFrom layout.code from e.entry) placed → DrawsFrom row from stemmed labelled
  labels from stand =
      let same : length stemmed ≡ length begun = (stems 0 (λ k d within. omega arith)).count ∙ bars.draws.count ∙ lines.count in
      subst (DrawsFrom row from stemmed) (sym labels_are) (DrawsFrom-labels layout row from placed stemmed places (enough stemmed same) stand
      (labels_free layout es placed is))

  label_starts : MarksStarts layout.code [] stemmed labelled
  label_starts = subst (MarksStarts layout.code [] stemmed) (sym labels_are) (labels_unmarked layout row placed stemmed)

  no_labels : All (λ e. has_label e ≡ false) placed → labelled ≡ stemmed
  no_labels none = labels_are ∙ ap (λ ws. painted ws stemmed) (labels_none layout row placed none)

  lone_label : (e : PlacedEntry) → placed ≡ e ∷ [] → e.position ≡ 0 → 0 < e.entry.end.display → 0 < length (get_or (pieces_of e) 0 [])
      → row_at labelled row
      ≡ written SPACE (row_at stemmed row) (layout.code + e.entry.end.display + 1) (text_cells (label_role e.entry.kind) (get_or (pieces_of e) 0 []))
  lone_label e one beside some has =
      ap (λ rows. row_at rows row) (labels_are ∙ ap (λ xs. painted (labels_of layout row xs) stemmed) one)
      ∙ label_lone layout row e stemmed beside some has

  marked : AreMarked layout placed row labelled new
  marked = subst (AreMarked layout placed row labelled) (sym marks_are) (AreMarked-marks layout row placed labelled)

  -- each label stands whole once all are written, and once the marks are painted
  stands : All (StandsWhole layout row new) placed
  stands =
      labels_kept layout row es placed labelled new is places marked
      (subst (λ rows. All (StandsWhole layout row rows) placed) (sym labels_are) (labels_stand layout row es placed stemmed is places))

  -- all strokes, as one list
  new_is : new ≡ painted (drawn_strokes layout (length above_rows) (length begun) placed (painting_order placed)) begun
  new_is = grind (arith, marks_painted, under_painted, lines)

  -- ---- the rows once all are drawn

  abbrev f : PlacedEntry → LineAnnotation
  f e = e.entry

  -- what was drawn before the marks, from the code on
  drawn_from : (from : ℕ) → All (StandsFrom layout.code from) es → DrawsFrom row from barred labelled
  drawn_from from all =
      let all_placed = entries_all (StandsFrom layout.code from) es placed is.same all in
      DrawsFrom-more row from barred stemmed labelled (stems from all_placed) (labels from all_placed)

  right_of : DrawsFrom row layout.code barred labelled
  right_of = drawn_from layout.code (λ k d within. omega arith)

  there : row < length labelled
  there = omega (arith, right_of.count, bars.draws.count, lines.count, long_begun, row_count_some placed)

  long_new : length new ≡ row + row_count placed
  long_new = marked.painted.count there ∙ right_of.count ∙ bars.draws.count ∙ lines.count ∙ long_begun

  -- the entries in the order of painting
  ordered_all : (Q : LineAnnotation → Type 0) → All Q es → All (λ (e : PlacedEntry). Q e.entry) marked.order
  ordered_all Q all =
      entries_all Q es marked.order (IsPermutation-trans es (map f placed) (map f marked.order) is.same
      (IsPermutation-map f placed marked.order marked.same)) all

  -- rows above those of the strokes are as they were begun, but for bars
  above_begun : (r : ℕ) → r < length old → row_at begun r ≡ row_at old r
  above_begun r high = grind (arith, get_or_append_left, long_but_last)

  above_new : (r : ℕ) → r < row → row_at new r ≡ row_at barred r
  above_new r high = marked.painted.others r (λ here. omega (arith, here, high)) ∙ right_of.above r high

  -- the source row with its bars
  abbrev source : List Cell
  source = row_at new (length above_rows)

  joined_source : row_at joined (length above_rows) ≡ plain_row
  joined_source = grind (arith, lines, above_begun, last, get_or_push)

  barred_source : source ≡ row_at barred (length above_rows)
  barred_source = above_new (length above_rows) (omega arith)

  begun_at : (k : ℕ) → k < row_count placed → row_at begun (row + k) ≡ bare k
  begun_at k within = ap (λ n. row_at begun (n + k)) last ∙ begun_row layout closes old begun (row_count placed) k begins within

  -- the marks are painted from the code on
  left_painted : (k c : ℕ) → c < layout.code → cell_at new (row + k) c ≡ cell_at labelled (row + k) c
  left_painted zero c before =
      let same : row + 0 ≡ row = omega arith in
      ap (λ n. cell_at new n c) same ∙ marked.painted.left c (λ k d inside. omega (arith, before)) ∙ sym (ap (λ n. cell_at labelled n c) same)
  left_painted (suc k) c before =
      ap (λ cells. slice_index_or cells c SPACE) (marked.painted.others (row + suc k) (λ here. omega (arith, here)))

  left_barred : (k c : ℕ) → c < layout.code → cell_at new (row + k) c ≡ cell_at barred (row + k) c
  left_barred k c before = left_painted k c before ∙ right_of.left (row + k) c before

  gutter_of : (k c : ℕ) → k < row_count placed → c < layout.gutter + 3 → cell_at new (row + k) c ≡ slice_index_or (bare k) c SPACE
  gutter_of k c within before = search (rules, left_barred, bars, lines, begun_at)

  bar_cells_of : (k c : ℕ) → k < row_count placed → layout.gutter + 3 ≤ c → c < layout.code → IsBarCell layout.decor (cell_at new (row + k) c)
  bar_cells_of k c within right before = search (rules, begun_at, bare_row_right, left_barred, bars, line_bar_cells, bar_space)

  -- on a plain line no line leads to a bar
  single : plain ≡ true → All (λ (e : PlacedEntry). IsPlainEntry e.entry) placed
  single flat = entries_all IsPlainEntry es placed is.same (plain_entries room layout.decor es flat)

  barless : plain ≡ true → barred ≡ begun
  barless flat = grind (arith, single, corners_none, connectors_none)

  spaceless_all : plain ≡ true → All (λ e. takes_space e ≡ false) placed
  spaceless_all flat k d within = spaceless (get_or placed k d) (single flat k d within)

  -- cells left of all entries
  left_of : plain ≡ true → (k c from : ℕ) → k < row_count placed → c < from → All (StandsFrom layout.code from) es
      → cell_at new (row + k) c ≡ slice_index_or (bare k) c SPACE
  left_of flat zero c from within before all =
      let same : row + 0 ≡ row = omega arith in
      let marks : cell_at new row c ≡ cell_at labelled row c = marked.painted.left c (λ k d inside.
      omega (arith, before, ordered_all (StandsFrom layout.code from) all k d inside)) in
      ap (λ n. cell_at new n c) same ∙ marks ∙ (drawn_from from all).left row c before ∙ ap (λ rows. cell_at rows row c) (barless flat)
      ∙ sym (ap (λ n. cell_at begun n c) same) ∙ ap (λ cells. slice_index_or cells c SPACE) (begun_at 0 within)
  left_of flat (suc k) c from within before all = grind (arith, marked, drawn_from, barless, begun_at)

  abbrev P : Cell → Type 0
  P cell = IsFreeCell cell

  free_begun : (k : ℕ) → k < row_count placed → (c : ℕ) → P (cell_at begun (row + k) c)
  free_begun k within c =
      subst (λ cells. P (slice_index_or cells c SPACE)) (sym (begun_at k within))
      (free_cell (bare k) (free_bare_row layout.decor layout.gutter (closes && k + 1 == row_count placed)) c)

  free_labelled : (k : ℕ) → k < row_count placed → (c : ℕ) → P (cell_at labelled (row + k) c)
  free_labelled k within = right_of.free (row + k) (bars.draws.free (row + k) (lines.free (row + k) (free_begun k within)))

  free_at : (k : ℕ) → k < row_count placed → (c : ℕ) → P (cell_at new (row + k) c)
  free_at zero within c =
      let same : row ≡ row + 0 = omega arith in
      subst (λ n. P (cell_at new n c)) same (marked.painted.free c (subst (λ n. P (cell_at labelled n c)) (sym same) (free_labelled 0 within c)))
  free_at (suc k) within c =
      subst (λ cells. P (slice_index_or cells c SPACE)) (sym (marked.painted.others (row + suc k) (λ here. omega (arith, here))))
      (free_labelled (suc k) within c)

  stroke_row : (k : ℕ) → k < row_count placed → IsStrokeRow layout plain es (closes && k + 1 == row_count placed) (row_at new (row + k))
  stroke_row k within =
      record {
        left = λ c before. gutter_of k c within before;
        bar_cells = λ c right before. bar_cells_of k c within right before;
        before = λ flat c from right before all. left_of flat k c from within before all
            ∙ bare_row_right layout.decor layout.gutter (closes && k + 1 == row_count placed) c (omega (arith, right, place));
        free = All-from_get_or P (row_at new (row + k)) SPACE (λ c _. free_at k within c);
      }

  unhung : plain ≡ true → All (λ e. label_text e ≡ []) es → labelled ≡ begun
  unhung flat none =
      let bare : All (λ e. has_label e ≡ false) placed = unlabelled layout es placed is none in
      no_labels bare ∙ no_stems (λ k d within. stemless_bare (get_or placed k d) (bare k d within) (spaceless_all flat k d within)) ∙ barless flat

  space_at : (p : ℕ) → slice_index_or (bare 0) (layout.code + p) SPACE ≡ SPACE
  space_at p =
      bare_row_right layout.decor layout.gutter (closes && 0 + 1 == row_count placed) (layout.code + p) (omega (arith, place))

  first_begun : row_at begun row ≡ bare 0
  first_begun = ap (row_at begun) (let same : row ≡ row + 0 = omega arith in same) ∙ begun_at 0 (row_count_some placed)

  lone_order : (q : PlacedEntry) → placed ≡ q ∷ [] → marked.order ≡ q ∷ []
  lone_order q one =
      let long : length marked.order ≡ 1 = length_permutation placed marked.order marked.same ∙ ap length one in
      let found = sole marked.order long in
      found.1 ∙ ap (λ x. x ∷ []) (sole_same q found.0 (subst (λ xs. IsPermutation xs (found.0 ∷ [])) one (subst (IsPermutation placed) found.1 marked.same)))

  -- after the mark of a line's one entry stand a space and its label
  lone : plain ≡ true → (e : LineAnnotation) → es ≡ e ∷ [] → e.start.display < e.end.display → 0 < length (first_piece layout e)
      → drop (layout.code + e.end.display) (row_at new row) ≡ SPACE ∷ text_cells (label_role e.kind) (first_piece layout e)
  lone flat e one some shown =
      let found = lone_placed layout es placed is e one in
      let q : PlacedEntry = found.0 in
      let entry : q.entry ≡ e = found.2 in
      let at : ℕ = layout.code + e.end.display in
      let cells : List Cell = text_cells (label_role e.kind) (first_piece layout e) in
      let text : get_or (pieces_of q) 0 [] ≡ first_piece layout e = ap (λ p. get_or (label_at p q.label) 0 []) found.3
      ∙ ap (λ (l : LabelPieces). get_or l.beside 0 []) (subst (All (HasItsLabel layout)) found.1 is.labels 0 q (omega arith)) ∙ ap (first_piece layout) entry in
      let bare_stems : stemmed ≡ begun = no_stems (subst (All (λ x. has_stem x ≡ false)) (sym found.1)
      (All-cons (λ x. has_stem x ≡ false) q [] (stemless_beside q found.3) (All-nil (λ x. has_stem x ≡ false)))) ∙ barless flat in
      let write : LineAnnotation → List ℕ → List Cell = λ x piece. written SPACE (row_at begun row) (layout.code + x.end.display + 1)
      (text_cells (label_role x.kind) piece) in
      let past : 0 < q.entry.end.display = omega (arith, some, ap (λ (x : LineAnnotation). x.end.display) entry) in
      let line : row_at labelled row ≡ written SPACE (bare 0) (at + 1) cells = lone_label q found.1 found.3 past (omega (arith, ap length text, shown))
      ∙ ap (λ rows. written SPACE (row_at rows row) (layout.code + q.entry.end.display + 1)
      (text_cells (label_role q.entry.kind) (get_or (pieces_of q) 0 []))) bare_stems ∙ ap (write q.entry) text ∙ ap (λ x. write x (first_piece layout e)) entry
      ∙ ap (λ cs. written SPACE cs (at + 1) cells) first_begun in
      let long : length (row_at labelled row) ≡ max (length (bare 0)) (at + 1 + length cells) = ap length line ∙ length-written SPACE (bare 0) (at + 1) cells in
      let ends : mark_end q ≡ e.end.display = mark_end_plain q (subst (All (λ (x : PlacedEntry). IsPlainEntry x.entry)) found.1 (single flat) 0 q
      (omega arith)) ∙ ap (λ (x : LineAnnotation). x.end.display) entry in
      let width : length (row_at new row) ≡ max (length (row_at labelled row)) at = marked.painted.width q (lone_order q found.1)
      (omega (arith, ends, some, ap (λ (x : LineAnnotation). x.start.display) entry))
      ∙ ap (λ n. max (length (row_at labelled row)) (layout.code + n)) ends in
      let same_long : length (row_at new row) ≡ length (row_at labelled row) = omega (arith, width, long) in
      let same : drop at (row_at new row) ≡ drop at (row_at labelled row) = same_after (row_at new row) (row_at labelled row) at same_long (λ c right.
      after q e found.1 ends c right) in
      same ∙ ap (drop at) line ∙ written_far (bare 0) cells at (omega
      (arith, bare_row_short layout.decor layout.gutter (closes && 0 + 1 == row_count placed), place))
    where
      after : (q : PlacedEntry) (e : LineAnnotation) → placed ≡ q ∷ [] → mark_end q ≡ e.end.display → (c : ℕ) → layout.code + e.end.display ≤ c
          → cell_at new row c ≡ cell_at labelled row c
      after q e one ends c right =
          let p : ℕ = c - layout.code in
          let N : PlacedEntry → Type 0 = λ x. IsPaintedAt x p → ⊥ in
          let here : layout.code + p ≡ c = omega (arith, right) in
          let none : N q = λ covers. omega (arith, covers.1, right, ends) in
          subst (λ n. cell_at new row n ≡ cell_at labelled row n) here (marked.painted.unmarked p
          (subst (All N) (sym (lone_order q one)) (All-cons N q [] none (All-nil N))))

  -- below a column that no entry of a plain line covers no mark is painted
  unpainted : plain ≡ true → (p : ℕ) → All (λ e. EntryCovers e p → ⊥) es → All (λ e. IsPaintedAt e p → ⊥) marked.order
  unpainted flat p uncovered k d within painted =
      let e : PlacedEntry = get_or marked.order k d in
      let own : IsPlainEntry e.entry = ordered_all IsPlainEntry (plain_entries room layout.decor es flat) k d within in
      ordered_all (λ e. EntryCovers e p → ⊥) uncovered k d within (covered_painted e p own painted)

  -- what was there below such a column is no mark
  unmarked : plain ≡ true → (p : ℕ) → All (λ e. EntryCovers e p → ⊥) es → is_mark_role (cell_at new row (layout.code + p)).role ≡ false
  unmarked flat p uncovered =
      let N : LineAnnotation → Type 0 = λ e. layout.code + p ≢ layout.code + e.start.display in
      let beside : All N es = grind (arith, common_steps, plain_entries) in
      let bare_space : is_mark_role (cell_at barred row (layout.code + p)).role
      ≡ false = ap (λ rows. is_mark_role (cell_at rows row (layout.code + p)).role) (barless flat)
      ∙ ap (λ cells. is_mark_role (slice_index_or cells (layout.code + p) SPACE).role) first_begun ∙ ap (λ (c : Cell). is_mark_role c.role) (space_at p) in
      let stems_done = stem_starts row (layout.code + p) (entries_all N es placed is.same beside) bare_space in
      let labels_done = label_starts row (layout.code + p) (All-nil (λ (e : PlacedEntry). layout.code + p ≢ layout.code + e.entry.start.display)) stems_done in
      ap (λ (c : Cell). is_mark_role c.role) (marked.painted.unmarked p (unpainted flat p uncovered)) ∙ labels_done

  shows_marks : plain ≡ true → ShowsMarks layout layout.decor layout.code es (row_at new row)
  shows_marks flat =
      record {
        marks = mark_shown layout es placed row labelled new (plain_entries room layout.decor es flat) is.same marked;
        unmarked = unmarked flat;
        spaces = λ none p uncovered.
            marked.painted.unmarked p (unpainted flat p uncovered) ∙ ap (λ rows. cell_at rows row (layout.code + p)) (unhung flat none)
            ∙ ap (λ cells. slice_index_or cells (layout.code + p) SPACE) first_begun ∙ space_at p;
        lone = lone flat;
      }

  -- the rows below that of the marks
  abbrev lower : List (List Cell)
  lower = drop (row + 1) new

  long_rows : (marks_now : List Cell) → length (marks_now ∷ lower) ≡ row_count placed
  long_rows marks_now = omega (arith, length-drop (row + 1) new, long_new, row_count_some placed)

  lower_at : (k : ℕ) → row_at lower k ≡ row_at new (row + suc k)
  lower_at k = get_or-drop (row + 1) new k [] ∙ ap (row_at new) (let same : row + 1 + k ≡ row + suc k = omega arith in same)

  -- where the row of the marks isn't cut, these rows are those that were drawn
  rows_new : (marks_now : List Cell) → marks_now ≡ row_at new row → (r c : ℕ) → cell_at (marks_now ∷ lower) r c ≡ cell_at new (row + r) c
  rows_new marks_now uncut zero c = ap (λ cells. get_or cells c SPACE) uncut ∙ ap (λ n. cell_at new n c) (let same : row ≡ row + 0 = omega arith in same)
  rows_new marks_now uncut (suc k) c = ap (λ cells. get_or cells c SPACE) (lower_at k)

  -- below a line spaces stand from the code on before it is drawn
  begun_space : (k c : ℕ) → layout.code ≤ c → cell_at begun (row + k) c ≡ SPACE
  begun_space k c right = grind (arith, cases_lt, begun_at, bare_row_right, get_or_past, long_begun)

  -- so in each cell that no label has stands a space or a stroke
  beside_labels : HasStrokesBeside layout row placed new
  beside_labels k c right beside = grind (arith, new_is, cell_of_strokes, begun_space)

  -- below a line no row goes past the code before it is drawn
  begun_short : (k : ℕ) → length (row_at begun (row + k)) ≤ layout.code
  begun_short k =
      elim (cases_lt k (row_count placed)) [
        | inl some ↦ omega (
          arith,
          ap (λ (cells : List Cell). length cells) (begun_at k some),
          bare_row_short layout.decor layout.gutter (closes && k + 1 == row_count placed),
          place,
        )
        | inr none ↦ omega (arith, ap (λ (cells : List Cell). length cells) (get_or_past begun (row + k) [] (omega (arith, none, long_begun))))
      ]

  -- so none goes past a cell by which all entries and their labels end, and none past the end of a label right of which nothing may stand
  module _ (marks_now : List Cell) (uncut : marks_now ≡ row_at new row) where
    same_row : (r : ℕ) → row_at (marks_now ∷ lower) r ≡ row_at new (row + r)
    same_row zero = uncut ∙ ap (row_at new) (let here : row ≡ row + 0 = omega arith in here)
    same_row (suc k) = lower_at k

    by_strokes : (r edge : ℕ)
        → length (row_at (painted (drawn_strokes layout (length above_rows) (length begun) placed (painting_order placed)) begun) (row + r)) ≤ edge
        → length (row_at (marks_now ∷ lower) r) ≤ edge
    by_strokes r edge short = grind (arith, common_steps, same_row, new_is)

    rows_end : EndRows layout es placed (marks_now ∷ lower)
    rows_end = record {
      within = λ edge right end r shown.
          let E : PlacedEntry → Type 0 = λ e. EndsBy layout edge e.entry in
          let end_placed : All E placed = entries_all (EndsBy layout edge) es placed is.same end in
          let end_order : All E (painting_order placed) = All-permutation E placed (painting_order placed) (IsPermutation-painting_order placed) end_placed in
          by_strokes r edge (strokes-by layout edge right (length above_rows) (length begun) placed (painting_order placed) begun bar_cells end_placed end_order
          (row + r) (λ k d within n some there. shown k d within n (omega (arith, there)) some) (omega (arith, begun_short r, right)));
      labelled = λ cut edge wide k d within some room n inside shown.
          let e : PlacedEntry = get_or placed k d in
          at_label k d n edge (λ short. label_row_by layout (length above_rows) es placed (painting_order placed) is places bar_cells
          (IsPermutation-painting_order placed) k d within (label_shows e some) n inside cut (omega (arith, room)) edge wide
          (λ i x inside_i m some_m there. shown i x inside_i m (omega (arith, there)) some_m) (length begun) begun short) (omega (arith, room, wide));
      last = λ k d within is_last n some.
          let e : PlacedEntry = get_or placed k d in
          at_label k d n (layout.code + (label_place e).1 + length (get_or (pieces_of e) n []))
          (row_ends layout (length above_rows) es placed (painting_order placed) is places bar_cells (IsPermutation-painting_order placed) k d within
          (has_piece e n some) n (piece_within (pieces_of e) n some) is_last some (length begun) begun) (omega arith);
    }
      where
        -- what ends the row of a label's piece while it is drawn, ends it where it is seen
        at_label : (k : ℕ) (d : PlacedEntry) (n edge : ℕ) → let at : ℕ = (label_place (get_or placed k d)).0 in
            let drawn : List (List Cell) = painted (drawn_strokes layout (length above_rows) (length begun) placed (painting_order placed)) begun in
            (length (row_at begun (length above_rows + 1 + at + n)) ≤ edge → length (row_at drawn (length above_rows + 1 + at + n)) ≤ edge)
            → layout.code ≤ edge → length (row_at (marks_now ∷ lower) (at + n)) ≤ edge
        at_label k d n edge ends right =
            let at : ℕ = (label_place (get_or placed k d)).0 in
            let drawn : List (List Cell) = painted (drawn_strokes layout (length above_rows) (length begun) placed (painting_order placed)) begun in
            let same : length above_rows + 1 + at + n ≡ row + (at + n) = omega arith in
            by_strokes (at + n) edge (subst (λ i. length (row_at drawn i) ≤ edge) same
            (ends (subst (λ i. length (row_at begun i) ≤ edge) (sym same) (omega (arith, begun_short (at + n), right)))))

  -- what is seen of the rows, once those of the source and of the marks are cut where entries are wide
  pub strokes_seen : (rows : List (List Cell))
      → CutsRows layout (wide_entries room layout.decor es) (is_uncut room layout es) source (row_at new row) lower rows
      → AreSeen layout room es closes plain_row rows
  strokes_seen rows cuts =
      let wide : ℕ = wide_entries room layout.decor es in
      let narrow : plain ≡ true → wide ≡ 0 = plain_narrow room layout.decor es in
      let hung : List (List Cell) → Type 0 = λ drawn. All (IsHung layout row placed drawn) placed in
      let below : List (List Cell) = cuts.marks_now ∷ lower in
      let long : length below ≡ row_count placed = long_rows cuts.marks_now in
      record {
        source = cuts.source_now;
        below = below;
        rows_are = cuts.new_is;
        beside = source_beside layout (length above_rows) plain_row source joined barred place bare_bars bars joined_source barred_source wide
            cuts.source_now cuts.source_cut;
        strokes = record {
          some = λ flat _. omega (arith, long, row_count_some placed);
          marks = λ flat. subst (ShowsMarks layout layout.decor layout.code es) (sym (cuts.marks_cut.uncut (narrow flat))) (shows_marks flat);
          labels = λ uncut _. LabelsStand-placed layout row es placed new below is places stands beside_labels
              (subst hung (sym new_is) (all_hung layout (length above_rows) (length begun) placed (painting_order placed) begun))
              (rows_new cuts.marks_now (cuts.kept uncut)) (rows_end cuts.marks_now (cuts.kept uncut));
          are = λ k inside. subst (λ n. IsStrokeRow layout plain es (closes && k + 1 == n) (row_at below k)) (sym long)
              (stroke_rows wide narrow cuts.marks_now cuts.marks_cut k (omega (arith, inside, long)));
        };
      }
    where
      stroke_rows : (wide : ℕ) → (plain ≡ true → wide ≡ 0) → (marks_now : List Cell) → IsCut layout wide (row_at new row) marks_now → (k : ℕ)
          → k < row_count placed → IsStrokeRow layout plain es (closes && k + 1 == row_count placed) (row_at (marks_now ∷ lower) k)
      stroke_rows wide narrow marks_now cut zero within =
          IsStrokeRow-cut layout wide plain es (closes && 0 + 1 == row_count placed) (row_at new row) marks_now place narrow
          (subst (IsStrokeRow layout plain es (closes && 0 + 1 == row_count placed)) (ap (row_at new) (let same : row + 0 ≡ row = omega arith in same))
          (stroke_row 0 within)) cut
      stroke_rows wide narrow marks_now cut (suc k) within =
          subst (IsStrokeRow layout plain es (closes && suc k + 1 == row_count placed)) (sym (lower_at k)) (stroke_row (suc k) within)

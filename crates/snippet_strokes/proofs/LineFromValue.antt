-- What is known of the rows of a line that painters promise, from the value alone: its source row, and the rows of its strokes.
use Rattle.std.proofs.lemmas.Grind.{common_steps}
use Rattle.snippet_strokes.proofs.Common.{◌≡◌, ℕ, suc, ◌+◌, ◌-◌, ◌<◌, ◌≤◌, ◌^◌, Bool, false, List, [], ◌∷◌, ◌++◌, All}
use Rattle.snippet_strokes.proofs.Common.{drop, filter, get_or, length, map, not, take, refl, sym, ap, ◌∙◌, subst, arith, inl, inr, cases_lt, cond-false}
use Rattle.snippet_strokes.proofs.Common.{cond-true, false≢true, get_or-map-range_with_len, length-map-range_with_len, shown_number, LineNumbers}
use Rattle.snippet_strokes.proofs.Common.{shown_number_unlisted, IsFree, each_fails, is_bar, AnnotatedLineInfo, LineAnnotation, Cell, DecorStyle, is_listed}
use Rattle.snippet_strokes.proofs.Common.{norm, char_width, width_of, list_any-norm, char_width-bound, StandsClear, dropped_part, reaching, Margin}
use Rattle.snippet_strokes.proofs.Common.{reaching-cons, reaching-none, width-cons, Layout, inner_cell, separator_cell, is_end_part, shifted, placed_of}
use Rattle.snippet_strokes.proofs.Common.{PlacedEntry, Top, OpenBar, LineView, ends_of_bars, overlapped, row_count, line_rows, own_rows, painting_order}
use Rattle.snippet_strokes.proofs.Common.{with_blocks, and_parts, middles_replaced, squeezed, ◌==◌}
use Rattle.snippet_strokes.proofs.SqueezedLemmas.{Line}
use Rattle.snippet_strokes.proofs.Common.{info_rows, is_whole_line, source_row, window_cells, highlighted_row, stroke_rows, painted, true, replicate}
use Rattle.snippet_strokes.proofs.Common.{if◌then◌else◌, list_all, list_any, list_any-IsPermutation, cases_Bool, append_assoc, length-append, length_push}
use Rattle.snippet_strokes.proofs.Common.{closing_row, separator_row, ArePlaced, is_wide_at, bare_row, is_cut, cut_pairs, is_uncut, Write, rules}
use Rattle.std.proofs.Common.{chars}
use Rattle.snippet_strokes.proofs.CellLemmas.{with_parts, cut_row, begun_rows, drawn_strokes, free_shown, unlisted_part}
use Rattle.snippet_strokes.proofs.CutWords.{cuts_of, Stretch, cut_rows}
use Rattle.snippet_strokes.proofs.WriteLaws.{AreLineRows, AreOwnRows, CanBeShown, IsHighlighted, IsSourceRow, ShowsLine, StrokesPainted}
use Rattle.snippet_strokes.proofs.PieceWrites.{labels_some}
use Rattle.snippet_strokes.proofs.PlacedOf.{placed_of_are}
use Rattle.snippet_strokes.proofs.PositionLemmas.{row_count_some}
use Rattle.snippet_strokes.proofs.SourceRowLemmas.{source_celled}
use Rattle.snippet_strokes.proofs.StemCells.{painted_rows-count, stroke_rows-count}
use Rattle.snippet_strokes.proofs.CutLemmas.{stroke_rows-cut, IsCut-cuts, cut_rows-here, cuts_of-narrow, uncut_row}
use Rattle.snippet_strokes.proofs.SeenRows.{wide_entries, CutsRows, IsCut}
use Rattle.snippet_strokes.proofs.PlacedAre.{placed_are}
use Rattle.snippet_strokes.proofs.PaintOrder.{IsPermutation-painting_order}
use Rattle.snippet_strokes.proofs.BegunLemmas.{wide_entries-order}
use Rattle.snippet_strokes.proofs.LowerWrites.{painted-below, strokes-lowered}

-- The rows with strokes of a line are those of the value.
module _ (layout : Layout) (room : ℕ) (closes : Bool) (source : List Cell) where
  -- the rows of strokes by placed entries
  abbrev rows_at : List PlacedEntry → List (List Cell)
  rows_at placed =
      let strokes = drawn_strokes layout 0 (row_count placed + 1) placed (painting_order placed) in
      let whole = painted strokes (begun_rows layout closes (row_count placed) source) in
      map (cut_row layout.decor (cuts_of layout room (painting_order placed) (with_blocks layout (painting_order placed) (overlapped placed)))) (take 2 whole)
      ++ drop 2 whole

  -- rows with strokes of these entries are the rows of their strokes
  pub stroke_rows_are : (es : List LineAnnotation) (rows : List (List Cell)) → StrokesPainted layout room closes es source rows
      → rows ≡ stroke_rows layout room closes es source
  stroke_rows_are es rows is =
      let order = painting_order is.placed in
      let cut = cut_row layout.decor (cuts_of layout room order (with_blocks layout order (overlapped is.placed))) in
      is.rows_are ∙ ap (λ whole. map cut (take 2 whole) ++ drop 2 whole) is.painted_are ∙ ap rows_at (placed_are layout es is.placed is.are)
      ∙ sym (stroke_rows-cut layout room closes es source)

-- ---- the source row

-- a source row: it ends with the code, and left of this stand what the gutter shows and the separator
pub source_row_shows : (layout : Layout) (shown : List ℕ) (cells : List Cell) → inner_cell layout ≤ layout.code → length shown ≤ separator_cell layout
    → All (λ c. is_listed c ≡ false) shown → IsFree cells → IsSourceRow layout shown cells (source_row layout shown cells)
source_row_shows layout shown cells place short free_shown free_cells = source_celled layout shown cells place short free_shown free_cells

-- the window of a normalised text holds no listed character
pub free_window : (decor : DecorStyle) (margin : Margin) (line : List ℕ) → IsFree (window_cells decor margin (norm line))
free_window decor margin line = search (rules, free_shown, unlisted_part, each_fails, list_any-norm)

-- the source row of a line
pub line_source_shows : (layout : Layout) (margin : Margin) (numbers : LineNumbers) (index : ℕ) (line : List ℕ) → inner_cell layout ≤ layout.code
    → index < 2 ^ 64 → length (shown_number numbers layout.gutter index) ≤ separator_cell layout
    → IsSourceRow layout (shown_number numbers layout.gutter index) (window_cells layout.decor margin (norm line))
    (source_row layout (shown_number numbers layout.gutter index) (window_cells layout.decor margin (norm line)))
line_source_shows layout margin numbers index line place small short = search (rules, source_row_shows, shown_number_unlisted, free_window)

-- a highlighted row, read cell by cell
pub highlighted_row_is : (code dropped : ℕ) (es : List LineAnnotation) (plain : List Cell)
    → IsHighlighted code dropped es plain (highlighted_row code dropped es plain)
highlighted_row_is code dropped es plain = grind (arith, length-map-range_with_len, get_or-map-range_with_len)

-- ---- the rows of its strokes

-- rows of which there are two at least
pub two_more : (rows : List (List Cell)) → 1 < length rows → rows ≡ get_or rows 0 [] ∷ get_or rows 1 [] ∷ drop 2 rows
two_more [] some = absurd (omega (arith, some))
two_more (x ∷ []) some = absurd (omega (arith, some))
two_more (x ∷ y ∷ rows) some = refl

-- the rows of strokes
pub stroke_rows_are_painted : (layout : Layout) (room : ℕ) (closes : Bool) (es : List LineAnnotation) (source : List Cell)
    → StrokesPainted layout room closes es source (stroke_rows layout room closes es source)
stroke_rows_are_painted layout room closes es source =
    let placed : List PlacedEntry = placed_of layout es in
    let order : List PlacedEntry = painting_order placed in
    let count : ℕ = row_count placed in
    let whole : List (List Cell) = painted (drawn_strokes layout 0 (count + 1) placed order) (begun_rows layout closes count source) in
    let some = labels_some layout es placed (placed_of_are layout es) in
    let long : length whole ≡ count + 1 = painted_rows-count layout closes placed order source some in
    let parts = two_more whole (omega (arith, long, row_count_some placed)) in
    let cut : List Cell → List Cell = cut_row layout.decor (cuts_of layout room order (with_blocks layout order (overlapped placed))) in
    record {
      placed = placed;
      are = placed_of_are layout es;
      top = get_or whole 0 [];
      marks = get_or whole 1 [];
      lower = drop 2 whole;
      painted_are = sym parts;
      rows_are = stroke_rows-cut layout room closes es source ∙ ap (λ rows. map cut (take 2 rows) ++ drop 2 rows) parts;
      count = stroke_rows-count layout room closes es source;
    }

module _ (layout : Layout) (room : ℕ) (closes : Bool) (text : List ℕ) (dropped : ℕ) where
  -- the rows that a line has by its own entries
  pub own_rows_are_rows : (es : List LineAnnotation) (source : List Cell)
      → AreOwnRows layout room closes text dropped es source (own_rows layout room closes text dropped es source)
  own_rows_are_rows [] source = search rules
  own_rows_are_rows (e ∷ es) source =
      let all : List LineAnnotation = e ∷ es in
      let tops : List (List Cell) = with_parts layout Top (ends_of_bars all) source ∷ [] in
      let line : Line = squeezed layout room (map (shifted dropped) all) in
      let now : List Cell = middles_replaced layout room line.1 source in
      let strokes : List (List Cell) = stroke_rows layout room closes line.0 now in
      record {
        whole = λ is. cond-true (is_whole_line text all) tops strokes is;
        none = λ empty. absurd (omega (arith, ap length empty));
        strokes = λ other _. subst (StrokesPainted layout room closes line.0 now)
            (sym (cond-false (is_whole_line text all) tops strokes other)) (stroke_rows_are_painted layout room closes line.0 now);
      }

  -- all rows of a line
  pub line_rows_are_rows : (open_bars : List OpenBar) (es : List LineAnnotation) (source : List Cell)
      → AreLineRows layout room closes text dropped open_bars es source (line_rows layout room closes text dropped open_bars es source)
  line_rows_are_rows open_bars es source =
      record {
        own = own_rows layout room closes text dropped es source;
        are = own_rows_are_rows es source;
        rows_are = refl;
      }

-- ---- all rows of a line that is shown

-- the first characters that reach so many columns take few columns more
reached_near : (n : ℕ) (cs : List ℕ) → width_of (take (reaching n cs) cs) < n + 4
reached_near n [] = omega arith
reached_near n (c ∷ cs) =
    elim (cases_lt 0 n) [
      | inr none ↦ grind (arith, common_steps, reaching-none)
      | inl some ↦
          let rest : ℕ = n - char_width c in
          let next : reaching rest cs + 1 ≡ suc (reaching rest cs) = omega arith in
          let more : width_of (take (reaching n (c ∷ cs)) (c ∷ cs)) ≡ width_of (c ∷ take (reaching rest cs) cs) =
          ap (λ k. width_of (take k (c ∷ cs))) (reaching-cons n c cs some ∙ next) in
          let wide = width-cons c (take (reaching rest cs) cs) in
          elim (cases_lt (char_width c) n) [
            | inl less ↦ omega (arith, more, wide, reached_near rest cs, less)
            | inr all ↦
                let zero : rest ≡ 0 = omega (arith, all) in
                let stop : reaching rest cs ≡ 0 = ap (λ k. reaching k cs) zero ∙ reaching-none cs in
                omega (arith, more, wide, ap (λ k. width_of (take k cs)) stop, char_width-bound c, some)
          ]
    ]

-- entries that stand after the padding of the margin's left bound start in no column that is dropped
pub entries_clear : (margin : Margin) (text : List ℕ) (es : List LineAnnotation) → All (StandsClear margin) es
    → All (λ e. is_bar e.annotation_type ≡ false → width_of (dropped_part margin.computed_left text) ≤ e.start.display) es
entries_clear margin text es clear k d within columns = grind (arith, reached_near, cases_lt, reaching-none)

-- the rows of a line that is shown
pub info_rows_show : (layout : Layout) (view : LineView) (open_bars : List OpenBar) (info : AnnotatedLineInfo) → inner_cell layout ≤ layout.code
    → CanBeShown layout view.margin view.numbers info
    → ShowsLine layout view.margin view.numbers view.closes open_bars info (info_rows layout view open_bars info)
info_rows_show layout view open_bars info place can =
    let margin : Margin = view.margin in
    let es : List LineAnnotation = info.annotations.items in
    let text : List ℕ = norm (chars info.line.now) in
    let dropped : ℕ = width_of (dropped_part margin.computed_left text) in
    let asking : List LineAnnotation = filter (λ (e : LineAnnotation). not (is_end_part e.annotation_type)) es in
    let shown : List ℕ = shown_number view.numbers layout.gutter info.line_index in
    let plain : List Cell = source_row layout shown (window_cells layout.decor margin text) in
    record {
      plain = plain;
      shows = line_source_shows layout margin view.numbers info.line_index (chars info.line.now) place can.small can.number;
      dropped = dropped;
      dropped_is = refl;
      clear = entries_clear margin text es can.clear;
      highlighted = highlighted_row layout.code dropped asking plain;
      highlights = highlighted_row_is layout.code dropped asking plain;
      drawn = line_rows_are_rows layout margin.term_width view.closes text dropped open_bars es (highlighted_row layout.code dropped asking plain);
    }

-- The rows of a line, as they are drawn below those that are there.
-- rows that are begun below others
begun_below : (layout : Layout) (closes : Bool) (count : ℕ) (above : List (List Cell)) (source : List Cell)
    → (above ++ source ∷ []) ++ replicate (count - 1) (separator_row layout.decor layout.gutter) ++ bare_row layout.decor layout.gutter closes ∷ [] ≡ above
    ++ begun_rows layout closes count source
begun_below layout closes count above source = simp (append_assoc)

-- of rows with the strokes of a line the first two are cut where entries are wide
pub rows_cut : (layout : Layout) (room : ℕ) (closes : Bool) (es : List LineAnnotation) (source : List Cell) (rows : List (List Cell))
    → (is : StrokesPainted layout room closes es source rows)
    → CutsRows layout (wide_entries room layout.decor es) (is_uncut room layout es) is.top is.marks is.lower rows
rows_cut layout room closes es source rows is =
    let order = painting_order is.placed in
    let flags = with_blocks layout order (overlapped is.placed) in
    let change : List Cell → List Cell = cut_row layout.decor (cuts_of layout room order flags) in
    let cut : (row : List Cell) → IsCut layout (wide_entries room layout.decor es) row (change row) = λ row.
    subst (λ n. IsCut layout n row (change row)) (wide_entries-order layout room layout.decor es is.placed is.are)
    (IsCut-cuts layout room order flags row) in
    record {
      source_now = change is.top;
      marks_now = change is.marks;
      new_is = is.rows_are;
      source_cut = cut is.top;
      marks_cut = cut is.marks;
      kept = λ uncut. uncut_row layout room (cut_pairs layout is.placed) is.marks
          (subst (λ placed. list_all (λ pair. not (is_cut room layout.decor pair)) (cut_pairs layout placed) ≡ true)
          (sym (placed_are layout es is.placed is.are)) (and_parts (length (squeezed layout room es).1 == 0) _ uncut).1);
    }

-- the strokes of a line, painted and then cut, are its rows
module _ (layout : Layout) (room : ℕ) (closes : Bool) (es : List LineAnnotation) (placed : List PlacedEntry) (flags : List Bool) (above : List (List Cell))
    (source : List Cell) (old new final : List (List Cell)) (row : ℕ)
    (are : ArePlaced layout es placed)
    (old_is : old ≡ above ++ source ∷ [])
    (row_is : row ≡ length above)
    (long : length new ≡ length old + row_count placed)
    (new_is : new ≡ painted (drawn_strokes layout row (length old + row_count placed) placed (painting_order placed))
    (old ++ replicate (row_count placed - 1) (separator_row layout.decor layout.gutter) ++ bare_row layout.decor layout.gutter closes ∷ []))
    (flags_are : list_any (is_wide_at room layout.decor) placed ≡ true → flags ≡ with_blocks layout (painting_order placed) (overlapped placed))
    (final_is : final ≡ cut_rows layout.decor row (cuts_of layout room (painting_order placed) flags) new) where
  abbrev order : List PlacedEntry
  order = painting_order placed

  abbrev count : ℕ
  count = row_count placed

  -- the bare rows, and the line's own rows before they are cut
  abbrev bare : List (List Cell)
  bare = begun_rows layout closes count source

  abbrev strokes : List Write
  strokes = drawn_strokes layout 0 (count + 1) placed order

  abbrev own : List (List Cell)
  own = painted strokes bare

  all_rows : length old + count ≡ length above + (count + 1)
  all_rows = omega (arith, ap length old_is, length_push above source)

  new_below : new ≡ above ++ own
  new_below = grind (arith, begun_below, all_rows, strokes-lowered, painted-below)

  -- what is cut: where an entry is wide, it is known which are overlapped
  cuts_are : cuts_of layout room order flags ≡ cuts_of layout room order (with_blocks layout order (overlapped placed))
  cuts_are = grind (arith, cases_Bool, list_any-IsPermutation, IsPermutation-painting_order, cuts_of-narrow)

  -- the rows of a line are its strokes, painted, and cut where entries are wide
  pub painted_added : final ≡ above ++ stroke_rows layout room closes es source
  painted_added =
      let many : length own ≡ count + 1 = omega (arith, ap length new_below, length-append above own, long, all_rows) in
      let top : List Cell = get_or own 0 [] in
      let marks : List Cell = get_or own 1 [] in
      let lower : List (List Cell) = drop 2 own in
      let parts : own ≡ top ∷ marks ∷ lower = two_more own (omega (arith, many, row_count_some placed)) in
      let few : length (top ∷ marks ∷ lower) ≡ count + 1 = sym (ap length parts) ∙ many in
      let stretches : List Stretch = cuts_of layout room order (with_blocks layout order (overlapped placed)) in
      let change : List Cell → List Cell = cut_row layout.decor stretches in
      let of_stretches = final_is ∙ ap (λ cs. cut_rows layout.decor row cs new) cuts_are in
      let of_parts = ap (cut_rows layout.decor row stretches) (new_below ∙ ap (λ rs. above ++ rs) parts) in
      let by_row : final ≡ above ++ change top ∷ change marks ∷ lower = of_stretches ∙ of_parts
      ∙ cut_rows-here layout row stretches above top marks lower (sym row_is) in
      let painted_are : StrokesPainted layout room closes es source (change top ∷ change marks ∷ lower) = record
      { placed = placed; are = are; top = top; marks = marks; lower = lower; painted_are = sym parts; rows_are = refl; count = few } in
      by_row ∙ ap (λ rows. above ++ rows) (stroke_rows_are layout room closes source es (change top ∷ change marks ∷ lower) painted_are)

-- below a line that isn't marked as a whole stand no rows without entries, or a closing row, and else those of its strokes
pub own_strokes : (layout : Layout) (room : ℕ) (closes : Bool) (text : List ℕ) (dropped : ℕ) (es : List LineAnnotation) (source : List Cell)
    → is_whole_line text es ≡ false → 0 < length es
    → own_rows layout room closes text dropped es source
    ≡ (let line = squeezed layout room (map (shifted dropped) es) in stroke_rows layout room closes line.0 (middles_replaced layout room line.1 source))
own_strokes layout room closes text dropped [] source other some = absurd (omega (arith, some))
own_strokes layout room closes text dropped (e ∷ es) source other some = cond-false (is_whole_line text (e ∷ es)) _ _ other

-- without entries
pub own_none : (layout : Layout) (room : ℕ) (closes : Bool) (text : List ℕ) (dropped : ℕ) (es : List LineAnnotation) (source : List Cell)
    → length es ≡ 0 → own_rows layout room closes text dropped es source ≡ source ∷ (if closes then closing_row layout.decor layout.gutter ∷ [] else [])
own_none layout room closes text dropped [] source none = refl
own_none layout room closes text dropped (e ∷ es) source none = absurd (omega (arith, none))

-- of a line that is marked as a whole
pub own_whole : (layout : Layout) (room : ℕ) (closes : Bool) (text : List ℕ) (dropped : ℕ) (es : List LineAnnotation) (source : List Cell)
    → is_whole_line text es ≡ true → own_rows layout room closes text dropped es source ≡ with_parts layout Top (ends_of_bars es) source ∷ []
own_whole layout room closes text dropped [] source whole = absurd (false≢true whole)
own_whole layout room closes text dropped (e ∷ es) source whole = cond-true (is_whole_line text (e ∷ es)) _ _ whole

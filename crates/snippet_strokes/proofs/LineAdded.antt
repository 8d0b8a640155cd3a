-- The rows of lines, drawn below those that are there.
use Rattle.std.proofs.lemmas.Grind.{common_steps}
use Rattle.snippet_strokes.proofs.Common.{◌≡◌, ℕ, ◌+◌, ◌<◌, ◌==◌, ◌&&◌, ◌++◌, ◌∷◌, [], All, Bool, true, false, List, drop}
use Rattle.snippet_strokes.proofs.Common.{get_or, length, map, refl, sym, ap, ◌∙◌, arith, nat_tests, append_assoc, drop_more, get_or_push, length-drop}
use Rattle.snippet_strokes.proofs.Common.{shown_number, AnnotatedLineInfo, LineAnnotation, Cell, norm, width_of, dropped_part, changed_within, row_at, Layout}
use Rattle.snippet_strokes.proofs.Common.{Solid, Top, OpenBar, LineView, bars_apart, ends_of_bars, own_rows, gap_rows, info_rows, infos_rows, HasBarRoom}
use Rattle.snippet_strokes.proofs.Common.{barred, is_whole_line, open_below, source_row, window_cells, highlighted_row}
use Rattle.std.proofs.Common.{chars}
use Rattle.snippet_strokes.proofs.CellLemmas.{with_parts}
use Rattle.snippet_strokes.proofs.BarRows.{barred-below}
use Rattle.snippet_strokes.proofs.BesideLemmas.{lit_bars}
use Rattle.snippet_strokes.proofs.HighlightLaws.{asking, changed_last}
use Rattle.snippet_strokes.proofs.LineFromValue.{own_whole}

-- the row that was added last
pub row_added : (old new : List (List Cell)) (row : List Cell) (r : ℕ) → r ≡ length old → new ≡ old ++ row ∷ [] → row_at new r ≡ row
row_added old new row r last added = ap (λ rows. row_at rows r) added ∙ get_or_push old row [] r (sym last)

-- ---- one line

module _ (layout : Layout) (view : LineView) (open_bars : List OpenBar) (info : AnnotatedLineInfo) (dropped row : ℕ) (old : List (List Cell))
    (dropped_is : dropped ≡ width_of (dropped_part view.margin.computed_left (norm (chars info.line.now)))) (last : row ≡ length old) where
  abbrev es : List LineAnnotation
  es = info.annotations.items

  abbrev text : List ℕ
  text = norm (chars info.line.now)

  abbrev drop_count : ℕ
  drop_count = width_of (dropped_part view.margin.computed_left text)

  abbrev plain : List Cell
  plain = source_row layout (shown_number view.numbers layout.gutter info.line_index) (window_cells layout.decor view.margin text)

  abbrev lit : List Cell → List Cell
  lit = highlighted_row layout.code drop_count (asking es)

  abbrev own : List Cell → List (List Cell)
  own source = own_rows layout view.margin.term_width view.closes text drop_count es source

  abbrev past_bars : List OpenBar
  past_bars = bars_apart open_bars (ends_of_bars es)

  -- the last row is highlighted
  lit_last : (source : List Cell) (mid high : List (List Cell)) → mid ≡ old ++ source ∷ []
      → high ≡ changed_within (highlighted_row layout.code dropped (asking es)) row (row + 1) mid → high ≡ old ++ lit source ∷ []
  lit_last source mid high mid_is is = grind (arith, changed_last)

  -- a line that isn't marked as a whole: below its source row, which is highlighted, come its own rows, and bars run past beside all
  pub marked_added : (past : List OpenBar) (mid high done new : List (List Cell)) → past ≡ past_bars → mid ≡ old ++ plain ∷ []
      → high ≡ changed_within (highlighted_row layout.code dropped (asking es)) row (row + 1) mid
      → ((above : List (List Cell)) (source : List Cell) → high ≡ above ++ source ∷ []
      → done ≡ above ++ own_rows layout view.margin.term_width view.closes text dropped es source)
      → new ≡ barred layout Solid past row done → new ≡ old ++ info_rows layout view open_bars info
  marked_added past mid high done new past_is mid_is is drawn barred_is = grind (arith, lit_last, barred-below)

  -- a line that is: its source row with the bars beside it is highlighted
  pub whole_added : (tops past : List OpenBar) (mid new : List (List Cell)) → tops ≡ ends_of_bars es → past ≡ past_bars → is_whole_line text es ≡ true
      → All (HasBarRoom layout) tops → All (HasBarRoom layout) past → mid ≡ old ++ with_parts layout Solid past (with_parts layout Top tops plain) ∷ []
      → new ≡ changed_within (highlighted_row layout.code dropped (asking es)) row (row + 1) mid → new ≡ old ++ info_rows layout view open_bars info
  whole_added tops past mid new tops_are past_are whole tops_room past_room mid_is is =
      let topped : List Cell = with_parts layout Top tops plain in
      let bright : List Cell = lit plain in
      let swapped : lit (with_parts layout Solid past topped) ≡ with_parts layout Solid past (with_parts layout Top tops bright) =
      lit_bars layout drop_count (asking es) Solid past topped past_room
      ∙ ap (with_parts layout Solid past) (lit_bars layout drop_count (asking es) Top tops plain tops_room) in
      lit_last (with_parts layout Solid past topped) mid new mid_is is ∙ ap (λ cells. old ++ cells ∷ []) swapped
      ∙ ap (λ bars. old ++ with_parts layout Solid bars (with_parts layout Top tops bright) ∷ []) past_are
      ∙ ap (λ bars. old ++ with_parts layout Solid past_bars (with_parts layout Top bars bright) ∷ []) tops_are
      ∙ ap (λ rows. old ++ map (with_parts layout Solid past_bars) rows)
      (sym (own_whole layout view.margin.term_width view.closes text drop_count es bright whole))

-- ---- all lines

-- the window closes with the last line
last_closes : (closes : Bool) (infos : List AnnotatedLineInfo) (i : ℕ) → i < length infos
    → (closes && i + 1 == length infos) ≡ (closes && length (drop (i + 1) infos) == 0)
last_closes true infos i within = grind (arith, nat_tests, length-drop (i + 1) infos)
last_closes false infos i within = refl

-- the line that stands next is drawn, and what stands in place of lines that are left out after it
pub next_added : (layout : Layout) (view : LineView) (infos : List AnnotatedLineInfo) (i : ℕ) (info : AnnotatedLineInfo) (closes : Bool)
    (open_bars below : List OpenBar) (before mid new all : List (List Cell)) → i < length infos → info ≡ get_or infos i info
    → closes ≡ (view.closes && i + 1 == length infos) → below ≡ open_below open_bars info.annotations.items
    → mid ≡ before ++ info_rows layout (record view { closes = closes }) open_bars info
    → new ≡ mid ++ gap_rows layout below info.line_index (drop (i + 1) infos)
    → before ++ infos_rows layout view open_bars (drop i infos) ≡ all → new ++ infos_rows layout view below (drop (i + 1) infos) ≡ all
next_added layout view infos i info closes open_bars below before mid new all within is closes_is below_is line gap so_far =
    let later : List AnnotatedLineInfo = drop (i + 1) infos in
    let now : List OpenBar = open_below open_bars info.annotations.items in
    let next : drop i infos ≡ info ∷ later = drop_more infos i info within ∙ ap (λ x. x ∷ later) (sym is) in
    let first : List (List Cell) = info_rows layout (record view { closes = view.closes && length later == 0 }) open_bars info in
    let between : List (List Cell) = gap_rows layout now info.line_index later in
    let rest : List (List Cell) = infos_rows layout view now later in
    let mid_is : mid ≡ before ++ first = grind (arith, common_steps, last_closes, view.closes) in
    let new_is : new ≡ (before ++ first) ++ between = grind (arith, common_steps, later, between, mid_is, info.line_index) in
    ap (λ bars. new ++ infos_rows layout view bars later) below_is ∙ ap (λ rows. rows ++ rest) new_is
    ∙ append_assoc (before ++ first) between rest ∙ append_assoc before first (between ++ rest)
    ∙ ap (λ xs. before ++ infos_rows layout view open_bars xs) (sym next) ∙ so_far

-- The rows of an annotated snippet's lines hold a line feed only where a label that isn't cut at it does, whatever is cut of them.
use Rattle.std.proofs.lemmas.Grind.{common_steps}
use Rattle.annotate_snippets.proofs.Common.{bar_glyphs, ◌≡◌, ◌≢◌, ℕ, suc, ◌+◌, ◌-◌, ◌<◌, ◌==◌, ◌&&◌, nat_le, nat_lt, Bool, true, false, cond, Option, None}
use Rattle.annotate_snippets.proofs.Common.{Some, List, [], ◌∷◌, ◌++◌, All, take, drop, map, length, fold, get_or, replicate, refl, sym, ap, subst, ◌∙◌, arith}
use Rattle.annotate_snippets.proofs.Common.{inl, inr, cow_str_bytes, Contains, option_map, IsUtf8, cases_Bool, cases_lt, nat_tests, get_or_past, All-append}
use Rattle.annotate_snippets.proofs.Common.{All-cons, All-contains, All-drop, All-filter, All-from_get_or, All-head, All-map, All-nil, All-replicate, All-tail}
use Rattle.annotate_snippets.proofs.Common.{All-take, All-weaker, slice_split_none, IsUtf8-nil, cell_at, replaced_within, row_at, Source, source_lines, text_at}
use Rattle.annotate_snippets.proofs.Common.{IsLine-at, IsUtf8-text_at, is_primary, Annotation, Snippet, Cell, SPACE, text_cells, unlinked_cell, written}
use Rattle.annotate_snippets.proofs.Common.{list_any, strokes_of, placeholder_of, underline_role, closing_row, separator_row, DecorStyle, Ascii, Unicode}
use Rattle.annotate_snippets.proofs.Common.{LineNumber, IsOneLine, lines_at, lines_at-chars, made_parts, LineAnnotation, made-all, Bar, bars_apart}
use Rattle.annotate_snippets.proofs.Common.{ends_of_bars, overlapped, Stretch, cuts_of, cut_row, shifted, label_text, AreLineRows, AreOwnRows, StrokesPainted}
use Rattle.annotate_snippets.proofs.Common.{with_blocks}
use Rattle.annotate_snippets.proofs.Common.{painting_order, row_count, bare_row, begun_rows, is_whole_line, drawn_strokes, label_write, Write, painted}
use Rattle.annotate_snippets.proofs.Common.{painted-cell, PlacedEntry, Renderer, HasNoFeed, numbered_source, Elision, NamedRow, OfferedLine, Other, RemovedLine}
use Rattle.annotate_snippets.proofs.Common.{RowName, SourceRow, cells_of, rows_below, AreRowsOf, IsRowOf, normalized_chars, Layout, entries_all}
use Rattle.std.proofs.Common.{chars}
use Rattle.annotate_snippets.proofs.LineWords.{entries_on}
use Rattle.annotate_snippets.proofs.DrawnRows.{AreRowsDrawn, IsLineDrawn, IsRowDrawn, open_after}
use Rattle.annotate_snippets.proofs.OneLineTexts.{HoldsNoFeed, IsNoFeed, IsOneLineLabel, IsOneLineText}
use Rattle.annotate_snippets.proofs.FeedLaws.{bare-plain, elided}
use Rattle.annotate_snippets.proofs.HeadingFeedLaws.{parts_plain}
use Rattle.snippet_grid.specs.Layout.{code_cell}
use Rattle.snippet_labels.specs.Pieces.{broken_in, text_pieces}
use Rattle.std.specs.Prelude.{if◌then◌else◌}
use Rattle.snippet_labels.specs.Positions.{label_place, pieces_of}
use Rattle.snippet_strokes.proofs.EachStroke.{each_corner, each_label, each_line, each_mark, each_stem_cell, each_stroke}
use Rattle.snippet_strokes.proofs.PieceWrites.{own_pieces, shown_text}
use Rattle.snippet_strokes.proofs.StrokeGlyphs.{IsAmong, of_glyph}
use Rattle.snippet_strokes.specs.Labels.{stem_glyphs, stroke_glyphs}
use Rattle.snippet_style.proofs.StrokeLemmas.{bars_among}
use Rattle.snippet_model.proofs.RowLemmas.{each_fails}
use Rattle.annotate_snippets.proofs.LabelLemmas.{tail_same}
use Rattle.annotate_snippets.proofs.PathFeedLaws.{alone, cells_plain, norm-plain}
use Rattle.annotate_snippets.proofs.SourceFeedLaws.{placeholder_plain, source_one_line}
use Rattle.snippet_strokes.specs.Squeezed.{middles_replaced, squeezed}
use Rattle.snippet_strokes.proofs.SqueezedLemmas.{Line, each_squeezed}

-- ---- lines of a source

-- the characters of a text hold no line feed where no byte of it is one, as `is_one_line` tells
pub chars-plain : (bytes : List ℕ) → IsUtf8 bytes → IsOneLine bytes → All IsNoFeed (chars bytes)
chars-plain bytes utf8 none =
    let whole : lines_at bytes ≡ bytes ∷ [] = slice_split_none (λ c. c == 10) bytes (All-weaker (λ b. b ≢ 10) IsNoFeed other bytes none) in
    let same : chars bytes ∷ [] ≡ lines_at (chars bytes) = ap (map chars) (sym whole) ∙ lines_at-chars bytes utf8 in
    All-head (All IsNoFeed) (chars bytes) [] (subst (All (All IsNoFeed)) (sym same) (parts_plain (chars bytes)))
  where
    other : (b : ℕ) → b ≢ 10 → IsNoFeed b
    other b is = grind (arith, nat_tests, is)

-- so no line of a source holds one
pub line_plain : (source : List ℕ) (k : ℕ) → IsUtf8 source → All IsNoFeed (chars (text_at (source_lines source) k))
line_plain source k utf8 =
    elim (cases_lt k (length (source_lines source))) [
      | inl within ↦ chars-plain (text_at (source_lines source) k) (IsUtf8-text_at source k utf8) (IsLine-at source k within).no_lf
      | inr past ↦ grind (arith, common_steps, chars, get_or_past, chars-plain, IsUtf8-nil, All-nil)
    ]

-- ---- glyphs

-- none of a table's that has no line feed in either decor is one
plain_in : (table : DecorStyle → List ℕ) → list_any (λ c. c == 10) (table Ascii) ≡ false → list_any (λ c. c == 10) (table Unicode) ≡ false
    → (decor : DecorStyle) (ch : ℕ) → IsAmong (table decor) ch → IsNoFeed ch
plain_in table ascii unicode Ascii ch among = of_glyph IsNoFeed ch (table Ascii) (each_fails (λ c. c == 10) (table Ascii) ascii) among
plain_in table ascii unicode Unicode ch among = of_glyph IsNoFeed ch (table Unicode) (each_fails (λ c. c == 10) (table Unicode) unicode) among

-- no piece of a label without line feeds holds one
pieces_plain : (cut : Bool) (text : List ℕ) → (cut ≡ false → All IsNoFeed text) → All (All IsNoFeed) (text_pieces cut text)
pieces_plain true text plain = parts_plain text
pieces_plain false text plain = All-cons (All IsNoFeed) text [] (plain refl) (All-nil (All IsNoFeed))

-- ---- what is written

-- a write of characters none of which is a line feed
abbrev IsPlainWrite : Write → Type 0
IsPlainWrite w = All IsNoFeed w.text

-- no stroke of a line is a line feed, where no label holds one
strokes_plain : (layout : Layout) (row count : ℕ) (placed order : List PlacedEntry)
    → ((k : ℕ) (d : PlacedEntry) (n : ℕ) → k < length placed → n < length (pieces_of (get_or placed k d))
    → IsPlainWrite (label_write layout (row + 1) (get_or placed k d) n))
    → All IsPlainWrite (drawn_strokes layout row count placed order)
strokes_plain layout row count placed order plain =
    each_stroke IsPlainWrite layout row count placed order
    (each_line IsPlainWrite layout (row + 1) placed (λ k d within _ depth _. All-replicate IsNoFeed _ _ (plain_in bar_glyphs refl refl layout.decor _
    (bars_among layout.decor (is_primary (get_or placed k d).entry.kind)).connector)))
    (each_corner IsPlainWrite layout row count placed (λ k d within depth r glyph _ _ _ _ among.
    alone glyph (plain_in bar_glyphs refl refl layout.decor glyph among)))
    (each_stem_cell IsPlainWrite layout _ placed (λ k d within _ below glyph _ among. alone glyph (plain_in stem_glyphs refl refl layout.decor glyph among)))
    (each_label IsPlainWrite layout (row + 1) placed (λ k d within n inside _. plain k d n within inside))
    (each_mark IsPlainWrite layout (row + 1) order (λ k d within cell n glyph _ _ among.
    All-replicate IsNoFeed n glyph (plain_in stroke_glyphs refl refl layout.decor glyph among)))

-- such writes leave no line feed in a cell
painted_plain : (ws : List Write) (rows : List (List Cell)) (r c : ℕ) → HoldsNoFeed (cell_at rows r c) → All IsPlainWrite ws
    → HoldsNoFeed (cell_at (painted ws rows) r c)
painted_plain ws rows r c before all =
    painted-cell HoldsNoFeed ws rows r c before (λ k d within there.
    let w : Write = get_or ws k d in
    all k d within (c - w.cell) 0 (omega (arith, there.from, there.to)))

-- ---- rows

-- cells that are written into a row, and those that stand in place of a stretch of it, bring none into it
pub row_written : (row : List Cell) (at : ℕ) (new : List Cell) → HasNoFeed row → HasNoFeed new → HasNoFeed (written SPACE row at new)
unfolding written
row_written row at new plain own =
    let filled : List Cell = row ++ replicate (at - length row) SPACE in
    let before : HasNoFeed (take at filled) = grind (arith, common_steps, All-take, filled, All-append, All-replicate) in
    All-append HoldsNoFeed _ _ (All-append HoldsNoFeed (take at filled) new before own) (All-drop HoldsNoFeed (at + length new) row plain)

row_replaced : (from to : ℕ) (new row : List Cell) → HasNoFeed row → HasNoFeed new → HasNoFeed (replaced_within from to new row)
unfolding replaced_within
row_replaced from to new row plain own =
    let changed : List Cell = take from row ++ new ++ drop to row in
    elim (nat_lt from to && nat_le to (length row)) as (λ b. HasNoFeed (cond b changed row)) [
      | true ↦ All-append HoldsNoFeed (take from row ++ new) (drop to row)
          (All-append HoldsNoFeed (take from row) new (All-take HoldsNoFeed from row plain) own) (All-drop HoldsNoFeed to row plain)
      | false ↦ plain
    ]

row_cut : (decor : DecorStyle) (cuts : List Stretch) (row : List Cell) → HasNoFeed row → HasNoFeed (cut_row decor cuts row)
row_cut decor [] row plain = plain
row_cut decor (cut ∷ cuts) row plain =
    let placeholder : List Cell = text_cells LineNumber (placeholder_of decor) in
    row_cut decor cuts (replaced_within cut.from cut.to placeholder row)
    (row_replaced cut.from cut.to placeholder row plain (cells_plain LineNumber (placeholder_of decor) (placeholder_plain decor)))

-- the bar of a span that goes on past a line, and a row with such bars
abbrev bar_beside : Layout → Bar → Cell
bar_beside layout bar =
    unlinked_cell (underline_role bar.primary) (strokes_of layout.decor bar.primary).bar

abbrev barred : Layout → List Bar → List Cell → List Cell
barred layout bars row =
    fold (λ cells bar. written SPACE cells (layout.gutter + 2 + bar.depth) (bar_beside layout bar ∷ [])) row bars

row_barred : (layout : Layout) (bars : List Bar) (row : List Cell) → HasNoFeed row → HasNoFeed (barred layout bars row)
row_barred layout [] row plain = plain
row_barred layout (bar ∷ bars) row plain =
    let at : ℕ = layout.gutter + 2 + bar.depth in
    let part : Cell = bar_beside layout bar in
    let one : HasNoFeed (part ∷ []) = All-cons HoldsNoFeed part []
    (plain_in bar_glyphs refl refl layout.decor _ (bars_among layout.decor bar.primary).bar) (All-nil HoldsNoFeed) in
    row_barred layout bars (written SPACE row at (part ∷ [])) (row_written row at (part ∷ []) plain one)

-- a cell of rows without line feeds, or a space beside them
in_rows : (rows : List (List Cell)) → All HasNoFeed rows → (r c : ℕ) → HoldsNoFeed (cell_at rows r c)
in_rows rows all r c = grind (arith, cases_lt, get_or_past)

from_cells : (rows : List (List Cell)) → ((r c : ℕ) → HoldsNoFeed (cell_at rows r c)) → All HasNoFeed rows
from_cells rows each = All-from_get_or HasNoFeed rows [] (λ r within. All-from_get_or HoldsNoFeed (row_at rows r) SPACE (λ c inside. each r c))

-- ---- the rows below a line

module _ (layout : Layout) (room : ℕ) (closes : Bool) where
  -- before strokes are drawn there they hold none
  begun_plain : (count : ℕ) → All HasNoFeed (replicate count (separator_row layout.decor layout.gutter) ++ bare_row layout.decor layout.gutter closes ∷ [])
  begun_plain count = grind (arith, common_steps, All-replicate, bare-plain, All-append, All-cons, All-nil)

  -- a label that isn't cut stays as it is
  whole_plain : (e : PlacedEntry) → layout.label_lines ≡ false → All IsNoFeed (label_text e.entry) → All IsNoFeed (shown_text layout e)
  whole_plain e whole plain =
      subst (All IsNoFeed) (sym (ap (λ b. if b then broken_in (layout.label_end - code_cell layout (label_place e).1) (label_text e.entry)
      else label_text e.entry) whole)) plain

  -- nor after that
  drawn_plain : (es : List LineAnnotation) (source : List Cell) (rows : List (List Cell)) (strokes : StrokesPainted layout room closes es source rows)
      → (layout.label_lines ≡ false → All (λ e. All IsNoFeed (label_text e)) es) → All HasNoFeed (strokes.marks ∷ strokes.lower)
  drawn_plain es source rows strokes plain =
      let placed = strokes.placed in
      let ws : List Write = drawn_strokes layout 0 (row_count placed + 1) placed (painting_order placed) in
      let begun : List (List Cell) = begun_rows layout closes (row_count placed) source in
      let own : (k : ℕ) (d : PlacedEntry) (n : ℕ) → k < length placed → n < length (pieces_of (get_or placed k d))
      → IsPlainWrite (label_write layout 1 (get_or placed k d) n) = λ k d n within inside.
      subst (All (All IsNoFeed)) (sym (own_pieces layout es placed strokes.are k d within)) (pieces_plain layout.label_lines
      (shown_text layout (get_or placed k d)) (λ whole. whole_plain (get_or placed k d) whole
      (entries_all (λ e. All IsNoFeed (label_text e)) es placed strokes.are.same (plain whole) k d within))) n [] inside in
      let written : All IsPlainWrite ws = strokes_plain layout 0 (row_count placed + 1) placed (painting_order placed) own in
      from_cells (strokes.marks ∷ strokes.lower) (λ r c. subst (λ (all : List (List Cell)). HoldsNoFeed (cell_at all (suc r) c)) (sym strokes.painted_are)
      (painted_plain ws begun (suc r) c (in_rows _ (begun_plain (row_count placed - 1)) r c) written))

  end_plain : All HasNoFeed (cond closes (closing_row layout.decor layout.gutter ∷ []) [])
  end_plain = grind (arith, common_steps, All-cons, bare-plain, All-nil)

  -- so a line's own rows below it hold none
  own_plain : (text : List ℕ) (dropped : ℕ) (es : List LineAnnotation) (source row : List Cell) (below : List (List Cell))
      → AreOwnRows layout room closes text dropped es source (row ∷ below)
      → (layout.label_lines ≡ false → All (λ e. All IsNoFeed (label_text e)) es) → All HasNoFeed below
  own_plain text dropped [] source row below are plain =
      subst (All HasNoFeed) (sym (tail_same row source below (cond closes (closing_row layout.decor layout.gutter ∷ []) []) (are.none refl))) end_plain
  own_plain text dropped (e ∷ es) source row below are plain =
      elim (cases_Bool (is_whole_line text (e ∷ es))) [
        | inl whole ↦ subst (All HasNoFeed) (sym (tail_same row _ below [] (are.whole whole))) (All-nil HasNoFeed)
        | inr other ↦
            let strokes = are.strokes other (omega arith) in
            let cuts : List Stretch = cuts_of layout room (painting_order strokes.placed)
            (with_blocks layout (painting_order strokes.placed) (overlapped strokes.placed)) in
            let whole : List LineAnnotation = map (shifted dropped) (e ∷ es) in
            let line : Line = squeezed layout room whole in
            let drawn : All HasNoFeed (strokes.marks ∷ strokes.lower) = drawn_plain line.0 (middles_replaced layout room line.1 source) (row ∷ below) strokes
            (λ uncut. each_squeezed layout room (λ x. All IsNoFeed (label_text x)) (λ x y own. own) whole
            (All-map (λ x. All IsNoFeed (label_text x)) (shifted dropped) (e ∷ es) (plain uncut))) in
            let marks : List Cell = cut_row layout.decor cuts strokes.marks in
            let cut : All HasNoFeed (marks ∷ strokes.lower) = All-cons HasNoFeed marks strokes.lower
            (row_cut layout.decor cuts strokes.marks (All-head HasNoFeed strokes.marks strokes.lower drawn))
            (All-tail HasNoFeed strokes.marks strokes.lower drawn) in
            subst (All HasNoFeed) (sym (tail_same row _ below (marks ∷ strokes.lower) strokes.rows_are)) cut
      ]

  -- and no bar that runs past it brings one
  pub below_plain : (text : List ℕ) (dropped : ℕ) (open_bars : List Bar) (es : List LineAnnotation) (source row : List Cell) (below : List (List Cell))
      → AreLineRows layout room closes text dropped open_bars es source (row ∷ below)
      → (layout.label_lines ≡ false → All (λ e. All IsNoFeed (label_text e)) es) → All HasNoFeed below
  below_plain text dropped open_bars es source row below are plain = of are.own are.are are.rows_are
    where
      rule : List Cell → List Cell
      rule = barred layout (bars_apart open_bars (ends_of_bars es))

      of : (own : List (List Cell)) → AreOwnRows layout room closes text dropped es source own → row ∷ below ≡ map rule own → All HasNoFeed below
      of [] own_are same = cc
      of (first ∷ later) own_are same =
          let later_plain : All HasNoFeed later = own_plain text dropped es source first later own_are plain in
          let each : All (λ x. HasNoFeed (rule x)) later = λ k d within.
          row_barred layout (bars_apart open_bars (ends_of_bars es)) (get_or later k d) (later_plain k d within) in
          subst (All HasNoFeed) (sym (tail_same row (rule first) below (map rule later) same)) (All-map HasNoFeed rule later each)

-- ---- labels

-- what a text shows holds none where the text holds none
shown_text_plain : (text : Option (List ℕ)) → IsOneLineText text → All IsNoFeed (normalized_chars text)
shown_text_plain None plain = All-nil IsNoFeed
shown_text_plain (Some text) plain = norm-plain (chars text) plain

abbrev IsPlainPart : LineAnnotation → Type 0
IsPlainPart p = All IsNoFeed (normalized_chars p.label)

parts_one_line : (s : Source) (marks : List Annotation) → All IsOneLineLabel marks → All IsPlainPart (made_parts s marks)
parts_one_line s marks plain =
    made-all IsPlainPart s marks (λ a among short. of_label a among)
    (λ a among long kind. record { start = All-nil IsNoFeed; bars = λ i d within. All-nil IsNoFeed; end = of_label a among; again = of_label a among })
  where
    of_label : (a : Annotation) → Contains marks a → All IsNoFeed (normalized_chars (option_map cow_str_bytes a.label))
    of_label a among = shown_text_plain (option_map cow_str_bytes a.label) (All-contains IsOneLineLabel marks a plain among)

-- the label of each entry of a line is one of its spans'
pub entries_plain : (s : Snippet Annotation) (k : ℕ) (es : List LineAnnotation) → es ≡ entries_on s k → All IsOneLineLabel s.markers.items
    → All (λ e. All IsNoFeed (label_text e)) es
entries_plain s k es are plain =
    let source : Source = numbered_source s in
    subst (All IsPlainPart) (sym are) (All-filter (λ (p : LineAnnotation). p.start.line == source.first + k) IsPlainPart
    (made_parts source s.markers.items) (parts_one_line source s.markers.items plain))

-- ---- all rows

-- a row that is one line of the text
abbrev IsRowOfText : NamedRow → Type 0
IsRowOfText row = HasNoFeed row.cells

module _ (r : Renderer) (layout : Layout) (closes : Bool) (s : Snippet Annotation) (utf8 : IsUtf8 (cow_str_bytes s.source.text))
    (plain : layout.label_lines ≡ false → All IsOneLineLabel s.markers.items) where
  line_below : (open_bars : List Bar) (k : ℕ) (row : List Cell) (below : List (List Cell)) (ends : Bool) → IsLineDrawn r layout ends s open_bars k (row ∷ below)
      → All HasNoFeed below
  line_below open_bars k row below ends drawn =
      below_plain layout drawn.margin.term_width ends drawn.text drawn.dropped open_bars drawn.entries drawn.highlighted row below drawn.drawn
      (λ whole. entries_plain s k drawn.entries drawn.are (plain whole))

  one_row : (open_bars : List Bar) (name : RowName) (cells : List Cell) (rows : List NamedRow) → IsRowOf r layout closes s name cells rows
      → IsRowDrawn r layout closes s open_bars name cells rows → All HasNoFeed (rows_below (record { name = name; cells = cells } ∷ rows))
      → HasNoFeed cells × All HasNoFeed (rows_below rows)
  one_row open_bars (SourceRow k) cells rows shows drawn below = (
    source_one_line r layout s k shows.dropped cells shows.line (line_plain (cow_str_bytes s.source.text) k utf8),
    line_below open_bars k cells _ _ drawn,
  )
  one_row open_bars Elision cells rows shows drawn below = (elided layout cells shows, subst (All HasNoFeed) (sym drawn.1) (All-nil HasNoFeed))
  one_row open_bars (OfferedLine j) cells rows shows drawn below = absurd shows
  one_row open_bars (RemovedLine i) cells rows shows drawn below = absurd shows
  one_row open_bars Other cells rows shows drawn below = (All-head HasNoFeed cells (rows_below rows) below, All-tail HasNoFeed cells (rows_below rows) below)

  all_rows : (open_bars : List Bar) (rows : List NamedRow) → AreRowsOf r layout closes s rows → AreRowsDrawn r layout closes s open_bars rows
      → All HasNoFeed (rows_below rows) → All IsRowOfText rows
  all_rows open_bars [] shows drawn below = All-nil IsRowOfText
  all_rows open_bars (row ∷ rows) shows drawn below =
      let own = one_row open_bars row.name row.cells rows shows.0 drawn.0 below in
      All-cons IsRowOfText row rows own.0 (all_rows (open_after s row.name open_bars) rows shows.1 drawn.1 own.1)

-- where no label that isn't cut holds a line feed, no row of a snippet's lines holds one: each is one line of the text
pub lines_one_line : (r : Renderer) (layout : Layout) (closes : Bool) (s : Snippet Annotation) (rows : List NamedRow)
    → AreRowsOf r layout closes s rows → AreRowsDrawn r layout closes s [] rows → rows_below rows ≡ []
    → IsUtf8 (cow_str_bytes s.source.text) → (layout.label_lines ≡ false → All IsOneLineLabel s.markers.items) → All HasNoFeed (cells_of rows)
lines_one_line r layout closes s rows shows drawn begins utf8 plain =
    let all = all_rows r layout closes s utf8 plain [] rows shows drawn (subst (All HasNoFeed) (sym begins) (All-nil HasNoFeed)) in
    All-map HasNoFeed (λ (row : NamedRow). row.cells) rows all

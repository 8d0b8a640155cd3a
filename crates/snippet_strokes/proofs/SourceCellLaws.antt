-- Laws of the cells of bars beside a line and beside lines that are left out: where no bar has its place the row stays as it is.
use Rattle.std.proofs.lemmas.Grind.{common_steps}
use Rattle.snippet_strokes.proofs.Common.{◌≡◌, ℕ, ◌+◌, ◌<◌, ◌≤◌, ◌∷◌, ◌++◌, [], List, length, replicate, get_or, All, refl, ap, ◌∙◌, arith, get_or_past}
use Rattle.snippet_strokes.proofs.Common.{each_fails, length-text_cells, DecorStyle, Ascii, Unicode, LineNumber, elision_of, Cell, SPACE, text_cells}
use Rattle.snippet_strokes.proofs.Common.{is_listed, Layout, OpenBar, Dotted, HasBarRoom, barred, gap_row, IsFree, IsElisionRow, bare_elision_row, free_drawn}
use Rattle.snippet_strokes.proofs.Common.{◌==◌, ◌&&◌, cond, nat_lt, Bool, true, false, None, map, sym, subst, inl, inr, slice_index_or, cases_Bool, cases_lt}
use Rattle.snippet_strokes.proofs.Common.{All-append, All-cons, All-from_get_or, All-get_or, All-head, All-nil, All-same, All-tail, LineNumbers}
use Rattle.snippet_strokes.proofs.Common.{shown_number, AnnotatedLineInfo, LineAnnotation, IsFreeCell, Margin}
use Rattle.snippet_strokes.proofs.Common.{shifted, Solid, Top, bars_apart, ends_of_bars, AreDrawable, LineView, gap_rows, info_rows, infos_rows}
use Rattle.snippet_strokes.proofs.Common.{is_whole_line, open_below, ◌≢◌, not, Some, Contains, false_from_ne_true, eqb-true, All-filter, All-map, cell_at}
use Rattle.snippet_strokes.proofs.Common.{is_primary, LineAnnotationType, Singleline, MultilineStart, MultilineEnd, MultilineLine, all_among}
use Rattle.snippet_strokes.proofs.Common.{among_filter_map, PlacedEntry, painting_order, Write, painted, entries_all, Bar, bar_at, row_count, HasOwnDepth}
use Rattle.snippet_strokes.proofs.Common.{bar_of, has_depth, rules}
use Rattle.snippet_strokes.proofs.BarRows.{barred-below}
use Rattle.snippet_strokes.proofs.BarLemmas.{BarsDrawn-with_parts, bar_space, AreSeen-drawn, whole_seen}
use Rattle.snippet_strokes.proofs.RowLemmas.{free_led, length-led}
use Rattle.snippet_strokes.proofs.CellLemmas.{with_parts, begun_rows, drawn_strokes}
use Rattle.snippet_strokes.specs.Squeezed.{middles_replaced, squeezed}
use Rattle.snippet_strokes.proofs.SqueezedLemmas.{Line, drawable_squeezed, each_squeezed}
use Rattle.snippet_strokes.proofs.SqueezedSeen.{bare_squeezed, seen_squeezed, squeezed_left}
use Rattle.snippet_strokes.proofs.WriteLaws.{AreLineRows, AreOwnRows, CanBeShown, IsHighlighted, IsSourceRow, ShowsLine, StrokesPainted, painted-untouched}
use Rattle.snippet_strokes.proofs.LineFromValue.{info_rows_show}
use Rattle.snippet_strokes.proofs.LabelPlaces.{none_seen}
use Rattle.snippet_strokes.proofs.OpenLemmas.{room_apart, room_below, room_ends}
use Rattle.snippet_strokes.proofs.SplitRows.{painted_seen}
use Rattle.snippet_strokes.proofs.SeenRows.{AreSeen, HasNoBars}
use Rattle.snippet_strokes.proofs.ShiftLemmas.{drawable_shifted}
use Rattle.snippet_strokes.proofs.BarFacts.{BarBegins}
use Rattle.snippet_strokes.proofs.Reach.{Reaches}
use Rattle.snippet_strokes.proofs.AmongLaws.{all_from_among}
use Rattle.snippet_strokes.proofs.EachStroke.{each_corner, each_label, each_line, each_mark, each_stem_cell, each_stroke, is_at}
use Rattle.snippet_strokes.proofs.EndBarLaws.{bar_begins, own_cell, passed_by, some_entries, strokes_left}

-- The row that stands for lines that are left out.
-- the cell from which the sign stands
abbrev pub elision_cell : DecorStyle → ℕ → ℕ
elision_cell Ascii gutter = 0
elision_cell Unicode gutter = gutter + 1

-- spaces and the glyph for lines that are left out are its bare row
pub bare_elision_is : (decor : DecorStyle) (gutter : ℕ)
    → replicate (elision_cell decor gutter) SPACE ++ text_cells LineNumber (elision_of decor) ≡ bare_elision_row decor gutter
bare_elision_is Ascii gutter = refl
bare_elision_is Unicode gutter = refl

-- the glyph for lines that are left out has a character
pub elision_some : (decor : DecorStyle) → 0 < length (elision_of decor)
elision_some Ascii = omega arith
elision_some Unicode = omega arith

-- it is short
pub bare_elision_short : (decor : DecorStyle) (gutter : ℕ) → length (bare_elision_row decor gutter) ≤ gutter + 3
bare_elision_short Ascii gutter = omega (arith, length-text_cells LineNumber (elision_of Ascii))
bare_elision_short Unicode gutter = omega (arith, length-led (gutter + 1) (elision_of Unicode))

-- and holds no listed character
free_bare_elision : (decor : DecorStyle) (gutter : ℕ) → IsFree (bare_elision_row decor gutter)
free_bare_elision Ascii gutter = free_drawn LineNumber (elision_of Ascii) (each_fails is_listed (elision_of Ascii) refl)
free_bare_elision Unicode gutter = free_led (gutter + 1) (elision_of Unicode) (each_fails is_listed (elision_of Unicode) refl)

-- the row with its bars stands for lines that are left out
pub gap_drawn : (layout : Layout) (open_bars : List OpenBar) → layout.gutter + 3 ≤ layout.code → All (HasBarRoom layout) open_bars
    → IsElisionRow layout (gap_row layout open_bars)
gap_drawn layout open_bars place room =
    let bare = bare_elision_row layout.decor layout.gutter in
    let drawn = BarsDrawn-with_parts layout Dotted open_bars bare room in
    let few = bare_elision_short layout.decor layout.gutter in
    record {
      left = drawn.left;
      bar_cells = grind (arith, common_steps, drawn, bar_space, bare, get_or_past, few, drawn.bar_cells, layout.decor);
      ends = omega (arith, drawn.short, few, place);
      free = drawn.free (free_bare_elision layout.decor layout.gutter);
    }

-- the bare row with its bars was added
pub gap_added : (layout : Layout) (open_bars : List OpenBar) (old begun new : List (List Cell)) (row : ℕ) → row ≡ length old
    → begun ≡ old ++ bare_elision_row layout.decor layout.gutter ∷ [] → new ≡ barred layout Dotted open_bars row begun
    → new ≡ old ++ gap_row layout open_bars ∷ []
gap_added layout open_bars old begun new row last begins value = grind (arith, barred-below)

-- where no bar of a line has this depth no start and no end has it
pub none_has : (depth : ℕ) (es : List LineAnnotation) → All (λ b. b.depth ≢ depth) (ends_of_bars es)
    → All (λ (e : LineAnnotation). is_at depth e.annotation_type ≡ false) es
unfolding is_at
none_has depth es others =
    all_from_among (λ (e : LineAnnotation). is_at depth e.annotation_type ≡ false) es (λ e here.
    by_type e.annotation_type (is_primary e.kind) (λ b is. all_among (λ (x : Bar). x.depth ≢ depth) (ends_of_bars es) b others
    (among_filter_map bar_of es e b here is)))
  where
    by_type : (t : LineAnnotationType) (primary : Bool) → ((b : Bar) → bar_at t primary ≡ Some b → b.depth ≢ depth) → is_at depth t ≡ false
    by_type Singleline primary apart = refl
    by_type (MultilineStart d) primary apart = false_from_ne_true (is_at depth (MultilineStart d)) (λ same.
        apart (record { depth = d; primary = primary }) refl (eqb-true d depth same))
    by_type (MultilineEnd d) primary apart = false_from_ne_true (is_at depth (MultilineEnd d)) (λ same.
        apart (record { depth = d; primary = primary }) refl (eqb-true d depth same))
    by_type (MultilineLine d) primary apart = refl

module _ (layout : Layout) (depth : ℕ) (room : layout.gutter + 2 + depth < layout.code) where
  -- any bar of this depth, and the cell in which it would stand
  abbrev bar : Bar
  bar = record { depth = depth; primary = false }

  abbrev cell : ℕ
  cell = layout.gutter + 2 + depth

  -- an entry isn't the end of a span of this depth
  abbrev IsNoEnd : LineAnnotation → Type 0
  IsNoEnd e = e.annotation_type ≡ MultilineEnd depth → ⊥

  -- so no stroke of a line reaches that cell of the source row, if no entry is such an end: all others stand below that row
  untouched : (count : ℕ) (placed order : List PlacedEntry) (begun : List (List Cell)) → All (λ (e : PlacedEntry). IsNoEnd e.entry) placed
      → cell_at (painted (drawn_strokes layout 0 count placed order) begun) 0 cell ≡ cell_at begun 0 cell
  untouched count placed order begun others =
      let Leaves : Write → Type 0 = λ w. Reaches 0 cell w → ⊥ in
      painted-untouched (drawn_strokes layout 0 count placed order) begun 0 cell (each_stroke Leaves layout 0 count placed order
      (each_line Leaves layout 1 placed (λ k d within _ _ _ there. omega (arith, there.row)))
      (each_corner Leaves layout 0 count placed (λ k d within deep _ _ _ _ ends _ _ there.
      let same : deep ≡ depth = omega (arith, there.from, there.to) in others k d within (ends there.row ∙ ap MultilineEnd same)))
      (each_stem_cell Leaves layout 1 placed (λ k d within _ _ _ _ _ there. omega (arith, there.row)))
      (each_label Leaves layout 1 placed (λ k d within _ _ _ there. omega (arith, there.row)))
      (each_mark Leaves layout 1 order (λ k d within _ _ _ _ _ _ there. omega (arith, there.row))))

  -- beside a line that isn't marked as a whole the cell stays, if no entry is such an end
  painted_source : (width : ℕ) (closes : Bool) (dropped : ℕ) (es : List LineAnnotation) (source : List Cell) (rows : List (List Cell)) → All IsNoEnd es
      → (let line = squeezed layout width (map (shifted dropped) es) in
      StrokesPainted layout width closes line.0 (middles_replaced layout width line.1 source) rows)
      → cell_at rows 0 cell ≡ get_or source cell SPACE
  painted_source width closes dropped es source rows none drawn =
      let line : Line = squeezed layout width (map (shifted dropped) es) in
      let now : List Cell = middles_replaced layout width line.1 source in
      let placed : List PlacedEntry = drawn.placed in
      let begun : List (List Cell) = begun_rows layout closes (row_count placed) now in
      let none_placed : All (λ (e : PlacedEntry). IsNoEnd e.entry) placed = entries_all IsNoEnd line.0 placed drawn.are.same
      (each_squeezed layout width IsNoEnd (λ e f other. other) (map (shifted dropped) es) (All-map IsNoEnd (shifted dropped) es none)) in
      strokes_left layout width closes line.0 now rows drawn 0 cell room
      ∙ untouched (row_count placed + 1) placed (painting_order placed) begun none_placed
      ∙ squeezed_left layout width (omega (arith, room)) line.1 source cell room

  module _ (width : ℕ) (closes : Bool) (text : List ℕ) (dropped : ℕ) (es : List LineAnnotation) (source : List Cell)
      (others : All (λ b. b.depth ≢ depth) (ends_of_bars es)) where
    -- no entry has this depth
    none_at : All IsNoEnd es
    none_at =
        all_from_among IsNoEnd es (λ e here end.
        let own : Bar = record { depth = depth; primary = is_primary e.kind } in
        all_among (λ (x : Bar). x.depth ≢ depth) (ends_of_bars es) own others
        (among_filter_map bar_of es e own here (ap (λ t. bar_at t (is_primary e.kind)) end)) refl)

    own_source : (rows : List (List Cell)) → AreOwnRows layout width closes text dropped es source rows → cell_at rows 0 cell ≡ get_or source cell SPACE
    own_source rows are =
        elim (cases_Bool (is_whole_line text es)) [
          | inl whole ↦ ap (λ rs. cell_at rs 0 cell) (are.whole whole) ∙ passed_by layout bar room Top (ends_of_bars es) source others
          | inr other ↦ by_entries es refl other
        ]
      where
        by_entries : (xs : List LineAnnotation) → es ≡ xs → is_whole_line text es ≡ false → cell_at rows 0 cell ≡ get_or source cell SPACE
        by_entries [] is other = ap (λ rs. cell_at rs 0 cell) (are.none is)
        by_entries (x ∷ xs) is other = painted_source width closes dropped es source rows none_at (are.strokes other (omega (arith, ap length is)))

    -- beside a line's source row nothing comes into a cell of bars, where no bar has its place there
    pub line_source : (open_bars : List Bar) (rows : List (List Cell)) → AreLineRows layout width closes text dropped open_bars es source rows
        → All (λ b. b.depth ≢ depth) open_bars → 0 < length rows → cell_at rows 0 cell ≡ get_or source cell SPACE
    line_source open_bars rows drawn open_others some =
        let apart : All (λ b. b.depth ≢ depth) (bars_apart open_bars (ends_of_bars es)) =
        All-filter (λ (b : Bar). not (has_depth (ends_of_bars es) b.depth)) (λ b. b.depth ≢ depth) open_bars open_others in
        own_cell layout bar room drawn apart 0 some ∙ own_source drawn.own drawn.are

  -- nor beside lines that are left out
  pub gap_space : (open_bars : List Bar) → All (λ b. b.depth ≢ depth) open_bars → 0 < depth → get_or (gap_row layout open_bars) cell SPACE ≡ SPACE
  gap_space open_bars others some =
      let bare : List Cell = bare_elision_row layout.decor layout.gutter in
      passed_by layout bar room Dotted open_bars bare others ∙ get_or_past bare cell SPACE (omega (arith, some, bare_elision_short layout.decor layout.gutter))

module _ (layout : Layout) (bar : Bar) (room : layout.gutter + 2 + bar.depth < layout.code) (es : List LineAnnotation) (among : Contains (ends_of_bars es) bar)
    (alone : HasOwnDepth bar (ends_of_bars es)) where
  -- the bar of a span that begins on a line begins in the line's rows, where a space stands in its cell of the row that shows the line alone
  pub begins : (width : ℕ) (closes : Bool) (text : List ℕ) (dropped : ℕ) (open_bars : List Bar) (source : List Cell) (rows : List (List Cell))
      → AreLineRows layout width closes text dropped open_bars es source rows
      → All (λ e. e.annotation_type ≡ MultilineEnd bar.depth → ⊥) es → get_or source (layout.gutter + 2 + bar.depth) SPACE ≡ SPACE → BarBegins layout bar rows
  begins width closes text dropped open_bars source rows drawn none blank =
      bar_begins layout bar room es among alone width closes text dropped open_bars source rows drawn none (λ other.
      painted_source layout bar.depth room width closes dropped es source drawn.own none
      (drawn.are.strokes other (some_entries layout bar room es among alone width closes text dropped open_bars source rows drawn)) ∙ blank)

-- What is seen of the rows of lines, which are a value: what stands in their source rows, and in the rows of their strokes.
-- highlighting puts no other character into a row
highlighted_free : (code dropped : ℕ) (es : List LineAnnotation) (plain row : List Cell) → IsHighlighted code dropped es plain row → IsFree plain → IsFree row
highlighted_free code dropped es plain row is free =
    let P : Cell → Type 0 = IsFreeCell in
    All-from_get_or P row SPACE (λ c within.
    let inside : c < length plain = omega (arith, is.width, within) in
    subst P (sym (is.cells c inside)) (All-get_or P plain c SPACE inside free))

-- the source row of a line reaches to the separator, and spaces stand in the place of bars
source_row_long : (layout : Layout) (shown : List ℕ) (cells row : List Cell) → IsSourceRow layout shown cells row → layout.gutter + 2 ≤ length row
source_row_long layout shown cells row is = grind (arith, cases_lt, get_or_past)

-- highlighting changes roles alone
highlighted_cell : (code dropped : ℕ) (es : List LineAnnotation) (plain row : List Cell) → IsHighlighted code dropped es plain row → (c : ℕ)
    → slice_index_or plain c SPACE ≡ SPACE → ((slice_index_or row c SPACE).ch ≡ 32) × ((slice_index_or row c SPACE).link ≡ None)
highlighted_cell code dropped es plain row is c space = grind (arith, cases_lt, get_or_past)

no_bars : (layout : Layout) (shown : List ℕ) (cells : List Cell) (dropped : ℕ) (es : List LineAnnotation) (plain row : List Cell)
    → IsSourceRow layout shown cells plain → length shown ≤ layout.gutter + 1 → IsHighlighted layout.code dropped es plain row → HasNoBars layout row
no_bars layout shown cells dropped es plain row source short is = (
  omega (arith, is.width, source_row_long layout shown cells plain source),
  λ c from to.
      let cell = highlighted_cell layout.code dropped es plain row is c (source.blank c (omega (arith, short, from)) (λ same. omega (arith, same, from)) to) in
      bar_space layout.decor (slice_index_or row c SPACE) cell.0 cell.1,
)

module _ (layout : Layout) (room : ℕ) (closes : Bool) (text : List ℕ) (dropped : ℕ) (source : List Cell) (place : layout.gutter + 3 ≤ layout.code)
    (bare : HasNoBars layout source) where
  abbrev Seen : List LineAnnotation → List (List Cell) → Type 0
  Seen es rows = AreSeen layout room (map (shifted dropped) es) closes source rows

  -- what is seen of the rows that a line has by its own entries
  own_seen : (es : List LineAnnotation) (rows : List (List Cell)) → AreDrawable layout es → AreOwnRows layout room closes text dropped es source rows
      → Seen es rows
  own_seen [] rows drawable are = subst (Seen []) (sym (are.none refl)) (none_seen layout room closes source place bare)
  own_seen (e ∷ es) rows drawable are =
      let all : List LineAnnotation = e ∷ es in
      elim (cases_Bool (is_whole_line text all)) [
        | inl whole ↦
            subst (Seen all) (sym (are.whole whole)) (AreSeen-drawn layout room (map (shifted dropped) all) closes source (source ∷ [])
            (with_parts layout Top (ends_of_bars all)) bare.0
            (λ cells. BarsDrawn-with_parts layout Top (ends_of_bars all) cells (room_ends layout all drawable.bar_cells))
            (whole_seen layout text room dropped closes all source whole bare))
        | inr other ↦
            let entries : List LineAnnotation = map (shifted dropped) all in
            let line : Line = squeezed layout room entries in
            let can = drawable_squeezed layout room entries (drawable_shifted layout dropped all drawable) in
            seen_squeezed layout room place closes entries source rows (painted_seen layout room closes line.0
            (middles_replaced layout room line.1 source) rows place can.columns can.bar_cells
            (bare_squeezed layout room place line.1 source bare) (are.strokes other (omega arith)))
      ]

  -- and of all its rows, beside which bars run past
  rows_seen : (open_bars : List OpenBar) (es : List LineAnnotation) (rows : List (List Cell)) → All (HasBarRoom layout) open_bars → AreDrawable layout es
      → AreLineRows layout room closes text dropped open_bars es source rows → Seen es rows
  rows_seen open_bars es rows fit drawable are =
      let past : List OpenBar = bars_apart open_bars (ends_of_bars es) in
      subst (Seen es) (sym are.rows_are) (AreSeen-drawn layout room (map (shifted dropped) es) closes source are.own (with_parts layout Solid past) bare.0
      (λ cells. BarsDrawn-with_parts layout Solid past cells (room_apart layout open_bars (ends_of_bars es) fit))
      (own_seen es are.own drawable are.are))

-- no row of them holds a listed character
seen_free : (layout : Layout) (room : ℕ) (es : List LineAnnotation) (closes : Bool) (plain : List Cell) (rows : List (List Cell))
    → AreSeen layout room es closes plain rows → IsFree plain → All IsFree rows
seen_free layout room es closes plain rows seen free =
    All-same IsFree rows (seen.source ∷ seen.below) seen.rows_are (All-cons IsFree seen.source seen.below (seen.beside.free free)
    (All-from_get_or IsFree seen.below [] (λ k within. (seen.strokes.are k within).free)))

-- the row for lines that are left out holds no listed character
free_gap : (layout : Layout) (open_bars : List OpenBar) (number : ℕ) (infos : List AnnotatedLineInfo) → layout.gutter + 3 ≤ layout.code
    → All (HasBarRoom layout) open_bars → All IsFree (gap_rows layout open_bars number infos)
free_gap layout open_bars number [] place room = All-nil IsFree
free_gap layout open_bars number (next ∷ infos) place room =
    let gap : List Cell = gap_row layout open_bars in
    elim (nat_lt (number + 1) next.line_index) as (λ b. All IsFree (cond b (gap ∷ []) [])) [
      | true ↦ All-cons IsFree gap [] (gap_drawn layout open_bars place room).free (All-nil IsFree)
      | false ↦ All-nil IsFree
    ]

module _ (layout : Layout) (margin : Margin) (numbers : LineNumbers) (place : layout.gutter + 3 ≤ layout.code) where
  -- what is seen of the rows that show a line
  pub line_seen : (closes : Bool) (open_bars : List OpenBar) (info : AnnotatedLineInfo) (rows : List (List Cell)) → All (HasBarRoom layout) open_bars
      → length (shown_number numbers layout.gutter info.line_index) ≤ layout.gutter + 1 → AreDrawable layout info.annotations.items
      → (shows : ShowsLine layout margin numbers closes open_bars info rows)
      → AreSeen layout margin.term_width (map (shifted shows.dropped) info.annotations.items) closes shows.highlighted rows
  line_seen closes open_bars info rows fit short drawable shows = search (rules, rows_seen, no_bars)

-- no row of lines that can be shown holds a listed character
pub infos_free : (layout : Layout) (view : LineView) (open_bars : List OpenBar) (infos : List AnnotatedLineInfo) → layout.gutter + 3 ≤ layout.code
    → All (HasBarRoom layout) open_bars → All (CanBeShown layout view.margin view.numbers) infos → All IsFree (infos_rows layout view open_bars infos)
infos_free layout view open_bars [] place fit all = All-nil IsFree
infos_free layout view open_bars (info ∷ infos) place fit all =
    let Can : AnnotatedLineInfo → Type 0 = CanBeShown layout view.margin view.numbers in
    let es = info.annotations.items in
    let can : Can info = All-head Can info infos all in
    let own : LineView = record view { closes = view.closes && length infos == 0 } in
    let below : List OpenBar = open_below open_bars es in
    let below_fit : All (HasBarRoom layout) below = room_below layout open_bars es fit can.entries.bar_cells in
    let first : List (List Cell) = info_rows layout own open_bars info in
    let shows : ShowsLine layout view.margin view.numbers own.closes open_bars info first = info_rows_show layout own open_bars info place can in
    let seen = line_seen layout view.margin view.numbers place own.closes open_bars info first fit can.number can.entries shows in
    let free = highlighted_free layout.code shows.dropped _ shows.plain shows.highlighted shows.highlights shows.shows.free in
    let between : List (List Cell) = gap_rows layout below info.line_index infos in
    let rest : List (List Cell) = infos_rows layout view below infos in
    All-append IsFree first (between ++ rest)
    (seen_free layout view.margin.term_width (map (shifted shows.dropped) es) own.closes shows.highlighted first seen free)
    (All-append IsFree between rest (free_gap layout below info.line_index infos place below_fit)
    (infos_free layout view below infos place below_fit (All-tail Can info infos all)))

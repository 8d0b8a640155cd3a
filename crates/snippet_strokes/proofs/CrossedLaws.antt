-- Laws of the cells of bars in all rows of a line: where no bar has its place nothing stands but lines that lead from other bars.
use Rattle.snippet_strokes.proofs.Common.{◌≡◌, ◌≢◌, ℕ, ◌+◌, ◌-◌, ◌<◌, Bool, true, false, cond, List, [], ◌∷◌, ◌++◌, All, map, length, replicate, get_or, ap}
use Rattle.snippet_strokes.proofs.Common.{◌∙◌, refl, sym, subst, arith, inl, inr, cases_Bool, cases_lt, get_or-map, get_or_past, length-map, All-append}
use Rattle.snippet_strokes.proofs.Common.{All-cons, All-filter, All-map, All-nil, All-replicate, Cell, SPACE, closing_row, separator_row, cell_at, is_primary}
use Rattle.snippet_strokes.proofs.Common.{LineAnnotation, Layout, PlacedEntry, shifted, painting_order, stroke_role, bare_row, Write, painted, entries_all}
use Rattle.snippet_strokes.proofs.Common.{Top, Bar, bars_apart, ends_of_bars, row_count, IsNoBar, has_depth, is_whole_line, slice_index_or, and_right}
use Rattle.snippet_strokes.proofs.Common.{ext_get_or, list_any_none, ElementStyle, row_text, highlights, rules}
use Rattle.std.specs.Prelude.{not}
use Rattle.snippet_strokes.proofs.CellLemmas.{with_parts, drawn_strokes, begun_rows, role_in_source}
use Rattle.snippet_strokes.specs.Squeezed.{middles_replaced, squeezed}
use Rattle.snippet_strokes.proofs.SqueezedLemmas.{Line, each_squeezed}
use Rattle.snippet_strokes.proofs.SqueezedSeen.{squeezed_left}
use Rattle.snippet_strokes.proofs.WriteLaws.{AreLineRows, AreOwnRows, StrokesPainted, painted-cell, IsHighlighted}
use Rattle.snippet_strokes.proofs.Reach.{Reaches, cell_of_write}
use Rattle.snippet_strokes.proofs.EachStroke.{apart_at, each_corner, each_label, each_line, each_mark, each_stem_cell, each_stroke, glyphs_leave, is_at}
use Rattle.snippet_strokes.proofs.EndBarLaws.{own_cell, passed_by, strokes_left}
use Rattle.snippet_strokes.proofs.RowLemmas.{bare_row_right}
use Rattle.snippet_strokes.proofs.SourceCellLaws.{none_has}

module _ (layout : Layout) (depth : ℕ) (some : 0 < depth) (room : layout.gutter + 2 + depth < layout.code) where
  abbrev bar : Bar
  bar = record { depth = depth; primary = false }

  abbrev cell : ℕ
  cell = layout.gutter + 2 + depth

  abbrev NoBar : Cell → Type 0
  NoBar = IsNoBar layout.decor

  -- the strokes of a line leave no bar there, if none was there and no entry has this depth: nothing but lines to bars
  strokes_clear : (count : ℕ) (placed order : List PlacedEntry) (begun : List (List Cell)) (r : ℕ)
      → All (λ (e : PlacedEntry). is_at depth e.entry.annotation_type ≡ false) placed → NoBar (cell_at begun r cell)
      → NoBar (cell_at (painted (drawn_strokes layout 0 count placed order) begun) r cell)
  strokes_clear count placed order begun r others before =
      let Clear : Write → Type 0 = λ w. Reaches r cell w → NoBar (cell_of_write w cell) in
      painted-cell NoBar (drawn_strokes layout 0 count placed order) begun r cell before (each_stroke Clear layout 0 count placed order
      (each_line Clear layout 1 placed (λ k d within _ deep _. glyphs_leave NoBar r cell _ _ _ _ (stroke_role (get_or placed k d))
      (inr (is_primary (get_or placed k d).entry.kind, refl))))
      (each_corner Clear layout 0 count placed (λ k d within deep _ _ at _ _ _ _ there.
      absurd (apart_at deep depth (get_or placed k d).entry.annotation_type at (others k d within) (omega (arith, there.from, there.to)))))
      (each_stem_cell Clear layout 1 placed (λ k d within _ _ _ _ _ there. absurd (omega (arith, there.from, room))))
      (each_label Clear layout 1 placed (λ k d within _ _ _ there. absurd (omega (arith, there.from, room))))
      (each_mark Clear layout 1 order (λ k d within _ _ _ right _ _ there. absurd (omega (arith, right, there.from, room)))))

  -- ---- rows

  -- a row has a space there
  abbrev HasSpace : List Cell → Type 0
  HasSpace row = get_or row cell SPACE ≡ SPACE

  spaces_in : (rows : List (List Cell)) → All HasSpace rows → (r : ℕ) → NoBar (cell_at rows r cell)
  spaces_in rows all r = grind (arith, cases_lt, get_or_past)

  bare_space : (closes : Bool) → HasSpace (bare_row layout.decor layout.gutter closes)
  bare_space closes = bare_row_right layout.decor layout.gutter closes cell (omega (arith, some))

  begun_spaces : (closes : Bool) (count : ℕ) (source : List Cell) → HasSpace source → All HasSpace (begun_rows layout closes count source)
  begun_spaces closes count source blank =
      let seps : List (List Cell) = replicate (count - 1) (separator_row layout.decor layout.gutter) in
      let end : List Cell = bare_row layout.decor layout.gutter closes in
      All-cons HasSpace source (seps ++ end ∷ []) blank (All-append HasSpace seps (end ∷ [])
      (All-replicate HasSpace (count - 1) (separator_row layout.decor layout.gutter) (bare_space false))
      (All-cons HasSpace end [] (bare_space closes) (All-nil HasSpace)))

  module _ (width : ℕ) (closes : Bool) (text : List ℕ) (dropped : ℕ) (es : List LineAnnotation) (source : List Cell)
      (others : All (λ b. b.depth ≢ depth) (ends_of_bars es)) (blank : get_or source (layout.gutter + 2 + depth) SPACE ≡ SPACE) where
    abbrev line : Line
    line = squeezed layout width (map (shifted dropped) es)

    abbrev now : List Cell
    now = middles_replaced layout width line.1 source

    painted_clear : (rows : List (List Cell)) → StrokesPainted layout width closes line.0 now rows → (r : ℕ) → NoBar (cell_at rows r cell)
    painted_clear rows drawn r =
        let placed : List PlacedEntry = drawn.placed in
        let begun : List (List Cell) = begun_rows layout closes (row_count placed) now in
        let at : List (List Cell) → Cell = λ all. cell_at all r cell in
        let Other : LineAnnotation → Type 0 = λ e. is_at depth e.annotation_type ≡ false in
        let none : All (λ (e : PlacedEntry). Other e.entry) placed = entries_all Other line.0 placed drawn.are.same
        (each_squeezed layout width Other (λ e f other. other) (map (shifted dropped) es) (All-map Other (shifted dropped) es (none_has depth es others))) in
        let blank_now : HasSpace now = squeezed_left layout width (omega (arith, room)) line.1 source cell room ∙ blank in
        let clear = strokes_clear (row_count placed + 1) placed (painting_order placed) begun r none
        (spaces_in begun (begun_spaces closes (row_count placed) now blank_now) r) in
        subst NoBar (sym (strokes_left layout width closes line.0 now rows drawn r cell room)) clear

    own_clear : (rows : List (List Cell)) → AreOwnRows layout width closes text dropped es source rows → (r : ℕ) → NoBar (cell_at rows r cell)
    own_clear rows are r =
        elim (cases_Bool (is_whole_line text es)) [
          | inl whole ↦
              let topped : List Cell = with_parts layout Top (ends_of_bars es) source in
              let all : All HasSpace (topped ∷ []) = All-cons HasSpace topped [] (passed_by layout bar room Top (ends_of_bars es) source others ∙ blank)
              (All-nil HasSpace) in
              spaces_in rows (subst (All HasSpace) (sym (are.whole whole)) all) r
          | inr other ↦ by_entries es refl other
        ]
      where
        ended : (b : Bool) → All HasSpace (source ∷ cond b (closing_row layout.decor layout.gutter ∷ []) [])
        ended true =
            All-cons HasSpace source (closing_row layout.decor layout.gutter ∷ []) blank
            (All-cons HasSpace (closing_row layout.decor layout.gutter) [] (bare_space true) (All-nil HasSpace))
        ended false = All-cons HasSpace source [] blank (All-nil HasSpace)

        by_entries : (xs : List LineAnnotation) → es ≡ xs → is_whole_line text es ≡ false → NoBar (cell_at rows r cell)
        by_entries [] is other = spaces_in rows (subst (All HasSpace) (sym (are.none is)) (ended closes)) r
        by_entries (x ∷ xs) is other = painted_clear rows (are.strokes other (omega (arith, ap length is))) r

    -- in no row of a line a bar stands in a cell of bars, where none has its place there
    pub line_clear : (open_bars : List Bar) (rows : List (List Cell)) → AreLineRows layout width closes text dropped open_bars es source rows
        → All (λ b. b.depth ≢ depth) open_bars → (i : ℕ) → i < length rows → IsNoBar layout.decor (cell_at rows i (layout.gutter + 2 + depth))
    line_clear open_bars rows drawn open_others i within =
        let apart : All (λ b. b.depth ≢ depth) (bars_apart open_bars (ends_of_bars es)) =
        All-filter (λ (b : Bar). not (has_depth (ends_of_bars es) b.depth)) (λ b. b.depth ≢ depth) open_bars open_others in
        subst NoBar (sym (own_cell layout bar room drawn apart i within)) (own_clear drawn.own drawn.are i)

-- What highlighting leaves in a source row.
-- highlighting leaves the row's text as it was
pub highlighted_text : (code dropped : ℕ) (es : List LineAnnotation) (plain row : List Cell) → IsHighlighted code dropped es plain row
    → row_text row ≡ row_text plain
highlighted_text code dropped es plain row is =
    let f : Cell → ℕ = λ c. c.ch in
    let long : length (row_text row) ≡ length (row_text plain) = length-map row f ∙ is.width ∙ sym (length-map plain f) in
    ext_get_or 32 (row_text row) (row_text plain) long (λ k within.
    let here : k < length row = omega (arith, within, length-map row f) in
    let there : k < length plain = omega (arith, here, is.width) in
    get_or-map f row k SPACE 32 here ∙ ap f (is.cells k there) ∙ sym (get_or-map f plain k SPACE 32 there))

-- nothing is highlighted left of the code
unasked_left : (code dropped c : ℕ) → c < code → (e : LineAnnotation) → highlights code dropped c e ≡ false
unasked_left code dropped c left e = search rules

role_left : (code dropped c : ℕ) → c < code → (es : List LineAnnotation) (role : ElementStyle) → role_in_source code dropped es c role ≡ role
role_left code dropped c left es role = simp (unasked_left, list_any_none, and_right)

-- highlighting changes no cell left of the code
pub highlighted_left : (code dropped : ℕ) (es : List LineAnnotation) (plain row : List Cell) → IsHighlighted code dropped es plain row → (c : ℕ) → c < code
    → slice_index_or row c SPACE ≡ slice_index_or plain c SPACE
highlighted_left code dropped es plain row is c left = grind (arith, cases_lt, role_left, get_or_past)

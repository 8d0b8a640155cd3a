-- The writes of the lines that lead to bars, and of bars with their corners.
use Rattle.std.proofs.lemmas.Grind.{common_steps}
use Rattle.snippet_strokes.proofs.Common.{◌≡◌, ℕ, ◌+◌, ◌-◌, ◌<◌, ◌≤◌, cond, true, false, List, [], ◌∷◌, length, get_or, refl, sym, ap, subst, arith, All}
use Rattle.snippet_strokes.proofs.Common.{All-cons, All-head, All-nil, All-replicate, All-tail, WritesCells-cells_written, is_primary, Cell, text_cells}
use Rattle.snippet_strokes.proofs.Common.{unlinked_cell, strokes_of, DecorStyle, ElementStyle, is_listed, Layout, PlacedEntry, IsBarCell, HasRows}
use Rattle.snippet_strokes.proofs.Common.{connectors_of, corners_of, HasBarCell, WritesCells, stroke_role, Write, painted, stretch_of, ◌++◌, is_mark_role}
use Rattle.snippet_strokes.proofs.Common.{has_stem, stem_of, is_stem_covered, stems_of, stem_glyphs, list_any, each_fails, Ascii, Unicode}
use Rattle.snippet_strokes.proofs.SeenRows.{is_single}
use Rattle.snippet_strokes.proofs.DrawnCells.{DrawsBarCells, DrawsFrom, KeepsBarCells, MarksStarts, StandsFrom}
use Rattle.snippet_strokes.proofs.CellLemmas.{line_to, written_by}
use Rattle.snippet_strokes.proofs.Reach.{IsWithin, Reaches, cell_of_write}
use Rattle.snippet_strokes.proofs.DrawLemmas.{DrawsBarCells-more, DrawsBarCells-none, DrawsBarCells-writes, free_bar, bar_horizontal}
use Rattle.snippet_strokes.proofs.EachStroke.{each_corner, each_line, each_stem_cell, each_cell_of_stem, room_at}
use Rattle.snippet_strokes.proofs.WriteLaws.{DrawsFrom-painted, flat_map-none, painted-cell, painted-count, painted-append}
use Rattle.snippet_strokes.proofs.StrokeGlyphs.{of_glyph}

-- each character of a write is a part of a bar
abbrev pub IsBarCellWrite : DecorStyle → Write → Type 0
IsBarCellWrite decor w = All (λ ch. IsBarCell decor (unlinked_cell w.role ch)) w.text

-- such writes leave nothing else left of the code
pub KeepsBarCells-painted : (layout : Layout) (ws : List Write) (rows : List (List Cell)) → All (IsBarCellWrite layout.decor) ws
    → KeepsBarCells layout rows (painted ws rows)
KeepsBarCells-painted layout ws rows bar_cells r c left before =
    let R : Cell → Type 0 = IsBarCell layout.decor in
    painted-cell R ws rows r c before (λ k d within there.
    let w : Write = get_or ws k d in
    bar_cells k d within (c - w.cell) 0 (omega (arith, there.from, there.to)))

-- ---- lines to bars

-- their glyph is a part of a bar
connector_bar_cell : (layout : Layout) (e : PlacedEntry)
    → IsBarCell layout.decor (unlinked_cell (stroke_role e) (strokes_of layout.decor (is_primary e.entry.kind)).connector)
connector_bar_cell layout e = bar_horizontal layout.decor (is_primary e.entry.kind) (stroke_role e) _ refl

-- so they are drawn in rows that are there, right of the separator, and left of the code they are nothing but parts of bars
pub DrawsFrom-connectors : (layout : Layout) (row : ℕ) (es : List PlacedEntry) (old : List (List Cell)) → All (HasRows row (length old)) es
    → DrawsFrom row (layout.gutter + 3) old (painted (connectors_of layout row es) old)
DrawsFrom-connectors layout row es old rows =
    DrawsFrom-painted row (layout.gutter + 3) (connectors_of layout row es) old
    (each_line (IsWithin row (length old) (layout.gutter + 3)) layout row es (λ k d within _ depth _. record {
      below = omega arith;
      there = (rows k d within).mark;
      right = omega arith;
      free = All-replicate (λ ch. is_listed ch ≡ false) _ _ (free_bar layout.decor _ (connector_bar_cell layout (get_or es k d))).0;
    }))

pub KeepsBarCells-connectors : (layout : Layout) (row : ℕ) (es : List PlacedEntry) (old : List (List Cell))
    → KeepsBarCells layout old (painted (connectors_of layout row es) old)
KeepsBarCells-connectors layout row es old =
    KeepsBarCells-painted layout (connectors_of layout row es) old (each_line (IsBarCellWrite layout.decor) layout row es (λ k d within _ depth _.
    All-replicate (λ ch. IsBarCell layout.decor (unlinked_cell (stroke_role (get_or es k d)) ch)) _ _ (connector_bar_cell layout (get_or es k d))))

-- where all entries stand for whole spans there are none
pub connectors_none : (layout : Layout) (row : ℕ) (es : List PlacedEntry) → All (λ e. is_single e.entry ≡ true) es → connectors_of layout row es ≡ []
connectors_none layout row es single = grind (arith, flat_map-none)

-- a line to a bar is drawn with the glyph and in the role of its entry
pub line_painted : (layout : Layout) (row : ℕ) (e : PlacedEntry) (depth glyph : ℕ) (role : ElementStyle) (old new : List (List Cell))
    → glyph ≡ (strokes_of layout.decor (is_primary e.entry.kind)).connector → role ≡ stroke_role e
    → new ≡ painted (stretch_of (row + e.position) (layout.gutter + 3 + depth) (layout.code + e.entry.start.display) glyph role) old
    → new ≡ painted (line_to layout row e depth) old
line_painted layout row e depth glyph role old new is_glyph is_role drawn_now = cc

-- ---- bars

-- one glyph of a bar or a corner, in a row that is there, between the separator and the code
pub record IsBarWrite (layout : Layout) (row count : ℕ) (w : Write) : Type 0 where
  pub below : row ≤ w.row
  pub there : w.row < count
  pub right : layout.gutter + 3 ≤ w.cell
  pub left : w.cell < layout.code
  pub ch : ℕ
  pub one : w.text ≡ ch ∷ []
  pub bar_cell : IsBarCell layout.decor (unlinked_cell w.role ch)

-- writes of bars, painted, draw cells of bars alone
pub DrawsBarCells-painted : (layout : Layout) (row count : ℕ) (ws : List Write) (old : List (List Cell)) → count ≡ length old
    → All (IsBarWrite layout row count) ws → DrawsBarCells layout row old (painted ws old)
DrawsBarCells-painted layout row count [] old is all = DrawsBarCells-none layout row old
DrawsBarCells-painted layout row count (w ∷ ws) old is all =
    let B : Write → Type 0 = IsBarWrite layout row count in
    let bar : B w = All-head B w ws all in
    let mid : List (List Cell) = written_by old w in
    let cell : Cell = unlinked_cell w.role bar.ch in
    let writes : WritesCells old mid w.row w.cell (text_cells w.role w.text) = WritesCells-cells_written old w.row w.cell (text_cells w.role w.text) in
    let there : w.row < length old = omega (arith, bar.there, is) in
    let same : count ≡ length mid = omega (arith, writes.count, there, is) in
    DrawsBarCells-more layout row old mid (painted ws mid)
    (DrawsBarCells-writes layout row w.row w.cell old mid cell (subst (WritesCells old mid w.row w.cell) (ap (text_cells w.role) bar.one) writes)
    bar.below there bar.right bar.left bar.bar_cell) (DrawsBarCells-painted layout row count ws mid same (All-tail B w ws all))

-- bars and corners are such glyphs, so they are drawn where bars stand, and are nothing but parts of bars
pub DrawsBarCells-corners : (layout : Layout) (row : ℕ) (es : List PlacedEntry) (old : List (List Cell)) → All (λ e. HasBarCell layout e.entry) es
    → All (HasRows (row + 1) (length old)) es → DrawsBarCells layout row old (painted (corners_of layout row (length old) es) old)
DrawsBarCells-corners layout row es old bar_cells rows =
    DrawsBarCells-painted layout row (length old) (corners_of layout row (length old) es) old refl
    (each_corner (IsBarWrite layout row (length old)) layout row (length old) es (λ k d within depth r glyph at below _ there among.
    let room = room_at layout depth (get_or es k d).entry.annotation_type (bar_cells k d within) at in record {
      below = below;
      there = omega (arith, there, (rows k d within).mark);
      right = omega (arith, room.0);
      left = omega (arith, room.1);
      ch = glyph;
      one = refl;
      bar_cell = record { glyph = among; link = refl };
    }))

-- where all entries stand for whole spans there are none
pub corners_none : (layout : Layout) (row count : ℕ) (es : List PlacedEntry) → All (λ e. is_single e.entry ≡ true) es → corners_of layout row count es ≡ []
corners_none layout row count es single = grind (arith, flat_map-none)

-- The writes of stems.
-- no glyph of them is a listed character
free_stem_glyphs : (decor : DecorStyle) → list_any is_listed (stem_glyphs decor) ≡ false
free_stem_glyphs Ascii = refl
free_stem_glyphs Unicode = refl

-- stems are drawn within the rows, and right of the columns before their entries
pub DrawsFrom-stems : (layout : Layout) (row from : ℕ) (es : List PlacedEntry) (old : List (List Cell)) → All (HasRows row (length old)) es
    → All (λ e. StandsFrom layout.code from e.entry) es → DrawsFrom row from old (painted (stems_of layout row es) old)
DrawsFrom-stems layout row from es old rows stand =
    let P : ℕ → Type 0 = λ ch. is_listed ch ≡ false in
    DrawsFrom-painted row from (stems_of layout row es) old
    (each_stem_cell (IsWithin row (length old) from) layout row es (λ k d within _ below glyph low among. record {
      below = omega arith;
      there = omega (arith, (rows k d within).mark, low);
      right = stand k d within;
      free = All-cons P glyph []
          (of_glyph P glyph (stem_glyphs layout.decor) (each_fails is_listed (stem_glyphs layout.decor) (free_stem_glyphs layout.decor)) among) (All-nil P);
    }))

-- a stem adds no row
pub stem_count : (layout : Layout) (row : ℕ) (e : PlacedEntry) (rows : List (List Cell)) → HasRows row (length rows) e
    → length (painted (stem_of layout row e) rows) ≡ length rows
stem_count layout row e rows has =
    let n = length rows in
    painted-count (stem_of layout row e) rows n refl (each_cell_of_stem (λ w. w.row < n) layout row e (λ _ below glyph low _. omega (arith, has.mark, low)))

-- the stems from one entry on are its own, unless the next one's covers it, and those of the later ones
pub stems_next : (layout : Layout) (row : ℕ) (e : PlacedEntry) (later : List PlacedEntry) (old new : List (List Cell)) → is_stem_covered e later ≡ false
    → new ≡ painted (stem_of layout row e) old → painted (stems_of layout row later) new ≡ painted (stems_of layout row (e ∷ later)) old
stems_next layout row e later old new shown drawn_now = grind (arith, painted-append)

-- an entry that is hidden by a later one adds no stem
pub stems_skip : (layout : Layout) (row : ℕ) (e : PlacedEntry) (later : List PlacedEntry) (rows : List (List Cell)) → is_stem_covered e later ≡ true
    → painted (stems_of layout row later) rows ≡ painted (stems_of layout row (e ∷ later)) rows
stems_skip layout row e later rows hidden =
    sym (ap (λ b. painted (cond b [] (stem_of layout row e) ++ stems_of layout row later) rows) hidden)

-- stems stand below the first columns of their entries
pub stems_start : (layout : Layout) (row : ℕ) (es : List PlacedEntry) (rows : List (List Cell))
    → MarksStarts layout.code es rows (painted (stems_of layout row es) rows)
stems_start layout row es rows r c beside before =
    let M : Cell → Type 0 = λ cell. is_mark_role cell.role ≡ false in
    let Q : Write → Type 0 = λ w. Reaches r c w → M (cell_of_write w c) in
    painted-cell M (stems_of layout row es) rows r c before (each_stem_cell Q layout row es (λ k d within _ _ _ _ _ there.
    absurd (beside k d within (omega (arith, there.from, there.to)))))

-- where no entry has a stem nothing is written
pub stems_none : (layout : Layout) (row : ℕ) (es : List PlacedEntry) → All (λ e. has_stem e ≡ false) es → stems_of layout row es ≡ []
stems_none layout row [] none = refl
stems_none layout row (e ∷ later) none =
    grind (arith, common_steps, stems_none layout row later (All-tail (λ x. has_stem x ≡ false) e later none), All-head (λ x. has_stem x ≡ false) e later none)

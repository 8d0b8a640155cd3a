-- What is written for the strokes of a line, as lists of writes: its labels, its stems, the lines that lead to bars, the bars of
-- the spans that begin or end on it, and all of them, over which its marks are painted.
use Rattle.std.specs.Prelude.{ℕ, ◌+◌, ◌-◌, List, [], ◌∷◌, map, if◌then◌else◌, ◌==◌, ◌&&◌, Bool, not, ◌++◌, length, replicate, drop, take, fold}
use Rattle.std.specs.List.{range_with_len, flat_map, list_all, zip}
use Rattle.snippet_style.specs.declared.role.ElementStyle.{ElementStyle}
use Rattle.snippet_strokes.specs.Writes.{Write, glyph_at, painted, stretch_of}
use Rattle.snippet_style.specs.Glyphs.{strokes_of}
use Rattle.snippet_model.specs.AnnotationKind.{is_primary}
use Rattle.snippet_grid.specs.Layout.{Layout, bar_cell, code_cell}
use Rattle.snippet_labels.specs.declared.positions.PlacedEntry.{PlacedEntry}
use Rattle.snippet_labels.specs.PlacedEntries.{label_role}
use Rattle.snippet_parts.specs.declared.entries.LineAnnotation.{LineAnnotation}
use Rattle.snippet_style.specs.Cell.{Cell}
use Rattle.snippet_style.specs.Separators.{separator_row}
use Rattle.snippet_strokes.specs.Drawing.{row_count}
use Rattle.snippet_strokes.specs.Painting.{mark_of, painting_order, stroke_role}
use Rattle.snippet_labels.specs.Positions.{has_label, has_stem, label_place, pieces_of, placed_of, is_start_part, takes_space}
use Rattle.snippet_strokes.specs.Cuts.{cut_middle, is_cut, overlapped, with_blocks}
use Rattle.snippet_strokes.specs.SourceRows.{bare_row}
use Rattle.snippet_strokes.specs.Squeezed.{squeezed}
use Rattle.std.specs.Option.{option_map_or}
use Rattle.snippet_strokes.specs.Bars.{bar_at}

-- ---- labels

-- a piece of a label in this row, from this cell on, if it has a character
abbrev pub piece_at : ℕ → ℕ → ElementStyle → List ℕ → List Write
piece_at row cell role piece = if length piece == 0 then [] else record { row = row; cell = cell; text = piece; role = role } ∷ []

-- the pieces of a label, each in a row of its own from this one on
abbrev pub pieces_at : ℕ → ℕ → ElementStyle → List (List ℕ) → List Write
pieces_at row cell role [] = []
pieces_at row cell role (piece ∷ pieces) = piece_at row cell role piece ++ pieces_at (row + 1) cell role pieces

-- the label of an entry, if it has one, at its place below the row of the marks
abbrev pub label_of : Layout → ℕ → PlacedEntry → List Write
label_of layout row e =
    let place = label_place e in
    pieces_at (row + place.0) (code_cell layout place.1) (label_role e.entry.kind) (pieces_of e)

-- ---- stems

-- the stem of an entry, if it has one, from the row of the marks down. At its foot stands another glyph: of a start the corner at which the
-- line to its bar begins, of an end with a label the branch there, else the stem's own
abbrev pub stem_of : Layout → ℕ → PlacedEntry → List Write
stem_of layout row e =
    let strokes = strokes_of layout.decor (is_primary e.entry.kind) in
    let end_foot = if takes_space e && has_label e then strokes.corner_with_label else strokes.stem in
    let foot = if is_start_part e.entry.annotation_type then strokes.corner else end_foot in
    if has_stem e
    then map (λ below. glyph_at (row + below) (code_cell layout e.entry.start.display) (if below == e.position then foot else strokes.stem) (stroke_role e))
    (range_with_len 0 (e.position + 1)) else []

-- ---- lines to bars

-- the line from the cell after the bar of a start or an end to before the start of its mark, in the row of its position
abbrev pub connector_of : Layout → ℕ → PlacedEntry → List Write
connector_of layout row e =
    let glyph = (strokes_of layout.decor (is_primary e.entry.kind)).connector in
    option_map_or (λ bar. stretch_of (row + e.position) (layout.gutter + 3 + bar.depth) (code_cell layout e.entry.start.display) glyph (stroke_role e))
    (bar_at e.entry.annotation_type (is_primary e.entry.kind)) []

-- ---- bars with their corners

-- a glyph in a cell of each row from one to before another
abbrev pub column_of : ℕ → ℕ → ℕ → ℕ → ElementStyle → List Write
column_of start end cell glyph role = map (λ row. glyph_at row cell glyph role) (range_with_len start (end - start))

-- the bar of a start or an end, with its corner in the row of the entry's position; the line's source row is `row`. That of a start goes
-- on in all rows below, of which there are `count` in all; that of an end stands in all from the source row down to it
abbrev pub corner_of : Layout → ℕ → ℕ → PlacedEntry → List Write
corner_of layout row count e =
    let strokes = strokes_of layout.decor (is_primary e.entry.kind) in
    let corner = row + 1 + e.position in
    let drawn : ℕ → List Write = λ cell. if is_start_part e.entry.annotation_type
    then glyph_at corner cell strokes.bar_top (stroke_role e) ∷ column_of (corner + 1) count cell strokes.bar (stroke_role e)
    else column_of row corner cell strokes.bar (stroke_role e) ++ glyph_at corner cell strokes.bar_bottom (stroke_role e) ∷ [] in
    option_map_or (λ bar. drawn (bar_cell layout bar.depth)) (bar_at e.entry.annotation_type (is_primary e.entry.kind)) []

-- ---- all of them

-- all strokes of a line. Its source row is `row`, and below it come as many rows that there are `count` in all: the lines to bars, the
-- bars, the stems, and the labels; and last, over all others, the marks in the order in which they are painted
abbrev pub line_strokes : Layout → ℕ → ℕ → List PlacedEntry → List PlacedEntry → List Write
line_strokes layout row count placed order =
    flat_map (connector_of layout (row + 1)) placed ++ flat_map (corner_of layout row count) placed ++ flat_map (stem_of layout (row + 1)) placed
    ++ flat_map (label_of layout (row + 1)) placed ++ flat_map (mark_of layout (row + 1)) order

-- placed entries, each with whether it is overlapped. As the original does, what is known of the entry at a place in the order in which they
-- are placed stands there for the one at the same place in the order in which marks are painted
abbrev pub cut_pairs : Layout → List PlacedEntry → List (PlacedEntry × Bool)
cut_pairs layout placed = zip (painting_order placed) (with_blocks layout (painting_order placed) (overlapped placed))

-- whether no entry of a line is cut, before labels have their places or after
abbrev pub is_uncut : ℕ → Layout → List LineAnnotation → Bool
is_uncut room layout es =
    length (squeezed layout room es).1 == 0 && list_all (λ pair. not (is_cut room layout.decor pair)) (cut_pairs layout (placed_of layout es))

-- the rows of a line with the strokes of these entries, of which this is the source row. All strokes are painted over this row and those below
-- it, of which there are as many as the entries ask for: separators, with the last row as the window closes or goes on. Of the first two, the
-- source row and that of the marks, what is cut where entries are wide is replaced last
abbrev pub stroke_rows : Layout → ℕ → Bool → List LineAnnotation → List Cell → List (List Cell)
stroke_rows layout room closes es source =
    let placed = placed_of layout es in
    let order = painting_order placed in
    let count = row_count placed in
    let bare = replicate (count - 1) (separator_row layout.decor layout.gutter) ++ bare_row layout.decor layout.gutter closes ∷ [] in
    let whole = painted (line_strokes layout 0 (count + 1) placed order) (source ∷ bare) in
    map (λ row. fold (cut_middle layout room) row (cut_pairs layout placed)) (take 2 whole) ++ drop 2 whole

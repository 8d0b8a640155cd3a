-- Strokes as their painters promise them.
use Rattle.std.specs.Prelude.{ℕ, ◌+◌, ◌==◌, ◌&&◌, ◌||◌, if◌then◌else◌, List, [], ◌∷◌, ◌++◌}
use Rattle.snippet_style.specs.declared.glyphs.DecorStyle.{DecorStyle}
use Rattle.snippet_style.specs.Glyphs.{strokes_of}
use Rattle.snippet_labels.specs.declared.positions.PlacedEntry.{PlacedEntry}
use Rattle.snippet_model.specs.AnnotationKind.{is_primary}
use Rattle.snippet_labels.specs.Positions.{has_stem, takes_space, has_label, is_start_part}
use Rattle.std.specs.List.{flat_map}
use Rattle.snippet_strokes.specs.Writes.{Write, glyph_at}
use Rattle.snippet_grid.specs.Layout.{Layout, bar_cell}
use Rattle.snippet_strokes.specs.Painting.{stroke_role}
use Rattle.std.specs.Option.{option_map_or}
use Rattle.snippet_strokes.specs.Bars.{bar_at}
use Rattle.snippet_strokes.specs.Strokes.{label_of, stem_of, connector_of, corner_of}

-- the glyph at the first column of an entry's mark: of a start or an end the corner where the line to its bar meets the mark,
-- or where a stem leads down to that line the stem's top; of another entry the top of the stem that its label hangs from,
-- or where it has none the underline
abbrev pub first_glyph : DecorStyle → PlacedEntry → ℕ
first_glyph decor e =
    let strokes = strokes_of decor (is_primary e.entry.kind) in
    if takes_space e then (if has_stem e then strokes.end_down else strokes.end_flat)
    else (if has_stem e then strokes.label_start else strokes.underline)

-- the column after the last one at which an entry's mark is painted: after its first column even where it covers none, if
-- a glyph of its own stands there
abbrev pub mark_end : PlacedEntry → ℕ
mark_end e =
    if e.entry.start.display == e.entry.end.display && (takes_space e || has_stem e) then e.entry.end.display + 1 else e.entry.end.display

-- the glyph at the foot of an entry's stem: of a start the corner at which the line to its bar begins, of an end with a label the branch
-- there, else the stem's own
abbrev pub foot_glyph : DecorStyle → PlacedEntry → ℕ
foot_glyph decor e =
    let strokes = strokes_of decor (is_primary e.entry.kind) in
    if is_start_part e.entry.annotation_type then strokes.corner else (if takes_space e && has_label e then strokes.corner_with_label else strokes.stem)

-- what of an entry's bar stands in the source row: the uppermost part of that of an end
abbrev pub top_of : Layout → ℕ → PlacedEntry → List Write
top_of layout row e =
    let strokes = strokes_of layout.decor (is_primary e.entry.kind) in
    let drawn : ℕ → List Write = λ cell. if is_start_part e.entry.annotation_type then [] else glyph_at row cell strokes.bar (stroke_role e) ∷ [] in
    option_map_or (λ bar. drawn (bar_cell layout bar.depth)) (bar_at e.entry.annotation_type (is_primary e.entry.kind)) []

-- what of the bars of some entries does
abbrev pub tops_of : Layout → ℕ → List PlacedEntry → List Write
tops_of layout row placed = flat_map (top_of layout row) placed

-- the lines to the bars of some entries, the first row of which is `row`, that of the marks
abbrev pub connectors_of : Layout → ℕ → List PlacedEntry → List Write
connectors_of layout row placed = flat_map (connector_of layout row) placed

-- the bars of some entries with their corners, where the source row is `row`
abbrev pub corners_of : Layout → ℕ → ℕ → List PlacedEntry → List Write
corners_of layout row count placed = flat_map (corner_of layout row count) placed

-- the labels of some entries
abbrev pub labels_of : Layout → ℕ → List PlacedEntry → List Write
labels_of layout row placed = flat_map (label_of layout row) placed

-- the strokes of a line but its marks, where the source row is `row`
abbrev pub strokes_under_marks : Layout → ℕ → ℕ → List PlacedEntry → List Write
strokes_under_marks layout row count placed =
    connectors_of layout (row + 1) placed ++ corners_of layout row count placed ++ flat_map (stem_of layout (row + 1)) placed
    ++ labels_of layout (row + 1) placed

-- How the marks of a line are painted, one over another.
use Rattle.std.specs.Prelude.{ℕ, ◌==◌, ◌&&◌, ◌||◌, nat_lt, not, Bool, List, [], ◌∷◌, nat_le, ◌++◌}
use Rattle.std.specs.Prelude.{if◌then◌else◌}
use Rattle.snippet_lines.specs.OrderedBy.{ordered_by}
use Rattle.snippet_parts.specs.declared.entries.LineAnnotation.{LineAnnotation}
use Rattle.snippet_style.specs.Glyphs.{strokes_of, underline_role}
use Rattle.snippet_grid.specs.Layout.{Layout, code_cell}
use Rattle.snippet_labels.specs.declared.positions.PlacedEntry.{PlacedEntry}
use Rattle.snippet_labels.specs.PlacedEntries.{entry_width}
use Rattle.snippet_model.specs.AnnotationKind.{is_primary}
use Rattle.snippet_labels.specs.Positions.{has_stem, takes_space}
use Rattle.snippet_style.specs.declared.role.ElementStyle.{ElementStyle}
use Rattle.snippet_strokes.specs.Writes.{Write, glyph_at, stretch_of}

-- whether an entry is painted before another: it is wider, or as wide, and for context where the other is primary
abbrev pub is_painted_before : LineAnnotation → LineAnnotation → Bool
is_painted_before e f =
    nat_lt (entry_width f) (entry_width e) || (entry_width e == entry_width f && (not (is_primary e.kind) && is_primary f.kind))

-- placed entries in the order in which their marks are painted: the widest first, those of one width with the primary ones last, and
-- else as they are placed
abbrev pub painting_order : List PlacedEntry → List PlacedEntry
painting_order placed = ordered_by (λ e f. is_painted_before e.entry f.entry) placed

-- the role of an entry's strokes
abbrev pub stroke_role : PlacedEntry → ElementStyle
stroke_role e = underline_role (is_primary e.entry.kind)

-- ---- marks

-- the mark of an entry: underlines below the columns that it covers, and at its first column, even where it covers none, a glyph of its own,
-- unless it ends left of that. The glyph of a start or an end is the corner where the line to its bar meets the mark, or where a stem leads
-- down to that line the stem's top; that of another entry the top of the stem that its label hangs from, if it has one
abbrev pub mark_of : Layout → ℕ → PlacedEntry → List Write
mark_of layout row e =
    let strokes = strokes_of layout.decor (is_primary e.entry.kind) in
    let from = code_cell layout e.entry.start.display in
    let own = if takes_space e then (if has_stem e then strokes.end_down else strokes.end_flat) else strokes.label_start in
    stretch_of row from (code_cell layout e.entry.end.display) strokes.underline (stroke_role e)
    ++ (if nat_le e.entry.start.display e.entry.end.display && (takes_space e || has_stem e) then glyph_at row from own (stroke_role e) ∷ [] else [])

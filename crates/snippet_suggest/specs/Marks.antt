-- The marks below the one line of a suggestion, as values.
use Rattle.std.specs.Prelude.{ℕ, ◌+◌, ◌-◌, min, nat_le, List, [], ◌∷◌, ◌++◌, chars, filter, length, replicate, sum_by, if◌then◌else◌}
use Rattle.std.specs.Str.{trim, trim_start}
use Rattle.snippet_style.specs.Cell.{Cell}
use Rattle.snippet_style.specs.declared.glyphs.DecorStyle.{DecorStyle}
use Rattle.snippet_style.specs.declared.role.ElementStyle.TheVariants.{Addition}
use Rattle.snippet_text.specs.Width.{width_of}
use Rattle.snippet_lines.specs.Lines.{Source}
use Rattle.snippet_lines.specs.Place.{locations_of}
use Rattle.snippet_splice.specs.Edits.{Edit}
use Rattle.snippet_splice.specs.EditStretches.{capped}
use Rattle.snippet_suggest.specs.declared.layout.SuggestionLayout.{SuggestionLayout}
use Rattle.snippet_suggest.specs.declared.marks.PatchColumns.{PatchColumns}
use Rattle.snippet_suggest.specs.Cells.{put}
use Rattle.snippet_style.specs.Glyphs.{added_mark_of, changed_mark_of}
use Rattle.snippet_suggest.specs.Kind.{adds_text, is_blank_text}
use Rattle.snippet_grid.specs.Layout.{inner_cell}
use Rattle.snippet_style.specs.Bounds.{max_column}

-- the columns of a text, and of an edit: where its span starts and ends in its lines of the source, and how many its text has
abbrev pub text_width : List ℕ → ℕ
text_width text = capped (width_of (chars text))

abbrev pub edit_columns : Source → Edit → PatchColumns
edit_columns s e =
    let at = locations_of s e.start e.end in
    record { start = at.0.display; end = at.1.display; width = text_width e.text }

-- those of some edits that end at this column or left of it
abbrev pub left_of : ℕ → List PatchColumns → List PatchColumns
left_of start earlier = filter (λ c. nat_le c.end start) earlier

-- where a column of what starts at column `start` stands in the line as it will be: the edits left of it move it to the right, and then to
-- the left, together by what they make the line longer or shorter
abbrev pub moved : ℕ → List PatchColumns → ℕ → ℕ
moved start earlier column =
    let left = left_of start earlier in
    capped (column + capped (sum_by (λ c. c.width + c.start) left)) - capped (sum_by (λ c. c.end) left)

-- as the original does, in bytes: how much whitespace a text begins with, none if it is nothing else; and the columns of the text without
-- the whitespace around it, or of all of it if it is nothing else
abbrev pub lead_of : List ℕ → ℕ
lead_of text = if is_blank_text text then 0 else length text - length (trim_start text)

abbrev pub inner_width : PatchColumns → List ℕ → ℕ
inner_width c text = if is_blank_text text then c.width else text_width (trim text)

-- as the original does: the columns from which on and before which the marks of an edit stand, below its text in the line as it will be.
-- The whitespace that the text begins with counts as many columns as it has bytes
abbrev pub mark_start : List PatchColumns → PatchColumns → List ℕ → ℕ
mark_start earlier c text = moved c.start earlier (capped (c.start + lead_of text))

-- the column before which the marks of an edit end, below its text in the line as it will be
abbrev pub patch_mark_end : List PatchColumns → PatchColumns → List ℕ → ℕ
patch_mark_end earlier c text = moved c.start earlier (capped (capped (c.start + lead_of text) + inner_width c text))

-- the mark of an edit: that of what is put in where it adds text, else that of what is changed
abbrev pub mark_glyph_of : DecorStyle → List ℕ → Edit → ℕ
mark_glyph_of decor source e = if adds_text source e then added_mark_of decor else changed_mark_of decor

-- a row with a mark in the columns from one to before another, as far as there are columns
unfoldable pub with_mark : SuggestionLayout → ℕ → ℕ → ℕ → List Cell → List Cell
with_mark layout mark start end row =
    put Addition (replicate (min end max_column - start) mark) (inner_cell layout.base + start) row

-- a row with the marks of some edits of a source, after others with these columns
unfoldable pub with_marks : SuggestionLayout → Source → List PatchColumns → List Edit → List Cell → List Cell
with_marks layout s earlier [] row = row
with_marks layout s earlier (e ∷ es) row =
    let c = edit_columns s e in
    with_marks layout s (earlier ++ c ∷ []) es (with_mark layout (mark_glyph_of layout.base.decor s.text e) (mark_start earlier c e.text)
    (patch_mark_end earlier c e.text) row)

-- What the rows of a suggestion hold, cell by cell: a value for each kind of row.
use Rattle.std.specs.Prelude.{ℕ, ◌+◌, ◌-◌, ◌*◌, nat_le, ◌==◌, ◌&&◌, true, Bool, List, [], ◌∷◌, chars, count_by, length, take, if◌then◌else◌}
use Rattle.snippet_style.specs.declared.role.ElementStyle.{ElementStyle}
use Rattle.snippet_style.specs.declared.role.ElementStyle.TheVariants.{Addition, LineNumber, NoStyle, Removal}
use Rattle.snippet_style.specs.Cell.{Cell, SPACE, text_cells, written}
use Rattle.snippet_style.specs.Glyphs.{placeholder_of, removed_sign_of}
use Rattle.snippet_grid.specs.Grid.{changed_within, restyled}
use Rattle.snippet_text.specs.Normalized.{norm}
use Rattle.snippet_text.specs.Width.{width_of}
use Rattle.snippet_lines.specs.Number.{shown_number}
use Rattle.snippet_splice.specs.declared.stretches.SubstitutionHighlight.{SubstitutionHighlight}
use Rattle.snippet_splice.specs.EditStretches.{capped}
use Rattle.snippet_style.specs.declared.glyphs.SuggestionGlyph.{SuggestionGlyph}
use Rattle.snippet_style.specs.declared.glyphs.SuggestionGlyph.TheVariants as sign
use Rattle.snippet_suggest.specs.declared.kind.DisplaySuggestion.{DisplaySuggestion}
use Rattle.snippet_suggest.specs.declared.kind.DisplaySuggestion.TheVariants.{Diff, Add}
use Rattle.snippet_suggest.specs.declared.layout.SuggestionLayout.{SuggestionLayout}
use Rattle.snippet_suggest.specs.declared.layout.SuggestionStart.{SuggestionStart}
use Rattle.snippet_suggest.specs.declared.layout.SuggestionStart.TheVariants.{Opening, Next, Path}
use Rattle.snippet_style.specs.Glyphs.{suggestion_glyph_of, suggestion_role_of}
use Rattle.snippet_suggest.specs.SuggestionRows.{end_glyph}
use Rattle.snippet_grid.specs.Layout.{inner_cell, separator_cell}

-- a row after characters were put into it in a role, from a cell on; none leave it as it was
unfoldable pub put : ElementStyle → List ℕ → ℕ → List Cell → List Cell
put role [] at row = row
put role (c ∷ cs) at row = written SPACE row at (text_cells role (c ∷ cs))

-- ---- the row of a line that is offered

-- the sign beside the one line of a suggestion: that of a new line where it is new, or stands in place of removed ones, else a separator
abbrev pub sign_alone : DisplaySuggestion → SuggestionGlyph
sign_alone Diff = sign.Added
sign_alone Add = sign.Added
sign_alone kind = sign.Alone

-- the sign beside one of several lines: a separator where it has no stretch, and the glyph of a changed line where it has several. As the
-- original does, by bytes: of one stretch `+` where that goes from the line's start to as many characters as the line has bytes, a
-- separator where it is empty and stands at the start, else the glyph of a changed line
abbrev pub sign_among : List ℕ → List SubstitutionHighlight → SuggestionGlyph
sign_among line [] = sign.Kept
sign_among line (s ∷ []) =
    if s.start == 0 && s.end == length line then sign.Added
    else if s.start == 0 && s.end == 0 then sign.Kept
    else sign.Changed
sign_among line (s ∷ t ∷ ss) = sign.Changed

-- the sign beside a line, in a suggestion of this kind and of so many lines, if these stretches of the line are new
unfoldable pub sign_of : DisplaySuggestion → ℕ → List ℕ → List SubstitutionHighlight → SuggestionGlyph
sign_of kind count line stretches =
    if nat_le count 1 then sign_alone kind else sign_among line stretches

-- the row of a line: a glyph after the gutter, the line's number from the first cell on, and the normalised line from three cells
-- after the gutter on. A number that is too long for the gutter stands over the glyph
unfoldable pub line_cells : SuggestionLayout → SuggestionGlyph → ℕ → List ℕ → List Cell
line_cells layout glyph number line =
    let signed = put (suggestion_role_of glyph) (suggestion_glyph_of layout.base.decor glyph) (separator_cell layout.base) [] in
    let numbered = put LineNumber (shown_number layout.numbers layout.base.gutter number) 0 signed in
    put NoStyle (norm (chars line)) (inner_cell layout.base) numbered

-- the cell of a character of a line: each before it takes one cell, and a tab four
abbrev pub stretch_cell : ℕ → List ℕ → ℕ → ℕ
stretch_cell gutter line k = capped (gutter + 3 + k + 3 * count_by (λ c. c == 9) (take k line))

-- the row of a line with these stretches of it in a role: the cells that are there take it, whatever role they had
unfoldable pub with_stretches : ElementStyle → ℕ → List ℕ → List SubstitutionHighlight → List Cell → List Cell
with_stretches role gutter line [] row = row
with_stretches role gutter line (s ∷ ss) row =
    with_stretches role gutter line ss (changed_within (restyled role true) (stretch_cell gutter line s.start) (stretch_cell gutter line s.end) row)

-- the row of a line that is offered, one of so many, of which these stretches are new
unfoldable pub offered_cells : SuggestionLayout → DisplaySuggestion → ℕ → ℕ → List ℕ → List SubstitutionHighlight → List Cell
offered_cells layout kind count number line stretches =
    with_stretches Addition layout.base.gutter (chars line) stretches (line_cells layout (sign_of kind count line stretches) number line)

-- ---- the other rows

-- the row of a line that is removed, over one that is there or has no cells: the line's number from the first cell on, `-` after the
-- gutter, and the normalised line in a role
unfoldable pub removed_cells : SuggestionLayout → ElementStyle → ℕ → List ℕ → List Cell → List Cell
removed_cells layout role number line under =
    let numbered = put LineNumber (shown_number layout.numbers layout.base.gutter number) 0 under in
    put role (norm (chars line)) (inner_cell layout.base) (put Removal (removed_sign_of layout.base.decor) (separator_cell layout.base) numbered)

-- the row in place of lines that are left out
unfoldable pub gap_cells : SuggestionLayout → List Cell
gap_cells layout =
    put LineNumber (placeholder_of layout.base.decor) (layout.base.gutter - width_of (placeholder_of layout.base.decor)) []

-- the row that a suggestion begins with, over one that is there or has no cells; below its path that is one that is there
unfoldable pub begin_cells : SuggestionLayout → SuggestionStart → List Cell → List Cell
begin_cells layout Opening under = put LineNumber (suggestion_glyph_of layout.base.decor sign.Opening) (separator_cell layout.base) under
begin_cells layout Next under = put LineNumber (suggestion_glyph_of layout.base.decor sign.Next) (separator_cell layout.base) under
begin_cells layout Path under = under

-- the row that it ends with, before a further element or not
unfoldable pub end_cells : SuggestionLayout → Bool → List Cell
end_cells layout follows = put LineNumber (end_glyph layout.base.decor follows) (separator_cell layout.base) []

-- ---- rows of several lines

-- some rows, the last of them changed
unfoldable pub on_last : (List Cell → List Cell) → List (List Cell) → List (List Cell)
on_last f [] = []
on_last f (row ∷ []) = f row ∷ []
on_last f (row ∷ next ∷ rows) = row ∷ on_last f (next ∷ rows)

-- the last row, in which a line that isn't shown gives its roles: first the stretches that are replaced, then those that are new.
-- They are counted as if the line stood there
abbrev pub left_out_cells : ℕ → List ℕ → List SubstitutionHighlight → List SubstitutionHighlight → List Cell → List Cell
left_out_cells gutter line gone added row =
    with_stretches Addition gutter (chars line) added (with_stretches Removal gutter (chars line) gone row)

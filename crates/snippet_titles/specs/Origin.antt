-- The rows of a path: what leads from the gutter to it, the path with the place after it, and the rows that set it off.
use Rattle.std.specs.Prelude.{ℕ, Bool, true, false, Option, None, Some, List, [], ◌∷◌, ◌++◌, chars, codes, replicate, if◌then◌else◌}
use Rattle.std.specs.Fmt.{decimal}
use Rattle.snippet_style.specs.declared.glyphs.DecorStyle.{DecorStyle}
use Rattle.snippet_style.specs.declared.glyphs.DecorStyle.TheVariants.{Ascii, Unicode}
use Rattle.snippet_style.specs.declared.role.ElementStyle.TheVariants.{LineAndColumn, LineNumber}
use Rattle.snippet_style.specs.Glyphs.{alone_start_of, file_start_of, other_start_of}
use Rattle.snippet_style.specs.Separators.{separator_row}
use Rattle.snippet_style.specs.Cell.{Cell, SPACE, text_cells}
use Rattle.snippet_text.specs.Normalized.{norm}
use Rattle.snippet_titles.specs.declared.origin.FileStart.{FileStart}
use Rattle.snippet_titles.specs.declared.origin.FileStart.TheVariants.{Alone, First, Later, Secondary}
use Rattle.snippet_titles.specs.declared.origin.OriginLocation.{OriginLocation}
use Rattle.snippet_titles.specs.declared.origin.OriginLayout.{OriginLayout}

-- how a line is named after a path: by its number, or as `LL` where the lines of paths are anonymized
abbrev pub line_name : Bool → ℕ → List ℕ
line_name true line = codes "LL"
line_name false line = decimal line

-- a colon and the column, where there is one
abbrev pub column_text : Option ℕ → List ℕ
column_text None = []
column_text (Some column) = codes ":" ++ decimal column

-- what stands after a path: a colon and the line, and after these the column; nothing where there is no line
abbrev pub line_text : Bool → Option ℕ → Option ℕ → List ℕ
line_text anonymized None column = []
line_text anonymized (Some line) column = codes ":" ++ line_name anonymized line ++ column_text column

-- a path, normalised, with the place after it
unfoldable pub origin_text : Bool → List ℕ → OriginLocation → List ℕ
origin_text anonymized path place = norm (chars path) ++ line_text anonymized place.line place.column

-- what leads from the gutter to a path: to the group's primary file, where its path is all that the group shows, from the
-- first element or from a later one, or to any other file
abbrev pub file_glyph : FileStart → DecorStyle → List ℕ
file_glyph Alone decor = alone_start_of decor
file_glyph First decor = file_start_of decor true
file_glyph Later decor = file_start_of decor false
file_glyph Secondary decor = other_start_of decor

-- a row that leads to a file without naming it: the gutter is empty, and the glyph stands from cell `gutter` on
unfoldable pub file_row : OriginLayout → FileStart → List Cell
file_row layout start =
    replicate layout.base.gutter SPACE ++ text_cells LineNumber (file_glyph start layout.base.decor)

-- the row of a path: the same, and after it the path with its place
unfoldable pub origin_row : OriginLayout → FileStart → List ℕ → OriginLocation → List Cell
origin_row layout start path place =
    file_row layout start ++ text_cells LineAndColumn (origin_text layout.anonymized path place)

-- what leads to the group's primary file, from its first element or from a later one
abbrev pub primary_start : Bool → FileStart
primary_start first = if first then First else Later

-- what a snippet begins with: whether it is the group's primary one, and the first element, with its path, if it has one, and the place
-- that is named after that. The row of its path stands above a separator row, and where the snippet isn't primary below another one. A primary
-- one without a path begins in ASCII with a separator row, and in Unicode with the start of a file
abbrev pub snippet_head : OriginLayout → Bool → Bool → Option (List ℕ) → OriginLocation → List (List Cell)
snippet_head layout true first None place =
    elim layout.base.decor [ Ascii ↦ separator_row layout.base.decor layout.base.gutter ∷ [] | Unicode ↦ file_row layout (primary_start first) ∷ [] ]
snippet_head layout true first (Some path) place =
    origin_row layout (primary_start first) path place ∷ separator_row layout.base.decor layout.base.gutter ∷ []
snippet_head layout false first None place = separator_row layout.base.decor layout.base.gutter ∷ file_row layout Secondary ∷ []
snippet_head layout false first (Some path) place =
    separator_row layout.base.decor layout.base.gutter ∷ origin_row layout Secondary path place ∷ separator_row layout.base.decor layout.base.gutter ∷ []

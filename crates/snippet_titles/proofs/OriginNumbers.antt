-- No row of a path, and none that sets others off, can be taken for a line's: none begins with a number.
use Rattle.snippet_titles.proofs.Common.{common_steps, ◌≡◌, ℕ, ◌+◌, ◌<◌, Bool, true, false, List, [], ◌∷◌, ◌++◌, All, length, replicate, refl, arith}
use Rattle.snippet_titles.proofs.Common.{is_ascii_alphanumeric, list_any, length-replicate, All-append, All-replicate, All-get_or, DecorStyle, Ascii, Unicode}
use Rattle.snippet_titles.proofs.Common.{LineNumber, closing_of, separator_of, Cell, SPACE, text_cells, All-text_cells, length-text_cells, HasNoNumber}
use Rattle.snippet_titles.proofs.Common.{FileStart, Alone, First, Later, Secondary, OriginLocation, OriginLayout, file_glyph, file_row, origin_row}
use Rattle.snippet_titles.proofs.Common.{separator_row, closing_row}
use Rattle.snippet_titles.proofs.PaddingWords.{padding_row}
use Rattle.snippet_titles.proofs.FileRowLemmas.{file_glyph-some}
use Rattle.snippet_titles.proofs.OriginFree.{each-fails}

-- no glyph is a letter or a digit
glyphs-unnumbered : (start : FileStart) (decor : DecorStyle) → list_any is_ascii_alphanumeric (file_glyph start decor) ≡ false
glyphs-unnumbered Alone Ascii = refl
glyphs-unnumbered Alone Unicode = refl
glyphs-unnumbered First Ascii = refl
glyphs-unnumbered First Unicode = refl
glyphs-unnumbered Later Ascii = refl
glyphs-unnumbered Later Unicode = refl
glyphs-unnumbered Secondary Ascii = refl
glyphs-unnumbered Secondary Unicode = refl

-- cells that hold no letter or digit and reach past the gutter, with others after them
abbrev pub IsPlain : Cell → Type 0
IsPlain cell = is_ascii_alphanumeric cell.ch ≡ false

front-unnumbered : (gutter : ℕ) (front others : List Cell) → gutter < length front → All IsPlain front → HasNoNumber gutter (front ++ others)
front-unnumbered gutter front others long plain c within = grind (arith, common_steps)

spaces-plain : (n : ℕ) → All IsPlain (replicate n SPACE)
spaces-plain n = All-replicate IsPlain n SPACE refl

-- no number stands in the rows that set others off
after_spaces-unnumbered : (gutter : ℕ) (others : List Cell) → HasNoNumber gutter (replicate (gutter + 1) SPACE ++ others)
after_spaces-unnumbered gutter others =
    front-unnumbered gutter (replicate (gutter + 1) SPACE) others (omega (arith, length-replicate (gutter + 1) SPACE)) (spaces-plain (gutter + 1))

-- a separator row has no number
pub separator_row-unnumbered : (decor : DecorStyle) (gutter : ℕ) → HasNoNumber gutter (separator_row decor gutter)
separator_row-unnumbered decor gutter =
    after_spaces-unnumbered gutter (text_cells LineNumber (separator_of decor ∷ []))

-- nor has a closing row
pub closing_row-unnumbered : (decor : DecorStyle) (gutter : ℕ) → HasNoNumber gutter (closing_row decor gutter)
closing_row-unnumbered decor gutter =
    after_spaces-unnumbered gutter (text_cells LineNumber (closing_of decor))

-- nor the row of padding, which is one of the two
pub padding_row-unnumbered : (decor : DecorStyle) (gutter : ℕ) (last : Bool) → HasNoNumber gutter (padding_row decor gutter last)
padding_row-unnumbered decor gutter true = closing_row-unnumbered decor gutter
padding_row-unnumbered decor gutter false = separator_row-unnumbered decor gutter

-- nor in those that lead to a file, and those of paths
file_row-long : (layout : OriginLayout) (start : FileStart) → layout.base.gutter < length (file_row layout start)
unfolding file_row
file_row-long layout start = grind (arith, common_steps, length-text_cells, file_glyph-some)

file_row-plain : (layout : OriginLayout) (start : FileStart) → All IsPlain (file_row layout start)
unfolding file_row
file_row-plain layout start =
    let glyph : List ℕ = file_glyph start layout.base.decor in
    All-append IsPlain (replicate layout.base.gutter SPACE) (text_cells LineNumber glyph) (spaces-plain layout.base.gutter)
    (All-text_cells IsPlain LineNumber glyph (each-fails is_ascii_alphanumeric glyph (glyphs-unnumbered start layout.base.decor)))

-- the row of an origin has no number
pub origin_row-unnumbered : (layout : OriginLayout) (start : FileStart) (path : List ℕ) (place : OriginLocation)
    → HasNoNumber layout.base.gutter (origin_row layout start path place)
unfolding origin_row
origin_row-unnumbered layout start path place = grind (arith, common_steps, front-unnumbered, layout.anonymized, file_row-long, file_row-plain)

-- the row of a file has no number
pub file_row-unnumbered : (layout : OriginLayout) (start : FileStart) → HasNoNumber layout.base.gutter (file_row layout start)
file_row-unnumbered layout start c within =
    All-get_or IsPlain (file_row layout start) c SPACE (omega (arith, within, file_row-long layout start)) (file_row-plain layout start)

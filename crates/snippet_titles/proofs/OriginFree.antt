-- No row of a path, and none that sets others off, holds a listed character or a link.
use Rattle.snippet_titles.proofs.Common.{◌≡◌, ℕ, ◌+◌, Bool, true, false, List, ◌++◌, All, replicate, refl, arith, list_any, nat_tests}
use Rattle.snippet_titles.proofs.Common.{All-append, All-replicate, DecorStyle, Ascii, Unicode, ElementStyle, LineAndColumn, LineNumber, closing_of, SPACE}
use Rattle.snippet_titles.proofs.Common.{text_cells, norm, is_listed, list_any-norm, IsFree, IsFreeCell, FileStart, Alone, First, Later, Secondary}
use Rattle.snippet_titles.proofs.Common.{OriginLocation, OriginLayout, file_glyph, file_row, line_text, origin_row, origin_text, closing_row}
use Rattle.std.proofs.Common.{chars}
use Rattle.snippet_titles.proofs.PaddingWords.{padding_row}
use Rattle.snippet_titles.proofs.DigitLemmas.{IsDigit}
use Rattle.snippet_titles.proofs.OriginText.{place-each}
pub use Rattle.snippet_model.proofs.RowLemmas.{each_fails as each-fails, free_drawn as text_cells-free, free_separator_row as separator_row-free}

-- no glyph is a listed character
glyphs-unlisted : (start : FileStart) (decor : DecorStyle) → list_any is_listed (file_glyph start decor) ≡ false
glyphs-unlisted Alone Ascii = refl
glyphs-unlisted Alone Unicode = refl
glyphs-unlisted First Ascii = refl
glyphs-unlisted First Unicode = refl
glyphs-unlisted Later Ascii = refl
glyphs-unlisted Later Unicode = refl
glyphs-unlisted Secondary Ascii = refl
glyphs-unlisted Secondary Unicode = refl

closing-unlisted : (decor : DecorStyle) → list_any is_listed (closing_of decor) ≡ false
closing-unlisted Ascii = refl
closing-unlisted Unicode = refl

after_spaces-free : (n : ℕ) (role : ElementStyle) (cs : List ℕ) → list_any is_listed cs ≡ false → IsFree (replicate n SPACE ++ text_cells role cs)
after_spaces-free n role cs none =
    All-append IsFreeCell (replicate n SPACE) (text_cells role cs) (All-replicate IsFreeCell n SPACE (refl, refl))
    (text_cells-free role cs (each-fails is_listed cs none))

-- a closing row has no listed character and no link
pub closing_row-free : (decor : DecorStyle) (gutter : ℕ) → IsFree (closing_row decor gutter)
closing_row-free decor gutter =
    after_spaces-free (gutter + 1) LineNumber (closing_of decor) (closing-unlisted decor)

-- a row of padding has no listed character and no link
pub padding_row-free : (decor : DecorStyle) (gutter : ℕ) (last : Bool) → IsFree (padding_row decor gutter last)
padding_row-free decor gutter true = closing_row-free decor gutter
padding_row-free decor gutter false = separator_row-free decor gutter

-- so are those that lead to a file, and those of paths
pub file_row-free : (layout : OriginLayout) (start : FileStart) → IsFree (file_row layout start)
unfolding file_row
file_row-free layout start =
    after_spaces-free layout.base.gutter LineNumber (file_glyph start layout.base.decor) (glyphs-unlisted start layout.base.decor)

-- a digit is no listed character
pub digit_unlisted : (c : ℕ) → IsDigit c → is_listed c ≡ false
digit_unlisted c is = grind (arith, nat_tests)

origin_text-free : (anonymized : Bool) (path : List ℕ) (place : OriginLocation) → All (λ c. is_listed c ≡ false) (origin_text anonymized path place)
unfolding origin_text
origin_text-free anonymized path place =
    let P : ℕ → Type 0 = λ c. is_listed c ≡ false in
    All-append P (norm (chars path)) (line_text anonymized place.line place.column) (each-fails is_listed (norm (chars path)) (list_any-norm (chars path)))
    (place-each P digit_unlisted refl refl anonymized place)

-- the row of an origin has no listed character and no link
pub origin_row-free : (layout : OriginLayout) (start : FileStart) (path : List ℕ) (place : OriginLocation) → IsFree (origin_row layout start path place)
unfolding origin_row
origin_row-free layout start path place =
    let text : List ℕ = origin_text layout.anonymized path place in
    All-append IsFreeCell (file_row layout start) (text_cells LineAndColumn text) (file_row-free layout start)
    (text_cells-free LineAndColumn text (origin_text-free layout.anonymized path place))

-- What a grid becomes where a row is begun with a glyph after the gutter.
use Rattle.snippet_titles.proofs.Common.{common_steps, ◌≡◌, ℕ, ◌+◌, ◌<◌, List, [], ◌∷◌, ◌++◌, length, sym, ap, ◌∙◌, arith, append-nil, norm, appended}
use Rattle.snippet_titles.proofs.Common.{DecorStyle, Ascii, Unicode, LineAndColumn, LineNumber, closing_of, cells_written, Cell, SPACE, text_cells, FileStart}
use Rattle.snippet_titles.proofs.Common.{Alone, First, Later, Secondary, OriginLocation, OriginLayout, file_glyph, file_row, line_text, origin_row, origin_text}
use Rattle.snippet_titles.proofs.Common.{closing_row, cells_written_last, text_cells-append, written_end, begun_by_text}
use Rattle.std.proofs.Common.{chars}
use Rattle.snippet_titles.proofs.RowLemmas.{appended-two}
use Rattle.snippet_style.proofs.RowLemmas.{closing_some as closing-some}
pub use Rattle.snippet_grid.proofs.ReplaceLemmas.{separator_row-begun}

-- no glyph is empty
pub file_glyph-some : (start : FileStart) (decor : DecorStyle) → 0 < length (file_glyph start decor)
file_glyph-some Alone Ascii = omega arith
file_glyph-some Alone Unicode = omega arith
file_glyph-some First Ascii = omega arith
file_glyph-some First Unicode = omega arith
file_glyph-some Later Ascii = omega arith
file_glyph-some Later Unicode = omega arith
file_glyph-some Secondary Ascii = omega arith
file_glyph-some Secondary Unicode = omega arith

-- the row that leads to a file
pub file_row-begun : (old new : List (List Cell)) (row : ℕ) (text : List ℕ) (layout : OriginLayout) (start : FileStart) → row ≡ length old
    → chars text ≡ file_glyph start layout.base.decor
    → (0 < length text → new ≡ cells_written old row layout.base.gutter (text_cells LineNumber (chars text)))
    → new ≡ old ++ file_row layout start ∷ []
unfolding file_row
file_row-begun old new row text layout start below is writes =
    begun_by_text old new row layout.base.gutter text (file_glyph start layout.base.decor) below is (file_glyph-some start layout.base.decor) writes

-- the closing row
pub closing_row-begun : (old new : List (List Cell)) (row gutter : ℕ) (text : List ℕ) (decor : DecorStyle) → row ≡ length old
    → chars text ≡ closing_of decor → (0 < length text → new ≡ cells_written old row (gutter + 1) (text_cells LineNumber (chars text)))
    → new ≡ old ++ closing_row decor gutter ∷ []
closing_row-begun old new row gutter text decor below is writes =
    begun_by_text old new row (gutter + 1) text (closing_of decor) below is (closing-some decor) writes

-- cells after the last row are added to it
appended-last : (front : List (List Cell)) (row cells : List Cell)
    → cells_written (front ++ row ∷ []) (length front) (length row) cells ≡ front ++ (row ++ cells) ∷ []
appended-last front row cells =
    cells_written_last front row (length row) cells ∙ ap (λ (r : List Cell). front ++ r ∷ []) (written_end SPACE row cells)

-- cells added to the last row, which was just begun
last_extended : (old : List (List Cell)) (cells more : List Cell) → appended (old ++ cells ∷ []) (length old) more ≡ old ++ (cells ++ more) ∷ []
last_extended old cells [] = ap (λ (r : List Cell). old ++ r ∷ []) (sym (append-nil cells))
last_extended old cells (c ∷ more) = grind (arith, common_steps, appended-last)

-- the row of a path: the row that leads to it, with the path and its place after that
pub origin_row-begun : (old begun named new : List (List Cell)) (row : ℕ) (path : List ℕ) (layout : OriginLayout) (start : FileStart)
    (place : OriginLocation) → let after = line_text layout.anonymized place.line place.column in row ≡ length old → begun ≡ old ++ file_row layout start ∷ []
    → named ≡ appended begun row (text_cells LineAndColumn (norm (chars path))) → new ≡ appended named row (text_cells LineAndColumn after)
    → new ≡ old ++ origin_row layout start path place ∷ []
unfolding origin_row origin_text
origin_row-begun old begun named new row path layout start place below starts names places =
    grind (arith, common_steps, layout.anonymized, place.line, place.column, appended-two, text_cells-append, last_extended)

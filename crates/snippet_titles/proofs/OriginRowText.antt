-- What is read in the row of a path.
use Rattle.snippet_titles.proofs.Common.{common_steps, ◌≡◌, ℕ, ◌+◌, List, length, drop, arith, LineAndColumn, text_cells, length-text_cells, FileStart}
use Rattle.snippet_titles.proofs.Common.{OriginLocation, OriginLayout, file_glyph, file_row, origin_row, origin_text}

-- they stand after the glyph
pub origin_row-after : (layout : OriginLayout) (start : FileStart) (path : List ℕ) (place : OriginLocation)
    → drop (layout.base.gutter + length (file_glyph start layout.base.decor)) (origin_row layout start path place)
    ≡ text_cells LineAndColumn (origin_text layout.anonymized path place)
unfolding origin_row file_row
origin_row-after layout start path place = grind (arith, common_steps, layout.anonymized, length-text_cells)

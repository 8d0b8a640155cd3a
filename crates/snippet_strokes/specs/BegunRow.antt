-- A source row that is begun with its number, and one that is ended by its cells.
use Rattle.std.specs.Prelude.{ℕ, Option, List}
use Rattle.snippet_style.specs.declared.glyphs.DecorStyle.{DecorStyle}
use Rattle.snippet_style.specs.declared.role.ElementStyle.TheVariants.{LineNumber, Quotation}
use Rattle.snippet_style.specs.Glyphs.{placeholder_of}
use Rattle.snippet_style.specs.Cell.{Cell, SPACE, text_cells, written}
use Rattle.std.specs.Option.{option_map_or}
use Rattle.snippet_strokes.specs.SourceRows.{with_cells}

-- its cells before its end is cut: the placeholder begins them, if lines are cut on the left
abbrev pub begun_cells : DecorStyle → Option ℕ → List ℕ → List Cell
begun_cells decor start text =
    option_map_or (λ columns. with_cells columns (text_cells Quotation text) (text_cells LineNumber (placeholder_of decor))) start (text_cells Quotation text)

-- the same cells with the placeholder over their end, from this one on, if the line is cut on the right
abbrev pub ended_cells : DecorStyle → Option ℕ → List Cell → List Cell
ended_cells decor end cells = option_map_or (λ at. written SPACE cells at (text_cells LineNumber (placeholder_of decor))) end cells

-- What is written into rows, as values, and what rows are after it.
use Rattle.std.specs.Prelude.{ℕ, ◌-◌, nat_lt, List, [], ◌∷◌, fold, replicate, if◌then◌else◌}
use Rattle.snippet_style.specs.declared.role.ElementStyle.{ElementStyle}
use Rattle.snippet_style.specs.Cell.{Cell, text_cells}
use Rattle.snippet_grid.specs.Grid.{cells_written}

-- characters in a role, that are written into a row from a cell on
pub record Write : Type 0 where
  pub row : ℕ
  pub cell : ℕ
  pub text : List ℕ
  pub role : ElementStyle

-- rows after some writes, one after another
abbrev pub painted : List Write → List (List Cell) → List (List Cell)
painted ws rows = fold (λ before w. cells_written before w.row w.cell (text_cells w.role w.text)) rows ws

-- ---- writes of glyphs

-- one glyph
abbrev pub glyph_at : ℕ → ℕ → ℕ → ElementStyle → Write
glyph_at row cell glyph role = record { row = row; cell = cell; text = glyph ∷ []; role = role }

-- a glyph in each cell of a row from one to before another, if there are any
abbrev pub stretch_of : ℕ → ℕ → ℕ → ℕ → ElementStyle → List Write
stretch_of row from to glyph role =
    if nat_lt from to then record { row = row; cell = from; text = replicate (to - from) glyph; role = role } ∷ [] else []

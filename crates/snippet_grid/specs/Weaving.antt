-- Texts that grow by printed rows.
use Rattle.std.specs.Prelude.{◌≡◌, ℕ, List, [], ◌∷◌, ◌++◌}
use Rattle.std.specs.List.{flat_map}
use Rattle.snippet_style.specs.Cell.{Cell}
use Rattle.snippet_style.specs.declared.role.LevelInner.{LevelInner}
use Rattle.snippet_style.specs.declared.stylesheet.Stylesheet.{Stylesheet}
use Rattle.snippet_grid.specs.Woven.{Piece, Char, piece_text, PrintsRow}

-- these pieces print some rows, each of them after a line feed
abbrev pub PrintsFurther : Stylesheet → LevelInner → List Piece → List (List Cell) → Type 0
PrintsFurther sheet level pieces [] = pieces ≡ []
PrintsFurther sheet level pieces (row ∷ rows) =
    (first : List Piece) × (others : List Piece) × (pieces ≡ Char 10 ∷ first ++ others) × PrintsRow sheet level first row
    × PrintsFurther sheet level others rows

-- these pieces print some rows, joined by line feeds
abbrev pub PrintsRows : Stylesheet → LevelInner → List Piece → List (List Cell) → Type 0
PrintsRows sheet level pieces [] = pieces ≡ []
PrintsRows sheet level pieces (row ∷ rows) =
    (first : List Piece) × (others : List Piece) × (pieces ≡ first ++ others) × PrintsRow sheet level first row × PrintsFurther sheet level others rows

-- a text grew by pieces of this kind
pub record AddsPieces (P : List Piece → Type 0) (old new : List ℕ) : Type 0 where
  pub pieces : List Piece
  pub text_is : new ≡ old ++ flat_map piece_text pieces
  pub are : P pieces

-- a text grew by a row, printed under a sheet in a group of this level
abbrev pub WeavesRow : Stylesheet → LevelInner → List Cell → List ℕ → List ℕ → Type 0
WeavesRow sheet level row old new = AddsPieces (λ ps. PrintsRow sheet level ps row) old new

-- a text grew by some rows, printed under a sheet in a group of this level
abbrev pub WeavesRows : Stylesheet → LevelInner → List (List Cell) → List ℕ → List ℕ → Type 0
WeavesRows sheet level rows old new = AddsPieces (λ ps. PrintsRows sheet level ps rows) old new

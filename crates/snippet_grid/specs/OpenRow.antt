-- A row of which the first cells are printed, and the rest is to come.
use Rattle.std.specs.Prelude.{◌≡◌, ℕ, List, ◌++◌, Option, None, Some, map, string_bytes}
use Rattle.std.specs.List.{flat_map}
use Rattle.std.specs.Option.{option_copied}
use Rattle.snippet_grid.specs.SheetCodes.{style_at}
use Rattle.snippet_grid.specs.Woven.{Piece, piece_text, PrintsCells, PrintsRow}
use Rattle.snippet_grid.specs.declared.printed_row.PrintedRow.{PrintedRow}
use Rattle.snippet_style.specs.Cell.{Cell}
use Rattle.snippet_style.specs.declared.role.ElementStyle.{ElementStyle}
use Rattle.snippet_style.specs.declared.role.LevelInner.{LevelInner}
use Rattle.snippet_style.specs.declared.style.Style.{Style}
use Rattle.snippet_style.specs.declared.stylesheet.Stylesheet.{Stylesheet}

-- these pieces and cells, printed from here on, complete what was printed of a row
pub record Completes (sheet : Stylesheet) (level : LevelInner) (done : List Cell) (old now : List ℕ) (rest : List Piece) (more : List Cell) : Type 0 where
  pub pieces : List Piece
  pub text_is : now ++ flat_map piece_text rest ≡ old ++ flat_map piece_text pieces
  pub prints : PrintsRow sheet level pieces (done ++ more)

-- whatever prints further cells from this style and link on completes the row
abbrev pub Goes : Stylesheet → LevelInner → Option Style → Option (List ℕ) → List Cell → List ℕ → List ℕ → Type 0
Goes sheet level style link done old now =
    (rest : List Piece) (more : List Cell) → PrintsCells sheet level style link rest more → Completes sheet level done old now rest more

-- no cell of a row is printed, under this sheet in a group of this level
pub record IsBegun (sheet : Stylesheet) (level : LevelInner) (row : PrintedRow) : Type 0 where
  pub under : row.codes.now ≡ sheet
  pub grouped : row.level ≡ level
  pub plain : row.last.place ≡ 7
  pub unlinked : row.last.link ≡ None

-- these cells of a row are printed under its sheet, after this text: the style and the link of the last one are open
pub record IsPrinted (cells : List Cell) (old : List ℕ) (row : PrintedRow) : Type 0 where
  pub goes : Goes row.codes.now row.level (Some (style_at row.codes.now row.last.place)) (option_copied row.last.link) cells old (string_bytes row.text)

-- these cells were added to a row, under the same sheet and in the same level
pub record AddsCells (before after : PrintedRow) (more : List Cell) : Type 0 where
  pub sheet : after.codes.now ≡ before.codes.now
  pub level : after.level ≡ before.level
  pub printed : (cells : List Cell) (old : List ℕ) → IsPrinted cells old before → IsPrinted (cells ++ more) old after

-- the cells of these characters, all in one role and with one link
abbrev pub cells_alike : ElementStyle → Option (List ℕ) → List ℕ → List Cell
cells_alike role link word = map (λ ch. (let cell : Cell = record { ch = ch; role = role; link = link } in cell)) word

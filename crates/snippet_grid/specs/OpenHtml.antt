-- A row of HTML of which the first cells are printed, and the rest is to come.
use Rattle.std.specs.Prelude.{◌≡◌, ℕ, List, ◌++◌, string_bytes}
use Rattle.snippet_grid.specs.Html.{HtmlLook, cells_html, html_bytes, plain_look, row_html}
use Rattle.snippet_grid.specs.HtmlLooks.{look_seen}
use Rattle.snippet_grid.specs.declared.html_row.HtmlRow.{HtmlRow}
use Rattle.snippet_style.specs.Cell.{Cell}
use Rattle.snippet_style.specs.declared.role.LevelInner.{LevelInner}

-- what was printed of a row is all but what further cells make of it, after one that stands in this
abbrev pub HtmlGoes : LevelInner → HtmlLook → List Cell → List ℕ → List ℕ → Type 0
HtmlGoes level last done old now =
    (more : List Cell) → old ++ html_bytes (row_html level (done ++ more)) ≡ now ++ html_bytes (cells_html level last more)

-- no cell of a row is printed, in a group of this level
pub record IsHtmlBegun (level : LevelInner) (row : HtmlRow) : Type 0 where
  pub grouped : row.level ≡ level
  pub plain : look_seen row.last ≡ plain_look

-- these cells of a row are printed in HTML, after this text: the tags of the last one are open
pub record IsHtml (cells : List Cell) (old : List ℕ) (row : HtmlRow) : Type 0 where
  pub goes : HtmlGoes row.level (look_seen row.last) cells old (string_bytes row.text)

-- these cells were added to a row, in the same level
pub record AddsHtmlCells (before after : HtmlRow) (more : List Cell) : Type 0 where
  pub level : after.level ≡ before.level
  pub printed : (cells : List Cell) (old : List ℕ) → IsHtml cells old before → IsHtml (cells ++ more) old after

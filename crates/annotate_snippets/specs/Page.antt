-- A page: the rows of a report's text, each of them part of a title or of an element; and the texts that print it.
use Rattle.std.specs.Prelude.{◌≡◌, ℕ, Bool, true, false, List, [], ◌∷◌, ◌++◌, Option, Some, None, map, if◌then◌else◌}
use Rattle.std.specs.List.{AllZip, flat_map, filter_map, join_with_byte}
use Rattle.snippet_style.specs.Cell.{Cell}
use Rattle.snippet_grid.specs.Print.{plain_text}
use Rattle.snippet_grid.specs.Woven.{Prints}
use Rattle.snippet_style.specs.declared.role.LevelInner.{LevelInner}
use Rattle.snippet_style.specs.declared.stylesheet.Stylesheet.{Stylesheet}

-- what a row of an element shows: a line of the element's source, from 0; that lines are left out; a line of the patched source,
-- from 0; a line of the source, from 0, that is removed; or something else
pub data RowName : Type 0 where
  SourceRow : (k : ℕ) → RowName
  Elision : RowName
  OfferedLine : (j : ℕ) → RowName
  RemovedLine : (i : ℕ) → RowName
  Other : RowName

-- a row of an element: its name and its cells
pub record NamedRow : Type 0 where
  pub name : RowName
  pub cells : List Cell

-- the line that a source row is named by
abbrev pub line_named : RowName → Option ℕ
line_named (SourceRow k) = Some k
line_named name = None

-- the lines that some rows are named by
abbrev pub lines_named : List NamedRow → List ℕ
lines_named rows = filter_map (λ row. line_named row.name) rows

-- the line of the patched source that a row is named by
abbrev pub line_offered : RowName → Option ℕ
line_offered (OfferedLine j) = Some j
line_offered name = None

-- the lines of the patched source that some rows are named by, in order
abbrev pub lines_offered : List NamedRow → List ℕ
lines_offered rows = filter_map (λ row. line_offered row.name) rows

-- whether a row shows a line of the source, or that lines are left out
abbrev pub shows_lines : RowName → Bool
shows_lines (SourceRow k) = true
shows_lines Elision = true
shows_lines name = false

-- the cells of some rows
abbrev pub cells_of : List NamedRow → List (List Cell)
cells_of rows = map (λ row. row.cells) rows

-- the cells of the rows right below, up to the next that shows a line or that lines are left out: those of the line above them
abbrev pub rows_below : List NamedRow → List (List Cell)
rows_below [] = []
rows_below (row ∷ rows) = if shows_lines row.name then [] else row.cells ∷ rows_below rows

-- a group of a page: its level, the rows of its title, of which there are none without a title, and those of each element
pub record GroupPage : Type 0 where
  pub level : LevelInner
  pub title : List (List Cell)
  pub elements : List (List NamedRow)

-- the rows of a group, from top to bottom
abbrev pub group_rows : GroupPage → List (List Cell)
group_rows g = g.title ++ flat_map cells_of g.elements

-- the plain characters of a page: the groups' rows, joined by line feeds
abbrev pub page_text : List GroupPage → List ℕ
page_text page = join_with_byte 10 (map (λ g. plain_text (group_rows g)) page)

-- the text prints a page, which are the groups of a report, under a sheet: each group in its level, joined by line feeds
pub record PrintsPage (sheet : Stylesheet) (page : List GroupPage) (text : List ℕ) : Type 0 where
  pub parts : List (List ℕ)
  pub printed : AllZip (λ g part. Prints sheet g.level (group_rows g) part) page parts
  pub joined : text ≡ join_with_byte 10 parts

-- rows that show no line
abbrev pub others : List (List Cell) → List NamedRow
others rows = map (λ cells. record { name = Other; cells = cells }) rows

-- The laws of a report's page: what follows of it for who reads it.
use Rattle.std.specs.Prelude.{◌≡◌, ℕ, ◌+◌, ◌||◌, false, List, All, Some, take}
use Rattle.std.specs.List.{flat_map, slice_get}
use Rattle.snippet_grid.specs.Print.{row_text}
use Rattle.snippet_grid.specs.Woven.{links_of}
use Rattle.snippet_model.specs.FreeRows.{HasNoNumber}
use Rattle.snippet_model.specs.Trusted.{trusted_texts}
use Rattle.snippet_model.specs.declared.snippet.Group.{Group}
use Rattle.snippet_model.specs.declared.snippet.Title.{Title}
use Rattle.annotate_snippets.specs.Laws.Feeds.{HasNoFeed, HasOneLineTexts, page_lines, text_lines}
use Rattle.annotate_snippets.specs.Gutter.{layout_of_group}
use Rattle.annotate_snippets.specs.Laws.Numbers.{IsTitleOfWords, begins_with_number, shows_a_line}
use Rattle.annotate_snippets.specs.Page.{GroupPage, NamedRow, group_rows, page_text}
use Rattle.annotate_snippets.specs.Laws.Groups.{AreGroupsShown}
use Rattle.annotate_snippets.specs.Laws.Free.{IsFreeBut}
use Rattle.annotate_snippets.specs.ShownPage.{report_links}
use Rattle.annotate_snippets.specs.declared.renderer.Renderer.{Renderer}

-- a page has the laws of a report's page. It shows each group, in order. Each listed character of it is one of a trusted text. Its linked
-- runs of cells have the URLs that the report links to, in order. Where no path, id and name of a level holds a line feed, and no label
-- that isn't cut at its line feeds, no cell of it does, whatever the sources, the patches, and the texts of titles and messages hold; so the
-- lines of its text are its rows. In the cells up to the one before the separator a row of an element holds a letter or digit only where it
-- shows a line, so that no other can be taken for one; and no row of a title that begins with a word begins with a number there (`lines`
-- follows from `one_line`, `numbers` and `titles` from `shows`)
pub record PageLaws (r : Renderer) (groups : List Group) (page : List GroupPage) : Type 0 where
  pub shows : AreGroupsShown r groups page
  pub free : IsFreeBut (trusted_texts groups) (page_text page)
  pub links : flat_map (λ g. links_of (group_rows g)) page ≡ report_links r groups
  pub one_line : HasOneLineTexts (r.label_lines || r.wrap) groups → All (λ g. All HasNoFeed (group_rows g)) page
  pub lines : HasOneLineTexts (r.label_lines || r.wrap) groups → text_lines (page_text page) ≡ page_lines page
  pub numbers : (i : ℕ) (g : Group) (part : GroupPage) → slice_get groups i ≡ Some g → slice_get page i ≡ Some part
      → All (λ rows. All (λ (row : NamedRow). shows_a_line row.name ≡ false → HasNoNumber (layout_of_group r groups g).gutter row.cells) rows) part.elements
  pub titles : (i : ℕ) (g : Group) (part : GroupPage) (title : Title) → slice_get groups i ≡ Some g → slice_get page i ≡ Some part → g.title ≡ Some title
      → IsTitleOfWords (layout_of_group r groups g).gutter title
      → All (λ row. begins_with_number (take ((layout_of_group r groups g).gutter + 1) (row_text row)) ≡ false) part.title

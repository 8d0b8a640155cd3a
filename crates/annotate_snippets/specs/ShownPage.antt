-- What the page of a report shows.
use Rattle.std.specs.Prelude.{ℕ, true, List, [], if◌then◌else◌}
use Rattle.std.specs.List.{AllZip, flat_map}
use Rattle.std.specs.Option.{option_to_list}
use Rattle.snippet_style.specs.declared.stylesheet.Stylesheet.{Stylesheet}
use Rattle.snippet_model.specs.declared.snippet.Title.{Title}
use Rattle.snippet_model.specs.declared.snippet.Group.{Group}
use Rattle.snippet_titles.specs.Title.{id_links}
use Rattle.annotate_snippets.specs.declared.renderer.Renderer.{Renderer}
use Rattle.annotate_snippets.specs.GraphicForm.{graphic_form}
use Rattle.annotate_snippets.specs.Page.{PrintsPage}

-- the addresses that a report links to, in order: with hyperlinks, that of each title's id that has one and that shows
-- anything
abbrev pub report_links : Renderer → List Group → List (List ℕ)
report_links r groups =
    if r.hyperlink then flat_map (λ g. flat_map (λ (t : Title). id_links true t.id) (option_to_list g.title)) groups else []

-- the texts show a report under these sheets, one text under each: all print one page, which is the report's, cell by cell. What follows of
-- that page for who reads it are its laws, PageLaws
pub record SheetsShown (r : Renderer) (groups : List Group) (sheets : List Stylesheet) (texts : List (List ℕ)) : Type 0 where
  pub printed : AllZip (λ sheet text. PrintsPage sheet (graphic_form r groups) text) sheets texts

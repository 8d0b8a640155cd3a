-- What the texts of a report show, in each form.
use Rattle.std.specs.Prelude.{◌≡◌, ℕ, List, [], ◌∷◌, Some, take}
use Rattle.std.specs.List.{AllZip, slice_get}
use Rattle.snippet_model.specs.declared.snippet.Group.{Group}
use Rattle.snippet_model.specs.declared.snippet.Title.{Title}
use Rattle.snippet_grid.specs.Print.{plain_text}
use Rattle.snippet_grid.specs.Woven.{IsWoven, Prints}
use Rattle.snippet_style.specs.declared.stylesheet.Stylesheet.{Stylesheet}
use Rattle.snippet_text_form.specs.Form.{form_bytes, form_text}
use Rattle.annotate_snippets.specs.AsSet.{IsAsSet}
use Rattle.annotate_snippets.specs.Fault.{form_of}
use Rattle.annotate_snippets.specs.GraphicForm.{graphic_form}
use Rattle.annotate_snippets.specs.Page.{page_text}
use Rattle.annotate_snippets.specs.ShortForm.{short_form, short_page}
use Rattle.annotate_snippets.specs.Laws.Free.{IsFreeBut}
use Rattle.annotate_snippets.specs.ShownPage.{SheetsShown, report_links}
use Rattle.annotate_snippets.specs.TextForm.{text_form}
use Rattle.annotate_snippets.specs.declared.renderer.Renderer.{Renderer}
use Rattle.annotate_snippets.specs.declared.renderer.form.Form.{Form}
use Rattle.annotate_snippets.specs.declared.renderer.form.Form.TheVariants.{Graphic, Short, Text}

-- the addresses that the short form links to: those of the first group
abbrev pub short_links : Renderer → List Group → List (List ℕ)
short_links r groups = report_links r (take 1 groups)

-- the texts show the short form of a report: all print the rows of its first group's title, cell by cell
pub record ShortShown (r : Renderer) (groups : List Group) (sheets : List Stylesheet) (texts : List (List ℕ)) : Type 0 where
  pub group : Group
  pub title : Title
  pub first : slice_get groups 0 ≡ Some group
  pub titled : group.title ≡ Some title
  pub printed : AllZip (λ sheet text. Prints sheet group.level (short_form r group title) text) sheets texts

-- the texts are the text form of a report, each under its sheet
pub record TextShown (r : Renderer) (groups : List Group) (sheets : List Stylesheet) (texts : List (List ℕ)) : Type 0 where
  pub are : AllZip (λ sheet text. text ≡ form_bytes sheet (text_form r groups)) sheets texts

-- the texts show a report in a form, one under each of these sheets
abbrev pub ShowsForm : Form → Renderer → List Group → List Stylesheet → List (List ℕ) → Type 0
ShowsForm Graphic r groups sheets texts = SheetsShown r groups sheets texts
ShowsForm Short r groups sheets texts = ShortShown r groups sheets texts
ShowsForm Text r groups sheets texts = TextShown r groups sheets texts

-- the texts show a report as the renderer is set: they show, in the form that it is set to, the report that is shown in place of it
pub record TextsShown (r : Renderer) (groups : List Group) (sheets : List Stylesheet) (texts : List (List ℕ)) : Type 0 where
  pub shown : List Group
  pub set : IsAsSet (form_of r) r groups shown
  pub shows : ShowsForm (form_of r) r shown sheets texts

-- one text shows a report under its sheet
abbrev pub ShowsReport : Renderer → List Group → Stylesheet → List ℕ → Type 0
ShowsReport r groups sheet text = TextsShown r groups (sheet ∷ []) (text ∷ [])

-- the plain text of a report in a form: the characters of its cells or pieces, without codes
abbrev pub plain_in : Form → Renderer → List Group → List ℕ
plain_in Graphic r groups = page_text (graphic_form r groups)
plain_in Short r groups = plain_text (short_page r groups)
plain_in Text r groups = form_text (text_form r groups)

-- the addresses that a report links to in a form, in order
abbrev pub links_in : Form → Renderer → List Group → List (List ℕ)
links_in Graphic r groups = report_links r groups
links_in Short r groups = short_links r groups
links_in Text r groups = report_links r groups

-- the texts differ in their codes alone: there is one plain text, and one list of links, and each text is these with codes of its
-- sheet between the characters; each listed character of the plain text is one of a trusted text. (Of no texts it says nothing)
pub record AreFree (trusted links : List (List ℕ)) (sheets : List Stylesheet) (texts : List (List ℕ)) : Type 0 where
  pub plain : List ℕ
  pub woven : AllZip (λ sheet text. IsWoven sheet text plain links) sheets texts
  pub free : IsFreeBut trusted plain

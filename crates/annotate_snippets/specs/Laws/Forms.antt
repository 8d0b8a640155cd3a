-- The laws of a report's text, in each form: what follows of it for who reads it.
use Rattle.std.specs.Prelude.{◌≡◌, ℕ, true, false, List, [], ◌++◌, All, Some, codes, encode_utf8_all}
use Rattle.std.specs.List.{list_any, slice_get, slice_index_or}
use Rattle.std.specs.Cow.{cow_str_bytes}
use Rattle.snippet_model.specs.Heading.{heading_of_title}
use Rattle.snippet_model.specs.Trusted.{trusted_texts}
use Rattle.snippet_model.specs.declared.snippet.Annotation.{Annotation}
use Rattle.snippet_model.specs.declared.snippet.Group.{Group}
use Rattle.snippet_model.specs.declared.snippet.Snippet.{Snippet}
use Rattle.snippet_model.specs.declared.snippet.Title.{Title}
use Rattle.snippet_parts.specs.Annotated.{is_long}
use Rattle.snippet_parts.specs.Mark.{is_marking}
use Rattle.snippet_parts.specs.Location.{IsLocation}
use Rattle.snippet_parts.specs.declared.location.Location.{Location}
use Rattle.snippet_grid.specs.Grid.{row_at}
use Rattle.snippet_grid.specs.Print.{plain_text, row_text}
use Rattle.snippet_grid.specs.Woven.{IsWoven, links_of}
use Rattle.snippet_style.specs.Cell.{Cell}
use Rattle.snippet_style.specs.Stylesheet.{is_plain_sheet}
use Rattle.snippet_style.specs.declared.stylesheet.Stylesheet.{Stylesheet}
use Rattle.snippet_text.specs.Normalized.{is_listed}
use Rattle.snippet_text_form.specs.Form.{form_text}
use Rattle.snippet_text_form.specs.Lines.{lines_of_paragraphs}
use Rattle.snippet_text_form.specs.TextOrder.{StandInOrder}
use Rattle.snippet_titles.specs.Origin.{origin_text}
use Rattle.snippet_titles.specs.ShortRows.{short_texts}
use Rattle.snippet_titles.specs.ShownHeading.{IsFreeButText}
use Rattle.annotate_snippets.specs.ElementContext.{path_bytes}
use Rattle.annotate_snippets.specs.AsSet.{IsAsSet, IsMaskedFor, adds_context, wraps}
use Rattle.annotate_snippets.specs.Laws.Context.{ShowsLinesAround}
use Rattle.annotate_snippets.specs.Fault.{form_of}
use Rattle.annotate_snippets.specs.Laws.Feeds.{HasOneLineTexts, page_lines, text_lines}
use Rattle.annotate_snippets.specs.Forms.{links_in, plain_in, short_links}
use Rattle.annotate_snippets.specs.GraphicForm.{graphic_form}
use Rattle.annotate_snippets.specs.Gutter.{numbered_source}
use Rattle.annotate_snippets.specs.Page.{page_text}
use Rattle.annotate_snippets.specs.Laws.Masked.{HasNoControls}
use Rattle.annotate_snippets.specs.Laws.Page.{PageLaws}
use Rattle.annotate_snippets.specs.Laws.TextLines.{report_paragraphs}
use Rattle.annotate_snippets.specs.Laws.Wrapped.{AreRewrapped}
use Rattle.annotate_snippets.specs.RowsWithoutSource.{place_found}
use Rattle.annotate_snippets.specs.ShortForm.{before_title, after_title, first_cause, short_form}
use Rattle.annotate_snippets.specs.Laws.Free.{IsFreeBut}
use Rattle.annotate_snippets.specs.TextForm.{report_texts, text_form}
use Rattle.annotate_snippets.specs.declared.renderer.Renderer.{Renderer}
use Rattle.annotate_snippets.specs.declared.renderer.form.Form.{Form}
use Rattle.annotate_snippets.specs.declared.renderer.form.Form.TheVariants.{Graphic, Short, Text}

-- ---- the short form

-- a row begins with the place of a snippet's spans, after its path: the first line on which a span of the kind that names it starts,
-- and the least column there, counted in characters from 1
pub record BeginsWithPlace (r : Renderer) (s : Snippet Annotation) (path : List ℕ) (row : List Cell) : Type 0 where
  pub place : Location
  pub is : IsLocation (numbered_source s) s.markers.items place
  pub rest : List ℕ
  pub text : row_text row ≡ origin_text r.anonymized_origin_line_numbers path (place_found (Some place)) ++ (codes ": " ++ rest)

-- the rows show a group in the short form: the text of each is that of a line of the title, the first after the place of its first
-- annotated snippet and the label, and before the labels of that. Where that snippet has a path and spans that are marked, none of
-- several lines, the first row begins with the first of their places
pub record ShowsShort (r : Renderer) (g : Group) (title : Title) (rows : List (List Cell)) : Type 0 where
  pub texts : (i : ℕ) → row_text (row_at rows i) ≡ slice_index_or (short_texts (before_title r g) (after_title g) (heading_of_title title)) i []
  pub origin : (s : Snippet Annotation) → first_cause g.elements.items ≡ Some s → (path : List ℕ) → path_bytes s.path ≡ Some path
      → list_any (λ a. is_marking a.kind) s.markers.items ≡ true → All (λ a. is_long (cow_str_bytes s.source.text) a ≡ false) s.markers.items
      → BeginsWithPlace r s path (row_at rows 0)
  pub free : All (IsFreeButText (heading_of_title title)) rows

-- the laws of a report's short form: its rows show the first group and its title; each listed character of them is one of a trusted
-- text; and they link to what the short form links to
pub record ShortLaws (r : Renderer) (groups : List Group) : Type 0 where
  pub group : Group
  pub title : Title
  pub first : slice_get groups 0 ≡ Some group
  pub titled : group.title ≡ Some title
  pub shows : ShowsShort r group title (short_form r group title)
  pub free : IsFreeBut (trusted_texts groups) (plain_text (short_form r group title))
  pub links : links_of (short_form r group title) ≡ short_links r groups

-- ---- the text form

-- the laws of a report's text form: in its plain text stand, one after the other, the texts of titles and messages and the labels of
-- spans; each listed character of it is one of a trusted text; and with line feeds shown, where no label, path, id and name of a level holds
-- one, its lines are those of its paragraphs, whatever the patches put in: each begins one or is a further line of a title or message
pub record TextLaws (r : Renderer) (groups : List Group) : Type 0 where
  pub holds : StandInOrder (report_texts groups) (form_text (text_form r groups))
  pub free : IsFreeBut (trusted_texts groups) (form_text (text_form r groups))
  pub lines : r.show_line_feeds ≡ true → HasOneLineTexts false groups
      → text_lines (form_text (text_form r groups)) ≡ lines_of_paragraphs (report_paragraphs r groups)

-- ---- each form

-- the laws of a report's form, before any sheet is known: in the graphic form those of its page
abbrev pub FormLaws : Form → Renderer → List Group → Type 0
FormLaws Graphic r groups = PageLaws r groups (graphic_form r groups)
FormLaws Short r groups = ShortLaws r groups
FormLaws Text r groups = TextLaws r groups

-- a text of a report in a form, under a sheet, has the laws of that form; it is woven of the form's plain text, of what the report links
-- to and of codes of the sheet; so under a plain sheet, where nothing links, it is the plain text and nothing else
pub record LawsIn (form : Form) (r : Renderer) (groups : List Group) (sheet : Stylesheet) (text : List ℕ) : Type 0 where
  pub form_laws : FormLaws form r groups
  pub woven : IsWoven sheet text (plain_in form r groups) (links_in form r groups)
  pub plain : links_in form r groups ≡ [] → is_plain_sheet sheet ≡ true → text ≡ encode_utf8_all (plain_in form r groups)

-- a text has the laws of the form that the renderer is set to, for the report that is shown in place of one. Where the renderer is set to
-- show line feeds, no label, path, id and name of a level of that holds one; so in the graphic form the lines of its plain text are the rows
-- of its page, and in the text form those of its paragraphs, whatever the report holds. Where it is set to mask controls, no text of that
-- holds a masked one, the plain text holds no listed character, whatever is trusted, and what follows is said of the masked report, else of
-- the given one. Where it is set to show
-- lines around those that are kept, the page has for each of its annotated snippets just the source rows of the lines near one that it keeps,
-- and of each single line between two of these. Where it is set to wrap, no text of a title or message has lost a word, and none of their
-- rows is wider than the terminal
pub record HasLaws (r : Renderer) (groups : List Group) (sheet : Stylesheet) (text : List ℕ) : Type 0 where
  pub shown : List Group
  pub set : IsAsSet (form_of r) r groups shown
  pub laws : LawsIn (form_of r) r shown sheet text
  pub one_line : r.show_line_feeds ≡ true → HasOneLineTexts false shown
  pub lines : r.show_line_feeds ≡ true → form_of r ≡ Graphic → text_lines (page_text (graphic_form r shown)) ≡ page_lines (graphic_form r shown)
  pub paragraphs : r.show_line_feeds ≡ true → form_of r ≡ Text → text_lines (form_text (text_form r shown)) ≡ lines_of_paragraphs (report_paragraphs r shown)
  pub clean : r.mask_controls ≡ true → HasNoControls shown
  pub unlisted : r.mask_controls ≡ true → All (λ c. is_listed c ≡ false) (plain_in (form_of r) r shown)
  pub masked : List Group
  pub masks : IsMaskedFor r.mask_controls r groups masked
  pub around : adds_context (form_of r) r ≡ true → ShowsLinesAround r.context_before r.context_after masked (graphic_form r shown)
  pub wrapped : wraps (form_of r) r ≡ true → AreRewrapped r masked shown

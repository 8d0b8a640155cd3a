-- A report as HTML: the page of its graphic form, characters and tags; and what follows of it for who reads it.
use Rattle.std.specs.Prelude.{◌≡◌, ℕ, List, [], ◌∷◌, ◌++◌, None, encode_utf8_all, Bool, true, map, if◌then◌else◌}
use Rattle.std.specs.List.{flat_map}
use Rattle.snippet_grid.specs.Html.{AddsHtml, HtmlPiece, Text, html_bytes, rows_html}
use Rattle.snippet_grid.specs.HtmlRead.{ReadChar, as_read, chars_of_rows, feed_read, html_reads, html_says, piece_tag, tags_of}
use Rattle.snippet_model.specs.declared.snippet.Group.{Group}
use Rattle.annotate_snippets.specs.AsSet.{IsAsSet, IsMaskedFor, adds_context, wraps}
use Rattle.annotate_snippets.specs.GraphicForm.{graphic_form}
use Rattle.annotate_snippets.specs.Laws.Context.{ShowsLinesAround}
use Rattle.annotate_snippets.specs.Laws.Page.{PageLaws}
use Rattle.annotate_snippets.specs.Laws.Wrapped.{AreRewrapped}
use Rattle.annotate_snippets.specs.Page.{GroupPage, group_rows, page_text}
use Rattle.annotate_snippets.specs.declared.renderer.Renderer.{Renderer}
use Rattle.annotate_snippets.specs.declared.renderer.form.Form.TheVariants.{Graphic}

-- the groups of a page, each in its level and after a line feed
abbrev pub further_groups : List GroupPage → List HtmlPiece
further_groups page = flat_map (λ g. Text 10 ∷ rows_html g.level (group_rows g)) page

-- a page: its groups, joined by line feeds
abbrev pub page_html : List GroupPage → List HtmlPiece
page_html [] = []
page_html (g ∷ gs) = rows_html g.level (group_rows g) ++ further_groups gs

-- a report
abbrev pub report_html : Renderer → List Group → List HtmlPiece
report_html r groups = page_html (graphic_form r groups)

-- the characters of a page, each with the class and the address that it stands in: those of its cell. A line feed stands in neither
abbrev pub further_chars : List GroupPage → List ReadChar
further_chars page = flat_map (λ g. feed_read ∷ chars_of_rows g.level (group_rows g)) page

abbrev pub page_chars : List GroupPage → List ReadChar
page_chars [] = []
page_chars (g ∷ gs) = chars_of_rows g.level (group_rows g) ++ further_chars gs

-- what follows for who reads the text of a report in HTML
pub record HtmlLaws (r : Renderer) (groups : List Group) (text : List ℕ) : Type 0 where
  -- the characters of the text
  pub html : List ℕ
  pub text_is : text ≡ encode_utf8_all html
  -- without its tags and with its escapes undone, it is the plain text of the page, which is the same under every sheet. So no character
  -- of the report is taken for a part of a tag or of an escape
  pub says : html_says html ≡ page_text (graphic_form r groups)
  -- its tags are those that its pieces are: the two of a class, and the two of a link
  pub tags : tags_of None html ≡ flat_map piece_tag (report_html r groups)
  -- each character that is read of it stands in the class of its cell's role and in the link of its cell
  pub stands : html_reads html ≡ map as_read (page_chars (graphic_form r groups))

-- a text is a report as HTML, as the renderer is set: it is that of the report that is shown in place of it
pub record IsReportHtml (r : Renderer) (groups : List Group) (text : List ℕ) : Type 0 where
  pub shown : List Group
  pub set : IsAsSet Graphic r groups shown
  pub is : text ≡ html_bytes (report_html r shown)

-- and it has the laws of that, as its page has those of a page; and lines around those that are kept, and wrapped titles and messages, are as
-- `HasLaws` tells
pub record HasHtmlLaws (r : Renderer) (groups : List Group) (text : List ℕ) : Type 0 where
  pub shown : List Group
  pub set : IsAsSet Graphic r groups shown
  pub laws : HtmlLaws r shown text
  pub page : PageLaws r shown (graphic_form r shown)
  pub masked : List Group
  pub masks : IsMaskedFor r.mask_controls r groups masked
  pub around : adds_context Graphic r ≡ true → ShowsLinesAround r.context_before r.context_after masked (graphic_form r shown)
  pub wrapped : wraps Graphic r ≡ true → AreRewrapped r masked shown

-- a text grew by a group, after a line feed unless it is the first
abbrev pub AddsGroupHtml : Bool → GroupPage → List ℕ → List ℕ → Type 0
AddsGroupHtml first g old new =
    AddsHtml (if first then rows_html g.level (group_rows g) else (Text 10 ∷ rows_html g.level (group_rows g))) old new

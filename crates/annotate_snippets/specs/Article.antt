-- A report as what stands in an article of a page in HTML: a heading, the drawing, and the report in words.
use Rattle.std.specs.Prelude.{◌≡◌, ℕ, Bool, true, false, List, [], ◌∷◌, ◌++◌, Option, None, Some, chars, codes, encode_utf8_all, map}
use Rattle.std.specs.Prelude.{if◌then◌else◌}
use Rattle.std.specs.Cow.{cow_str_bytes}
use Rattle.std.specs.List.{flat_map}
use Rattle.std.specs.Option.{option_map}
use Rattle.snippet_grid.specs.Html.{AnchorEnd, AnchorStart, HtmlPiece, Text, escaped, html_bytes, html_text}
use Rattle.snippet_grid.specs.HtmlRead.{html_says, piece_tag, tags_of}
use Rattle.snippet_model.specs.Heading.{Heading, heading_of_title, is_hidden}
use Rattle.snippet_model.specs.Level.{name_of}
use Rattle.snippet_model.specs.declared.snippet.Group.{Group}
use Rattle.snippet_model.specs.declared.snippet.Id.{Id}
use Rattle.snippet_model.specs.declared.snippet.Title.{Title}
use Rattle.snippet_style.specs.Stylesheet.{plain_sheet}
use Rattle.snippet_text.specs.Normalized.{norm}
use Rattle.snippet_titles.specs.HeadingRows.{closing_bracket_of, colon_of, opening_bracket_of}
use Rattle.annotate_snippets.specs.AsSet.{IsAsSet}
use Rattle.annotate_snippets.specs.Forms.{ShowsReport}
use Rattle.annotate_snippets.specs.Html.{HasHtmlLaws, IsReportHtml}
use Rattle.annotate_snippets.specs.Laws.Forms.{HasLaws}
use Rattle.annotate_snippets.specs.Markdown.{link_of, title_above, unlinked, unwrapped}
use Rattle.annotate_snippets.specs.declared.renderer.Renderer.{Renderer}
use Rattle.annotate_snippets.specs.declared.renderer.form.Form.TheVariants.{Graphic}

-- ---- the heading

-- an address, if links are shown and it may be one, whoever wrote it
abbrev pub address_of : Bool → Option (List ℕ) → Option (List ℕ)
address_of links address = if links then link_of address else None

-- a text that links to an address, if there is one
abbrev pub linked_html : Option (List ℕ) → List ℕ → List HtmlPiece
linked_html None text = map Text text
linked_html (Some address) text = AnchorStart address ∷ (map Text text ++ AnchorEnd ∷ [])

-- an id's text between its brackets, normalised, given its address; nothing where it has no text
abbrev pub bracketed_html : Bool → Option (List ℕ) → Option (List ℕ) → List HtmlPiece
bracketed_html hidden address None = []
bracketed_html hidden address (Some text) =
    map Text (opening_bracket_of hidden) ++ linked_html address (norm (chars text)) ++ map Text (closing_bracket_of hidden)

abbrev pub id_html : Bool → Bool → Option Id → List HtmlPiece
id_html links hidden None = []
id_html links hidden (Some id) = bracketed_html hidden (address_of links (option_map cow_str_bytes id.url)) (option_map cow_str_bytes id.id)

-- a title: the name of its level and its id, a colon, and its text, normalised
abbrev pub title_html : Bool → Heading → List HtmlPiece
title_html links heading =
    let hidden = is_hidden heading.level.name in
    map Text (norm (chars (name_of heading.level))) ++ id_html links hidden heading.id ++ map Text (colon_of hidden heading.id)
    ++ map Text (norm (chars heading.text))

-- a title as a heading, on a line of its own; nothing where there is none
abbrev pub heading_html : Bool → Heading → List ℕ
heading_html links heading = codes "<h2>" ++ html_bytes (title_html links heading) ++ codes "</h2>\n"

abbrev pub heading_if : Bool → Option Title → List ℕ
heading_if links None = []
heading_if links (Some title) = heading_html links (heading_of_title title)

-- ---- the drawing and the words

-- a drawing, which isn't read aloud. The line feed after a tag `<pre>` is no part of what stands in it
abbrev pub drawing_html : List ℕ → List ℕ
drawing_html drawing = codes "<pre aria-hidden=\"true\">\n" ++ drawing ++ codes "</pre>\n"

-- words, escaped
abbrev pub words_html : List ℕ → List ℕ
words_html words = codes "<pre class=\"snippet-text\">\n" ++ encode_utf8_all (escaped (chars words)) ++ codes "</pre>"

-- what stands in the article of a report that has this title, if any, this drawing and these words
abbrev pub article : Bool → Option Title → List ℕ → List ℕ → List ℕ
article links title drawing words = heading_if links title ++ drawing_html drawing ++ words_html words

-- a renderer that is set alike, for who listens: it writes the text form, without codes and links
abbrev pub spoken : Renderer → Renderer
spoken r = record r { no_graphics = true; hyperlink = false; stylesheet = plain_sheet }

-- ---- the report

-- a text is the article of a report, as the renderer is set: its drawing is the page that `render_html` gives without links, its words are the
-- text form that `render` gives, each with its laws, and the heading is the title of the report that would be shown if nothing were wrapped.
-- A text of the report is read as it is, and has no tag there: the tags of the heading are those of a link, if it has one
pub record IsReportArticle (r : Renderer) (groups : List Group) (text : List ℕ) : Type 0 where
  pub drawing : List ℕ
  pub words : List ℕ
  pub whole : List Group
  pub drawn : IsReportHtml (unlinked r) groups drawing
  pub drawn_laws : HasHtmlLaws (unlinked r) groups drawing
  pub told : ShowsReport (spoken r) groups plain_sheet words
  pub told_laws : HasLaws (spoken r) groups plain_sheet words
  pub unbroken : IsAsSet Graphic (unwrapped r) groups whole
  pub is : text ≡ article r.hyperlink (title_above Graphic whole) drawing words
  pub read : (given : List ℕ) → html_says (escaped given) ≡ given
  pub untagged : (given : List ℕ) → tags_of None (escaped given) ≡ []
  pub linked : (heading : Heading) → tags_of None (html_text (title_html r.hyperlink heading)) ≡ flat_map piece_tag (title_html r.hyperlink heading)

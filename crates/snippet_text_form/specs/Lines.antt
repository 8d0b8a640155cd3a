-- The lines of the text form, paragraph by paragraph. A paragraph is a title or message, with a line for each line of its text, or the one line of a
-- span, of a suggestion's number, of an edit or of an origin. No line feed of any other text is a line feed here.
use Rattle.std.specs.Prelude.{ℕ, Bool, true, false, List, [], ◌∷◌, ◌++◌, Option, None, Some, codes, filter, map, replicate, if◌then◌else◌}
use Rattle.std.specs.Cow.{cow_str_bytes}
use Rattle.std.specs.Fmt.{decimal}
use Rattle.std.specs.List.{flat_map}
use Rattle.std.specs.Option.{option_map}
use Rattle.snippet_lines.specs.Lines.{Source}
use Rattle.snippet_lines.specs.Place.{locations_of}
use Rattle.snippet_model.specs.Heading.{Heading}
use Rattle.snippet_model.specs.declared.snippet.Annotation.{Annotation}
use Rattle.snippet_model.specs.declared.snippet.Origin.{Origin}
use Rattle.snippet_model.specs.declared.snippet.Patch.{Patch}
use Rattle.snippet_model.specs.declared.snippet.Snippet.{Snippet}
use Rattle.snippet_parts.specs.Numbered.{numbered_source}
use Rattle.snippet_splice.specs.Edits.{Edit}
use Rattle.snippet_suggest.specs.Given.{trimmed_of}
use Rattle.snippet_suggest.specs.Kind.{is_blank_text}
use Rattle.snippet_text.specs.Width.{width_of}
use Rattle.snippet_titles.specs.HeadingRows.{heading_lines}
use Rattle.snippet_text_form.specs.Cause.{further_indent, is_labelled, named_spans, span_text}
use Rattle.snippet_text_form.specs.HeadingForm.{heading_label}
use Rattle.snippet_text_form.specs.Position.{place, place_in_file}
use Rattle.snippet_text_form.specs.Suggestion.{added_text, before_added, edit_indent, edit_place, named_path}
use Rattle.snippet_text_form.specs.declared.heading.HeadingKind.{HeadingKind}
use Rattle.snippet_text_form.specs.declared.suggestion.SuggestionContext.{SuggestionContext}
use Rattle.snippet_text_form.specs.declared.suggestion.SuggestionSettings.{SuggestionSettings}

-- a paragraph of one line
abbrev pub line_paragraph : List ℕ → List (List ℕ)
line_paragraph line = line ∷ []

-- the lines of a text after a label: the first after it, and each further one after as many spaces as it has columns
abbrev pub lines_after : List ℕ → List (List ℕ) → List (List ℕ)
lines_after label [] = label ∷ []
lines_after label (line ∷ lines) = (label ++ line) ∷ map (λ further. replicate (width_of label) 32 ++ further) lines

-- a title or message
abbrev pub heading_paragraph : HeadingKind → Heading → List (List ℕ)
heading_paragraph kind heading = lines_after (heading_label kind heading) (heading_lines heading)

-- the lines of an annotated snippet: that of its first span, and of each other that has a label; where there are none, that of the place
-- where its source begins
abbrev pub span_lines : Bool → Source → Option (List ℕ) → List Annotation → List (List ℕ)
span_lines anonymized source path [] = (codes " " ++ place anonymized path source.first None) ∷ []
span_lines anonymized source path (a ∷ others) =
    span_text anonymized source (codes " ") path a ∷ map (span_text anonymized source (further_indent path) None) (filter is_labelled others)

-- the paragraphs of an annotated snippet in the text form: one for each of its lines
abbrev pub cause_paragraphs : Bool → Snippet Annotation → List (List (List ℕ))
cause_paragraphs anonymized s =
    map line_paragraph (span_lines anonymized (numbered_source s) (option_map cow_str_bytes s.path) (named_spans s.markers.items))

-- the characters of what an edit puts in its place
abbrev pub added_words : Bool → List ℕ → Edit → List ℕ
added_words feeds source e = if is_blank_text e.text then [] else before_added source e ++ added_text feeds e

-- the line of an edit
abbrev pub edit_line : SuggestionSettings → Source → List ℕ → Option (List ℕ) → Edit → List ℕ
edit_line settings source indent path e =
    let at = locations_of source e.start e.end in
    (indent ++ edit_place settings.anonymized source path e at.0 at.1) ++ added_words settings.show_line_feeds source.text e

-- the line of a suggestion's number, where it has one
abbrev pub option_lines : Option ℕ → List (List ℕ)
option_lines None = []
option_lines (Some number) = (codes " option " ++ decimal number) ∷ []

-- a suggestion: the line of its number, and one for each edit
abbrev pub suggestion_paragraphs : SuggestionSettings → SuggestionContext → Snippet Patch → List (List (List ℕ))
suggestion_paragraphs settings at s =
    map line_paragraph (option_lines at.option) ++ map line_paragraph (map (edit_line settings (numbered_source s) (edit_indent at.option)
    (named_path at.names_path (option_map cow_str_bytes s.path))) (trimmed_of s))

-- a place without source
abbrev pub origin_paragraph : Bool → Origin → List (List ℕ)
origin_paragraph anonymized o =
    line_paragraph (codes " " ++ place_in_file anonymized (cow_str_bytes o.path) o.line o.char_column)

-- whether a paragraph has no characters
abbrev pub is_empty_paragraph : List (List ℕ) → Bool
is_empty_paragraph [] = true
is_empty_paragraph ([] ∷ []) = true
is_empty_paragraph ([] ∷ line ∷ lines) = false
is_empty_paragraph ((c ∷ line) ∷ lines) = false

-- the lines of paragraphs, one below another; one without characters has none before the first that has some. No paragraphs are one empty line
abbrev pub lines_of_paragraphs : List (List (List ℕ)) → List (List ℕ)
lines_of_paragraphs [] = [] ∷ []
lines_of_paragraphs (paragraph ∷ paragraphs) =
    if is_empty_paragraph paragraph then lines_of_paragraphs paragraphs else paragraph ++ flat_map (λ lines. lines) paragraphs

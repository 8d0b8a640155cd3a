-- What a suggestion and a place without source are in the text form.
use Rattle.std.specs.Prelude.{ℕ, ◌+◌, nat_lt, ◌==◌, ◌&&◌, ◌||◌, not, Bool, false, List, [], ◌∷◌, ◌++◌, Option, None, Some, chars, codes, drop, length, take}
use Rattle.std.specs.Prelude.{if◌then◌else◌, true}
use Rattle.std.specs.Cow.{cow_str_bytes}
use Rattle.std.specs.Fmt.{decimal}
use Rattle.std.specs.List.{flat_map}
use Rattle.std.specs.Option.{option_map}
use Rattle.snippet_lines.specs.Lines.{Source, line_at, lines_of}
use Rattle.snippet_lines.specs.Place.{locations_of}
use Rattle.snippet_lines.specs.Span.{is_character_border}
use Rattle.snippet_lines.specs.declared.place.Loc.{Loc}
use Rattle.snippet_model.specs.declared.snippet.Origin.{Origin}
use Rattle.snippet_model.specs.declared.snippet.Patch.{Patch}
use Rattle.snippet_model.specs.declared.snippet.Snippet.{Snippet}
use Rattle.snippet_splice.specs.Edits.{Edit}
use Rattle.snippet_splice.specs.ShownText.{without_final_line_feeds}
use Rattle.snippet_style.specs.declared.role.ElementStyle.TheVariants.{Addition}
use Rattle.snippet_suggest.specs.Given.{trimmed_of}
use Rattle.snippet_parts.specs.Numbered.{numbered_source}
use Rattle.snippet_shown.specs.LineFeeds.{with_line_feeds_shown}
use Rattle.snippet_suggest.specs.Kind.{is_blank_text, is_under_text, text_under}
use Rattle.snippet_text.specs.Normalized.{norm}
use Rattle.snippet_text_form.specs.Cause.{column_unless}
use Rattle.snippet_text_form.specs.Form.{FormPiece, Break, bare, styled}
use Rattle.snippet_text_form.specs.Position.{place, place_in_file, to_line}
use Rattle.snippet_text_form.specs.declared.suggestion.SuggestionContext.{SuggestionContext}
use Rattle.snippet_text_form.specs.declared.suggestion.SuggestionSettings.{SuggestionSettings}

-- whether an edit stands over text that isn't blank
abbrev pub overwrites : List ℕ → Edit → Bool
overwrites source e = is_under_text e (text_under source e)

-- whether it puts text that isn't blank in place of such text
abbrev pub replaces : List ℕ → Edit → Bool
replaces source e = overwrites source e && not (is_blank_text e.text)

-- where a replaced span ends, after the place at which it starts
abbrev pub replaced_to : Bool → Loc → Loc → List ℕ
replaced_to anonymized start end =
    if start.line == end.line then codes " to column " ++ decimal (end.char + 1)
    else to_line anonymized end.line (Some (end.char + 1))

-- whether a text has several lines
abbrev pub has_several_lines : List ℕ → Bool
has_several_lines text = nat_lt 1 (length (lines_of text))

-- whether a line can be cut at two bytes with nothing but whitespace before the first, and after the second too, unless that
-- doesn't matter
abbrev pub is_alone : Option (List ℕ) → ℕ → ℕ → Bool → Bool
is_alone None from to anything = false
is_alone (Some line) from to anything =
    is_character_border line from && is_character_border line to && is_blank_text (take from line) && (anything || is_blank_text (drop to line))

-- as the original does, by the bytes of the source: whether an edit is that of a whole line: its span is on one line, on which nothing
-- else stands. The bytes at which the line is cut are those of the source, so it is mostly a first line
abbrev pub replaces_whole_line : Source → Loc → Loc → Edit → Bool
replaces_whole_line source start end e =
    start.line == end.line && is_alone (line_at source start.line) start.byte end.byte (has_several_lines e.text)

-- where an edit stands
abbrev pub edit_place : Bool → Source → Option (List ℕ) → Edit → Loc → Loc → List ℕ
edit_place anonymized source path e start end =
    if replaces source.text e then place anonymized path start.line (Some (start.char + 1)) ++ replaced_to anonymized start end
    else place anonymized path start.line (column_unless (replaces_whole_line source start end e) start)

-- the characters of what an edit puts there: its text without the line feeds that end it, normalised; with line feeds shown it is one
-- line, as long as it may be
abbrev pub added_text : Bool → Edit → List ℕ
added_text true e = with_line_feeds_shown (norm (chars (without_final_line_feeds e.text)))
added_text false e = norm (chars (without_final_line_feeds e.text))

-- what stands before them
abbrev pub before_added : List ℕ → Edit → List ℕ
before_added source e = if overwrites source e then codes " replace with: " else codes " add: "

-- what an edit puts there, in the style of additions; nothing where it is blank
abbrev pub added_form : Bool → List ℕ → Edit → List FormPiece
added_form feeds source e =
    if is_blank_text e.text then [] else bare (before_added source e) ++ styled Addition (added_text feeds e)

-- an edit, on a line of its own: after an indent the place where it stands, and what it puts there
abbrev pub edit_form : SuggestionSettings → Source → List ℕ → Option (List ℕ) → Edit → List FormPiece
edit_form settings source indent path e =
    let at = locations_of source e.start e.end in
    Break ∷ (bare (indent ++ edit_place settings.anonymized source path e at.0 at.1) ++ added_form settings.show_line_feeds source.text e)

-- a suggestion's number among those for one file, on a line of its own, and the indent below it
abbrev pub option_form : Option ℕ → List FormPiece
option_form None = []
option_form (Some number) = Break ∷ bare (codes " option " ++ decimal number)

abbrev pub edit_indent : Option ℕ → List ℕ
edit_indent None = codes " "
edit_indent (Some number) = codes "  "

-- a path that is named, if it is there
abbrev pub named_path : Bool → Option (List ℕ) → Option (List ℕ)
named_path names path = if names then path else None

-- a suggestion: its number, where it is one of several for one file, and its trimmed edits, in order
unfoldable pub suggestion_form : SuggestionSettings → SuggestionContext → Snippet Patch → List FormPiece
suggestion_form settings at s =
    option_form at.option ++ flat_map (edit_form settings (numbered_source s) (edit_indent at.option)
    (named_path at.names_path (option_map cow_str_bytes s.path))) (trimmed_of s)

-- a place without source, on a line of its own
unfoldable pub origin_form : Bool → Origin → List FormPiece
origin_form anonymized o =
    Break ∷ bare (codes " " ++ place_in_file anonymized (cow_str_bytes o.path) o.line o.char_column)

-- What an annotated snippet is in the text form: the places of its spans with their labels.
use Rattle.std.specs.Prelude.{ℕ, ◌+◌, nat_lt, nat_le, ◌==◌, ◌&&◌, Bool, false, List, [], ◌∷◌, ◌++◌, Option, None, Some, chars, codes, drop, filter, length}
use Rattle.std.specs.Prelude.{take, if◌then◌else◌}
use Rattle.std.specs.Char.{is_whitespace}
use Rattle.std.specs.Cow.{cow_str_bytes}
use Rattle.std.specs.Fmt.{decimal}
use Rattle.std.specs.List.{flat_map, list_all}
use Rattle.std.specs.Option.{option_map}
use Rattle.snippet_parts.specs.Numbered.{numbered_source}
use Rattle.snippet_lines.specs.Lines.{Source, line_at}
use Rattle.snippet_lines.specs.OrderedBy.{ordered_by}
use Rattle.snippet_lines.specs.Place.{locations_of}
use Rattle.snippet_lines.specs.declared.place.Loc.{Loc}
use Rattle.snippet_model.specs.declared.snippet.Annotation.{Annotation}
use Rattle.snippet_model.specs.declared.snippet.AnnotationKind.{AnnotationKind}
use Rattle.snippet_model.specs.declared.snippet.AnnotationKind.TheVariants.{Primary, Context, Visible}
use Rattle.snippet_model.specs.declared.snippet.Snippet.{Snippet}
use Rattle.snippet_parts.specs.Mark.{is_marking}
use Rattle.snippet_text.specs.Normalized.{normalized_chars}
use Rattle.snippet_titles.specs.Origin.{line_name}
use Rattle.snippet_text_form.specs.Form.{FormPiece, Break, bare}
use Rattle.snippet_text_form.specs.Position.{place, place_in_file, place_on_line, to_line}

-- which of two kinds of spans is named first: the primary one
abbrev pub kind_rank : AnnotationKind → ℕ
kind_rank Primary = 0
kind_rank Context = 1
kind_rank Visible = 1

-- whether an annotation comes before another: a primary one before any other, and among those of a kind the one that starts first
abbrev pub is_named_before : Annotation → Annotation → Bool
is_named_before a b =
    if kind_rank a.kind == kind_rank b.kind then nat_lt a.span.start b.span.start
    else nat_lt (kind_rank a.kind) (kind_rank b.kind)

-- the annotations that are named, in order: all but visible ones, primary ones first, then by start, else as given
abbrev pub named_spans : List Annotation → List Annotation
named_spans marks = ordered_by is_named_before (filter (λ a. is_marking a.kind) marks)

-- the characters of an annotation's label, normalised; none where there is no label
abbrev pub label_characters : Annotation → List ℕ
label_characters a = normalized_chars (option_map cow_str_bytes a.label)

-- whether an annotation has a label that shows anything
abbrev pub is_labelled : Annotation → Bool
is_labelled a = nat_lt 0 (length (label_characters a))

-- a label after a place
abbrev pub after_place : List ℕ → List ℕ
after_place label = if nat_lt 0 (length label) then codes ": " ++ label else []

-- whether nothing but whitespace stands before so many characters of a line
abbrev pub is_blank_before : Option (List ℕ) → ℕ → Bool
is_blank_before None count = false
is_blank_before (Some line) count = list_all is_whitespace (take count (chars line))

-- whether a line has so many characters, and nothing but whitespace after them
abbrev pub is_blank_after : Option (List ℕ) → ℕ → Bool
is_blank_after None count = false
is_blank_after (Some line) count =
    nat_le count (length (chars line)) && list_all is_whitespace (drop count (chars line))

-- the column of a place, from 1; but not where it says nothing
abbrev pub column_unless : Bool → Loc → Option ℕ
column_unless plain loc = if plain then None else Some (loc.char + 1)

-- where a span ends, after the place in a file at which it starts: nothing on the line of that
abbrev pub end_in_file : Bool → Loc → Loc → List ℕ
end_in_file anonymized start end =
    if start.line == end.line then [] else codes " to " ++ line_name anonymized end.line ++ codes ":" ++ decimal (end.char + 1)

-- the end of a span after a place that is named without a path; the column is left out where the line ends there
abbrev pub end_on_line : Bool → Source → Loc → Loc → List ℕ
end_on_line anonymized source start end =
    if start.line == end.line then [] else to_line anonymized end.line (column_unless (is_blank_after (line_at source end.line) end.char) end)

-- where a span starts and ends: in a file, or without a path; there the column is left out where the line begins with the span
abbrev pub span_place : Bool → Source → Option (List ℕ) → Loc → Loc → List ℕ
span_place anonymized source None start end =
    place_on_line anonymized start.line (column_unless (is_blank_before (line_at source start.line) start.char) start)
    ++ end_on_line anonymized source start end
span_place anonymized source (Some path) start end =
    place_in_file anonymized path (Some start.line) (Some (start.char + 1)) ++ end_in_file anonymized start end

-- the line of an annotation: after an indent the place of its span, and its label
abbrev pub span_text : Bool → Source → List ℕ → Option (List ℕ) → Annotation → List ℕ
span_text anonymized source indent path a =
    let at = locations_of source a.span.start a.span.end in
    indent ++ span_place anonymized source path at.0 at.1 ++ after_place (label_characters a)

-- an annotation in the text form, on a line of its own
abbrev pub span_form : Bool → Source → List ℕ → Option (List ℕ) → Annotation → List FormPiece
span_form anonymized source indent path a = Break ∷ bare (span_text anonymized source indent path a)

-- further annotations stand below the first one's path, where there is one
abbrev pub further_indent : Option (List ℕ) → List ℕ
further_indent None = codes " "
further_indent (Some path) = codes "  "

-- the first of some annotations with the path, and each other that has a label without it; where there are none, where the
-- source begins
abbrev pub spans_form : Bool → Source → Option (List ℕ) → List Annotation → List FormPiece
spans_form anonymized source path [] =
    Break ∷ bare (codes " " ++ place anonymized path source.first None)
spans_form anonymized source path (a ∷ others) =
    span_form anonymized source (codes " ") path a ++ flat_map (span_form anonymized source (further_indent path) None) (filter is_labelled others)

-- an annotated snippet: its annotations, in order
unfoldable pub cause_form : Bool → Snippet Annotation → List FormPiece
cause_form anonymized s =
    spans_form anonymized (numbered_source s) (option_map cow_str_bytes s.path) (named_spans s.markers.items)

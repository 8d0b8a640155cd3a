-- The entries of annotations on the lines that they touch, spans of several lines among them.
use Rattle.std.specs.Prelude.{ℕ, ◌+◌, ◌-◌, ◌==◌, ◌&&◌, ◌||◌, nat_lt, max, Bool, not, List, [], ◌∷◌, ◌++◌, None, map, filter, if◌then◌else◌}
use Rattle.std.specs.List.{list_any, range_with_len}
use Rattle.std.specs.Option.{option_map}
use Rattle.std.specs.Cow.{cow_str_bytes}
use Rattle.snippet_model.specs.AnnotationKind.{is_primary}
use Rattle.snippet_model.specs.declared.snippet.Annotation.{Annotation}
use Rattle.snippet_model.specs.declared.snippet.AnnotationKind.TheVariants.{Primary}
use Rattle.snippet_parts.specs.declared.depths.LongExtent.{LongExtent}
use Rattle.snippet_parts.specs.declared.entries.LineAnnotation.{LineAnnotation}
use Rattle.snippet_parts.specs.declared.entries.LineAnnotationType.{LineAnnotationType}
use Rattle.snippet_parts.specs.declared.entries.LineAnnotationType.TheVariants.{Singleline, MultilineStart, MultilineEnd, MultilineLine}
use Rattle.snippet_lines.specs.declared.place.Loc.{Loc}
use Rattle.snippet_parts.specs.Depths.{same_place, greatest_depth, depth_among}
use Rattle.snippet_parts.specs.Kept.{has_bar, kept_lines}
use Rattle.snippet_lines.specs.Lines.{source_lines, text_at, Source}
use Rattle.snippet_lines.specs.OrderedBy.{ordered_by}
use Rattle.snippet_parts.specs.Mark.{is_marking, is_single_line, touches}
use Rattle.snippet_lines.specs.Place.{locations_of}

-- ---- spans of several lines, in order

-- a span as an entry that stands for the whole of it, from its start to its end
abbrev pub long_entry : Source → Annotation → LineAnnotation
long_entry s a =
    let at = locations_of s a.span.start a.span.end in
    let label = option_map cow_str_bytes a.label in
    record { start = at.0; end = at.1; kind = a.kind; label = label; annotation_type = Singleline; highlight_source = a.highlight_source }

-- the place of an annotation of several lines: its bytes, and the numbers of its first and its last line
abbrev pub long_place : LineAnnotation → LongExtent
long_place e = record { from = e.start.byte; to = e.end.byte; first = e.start.line; last = e.end.line }

-- whether an annotation is a span of several lines of a kind that is marked
abbrev pub is_long : List ℕ → Annotation → Bool
is_long source a = is_marking a.kind && not (is_single_line source a)

-- the spans of several lines of a source, in their order: by first line, then the one with the later last line, else as given
abbrev pub long_spans : Source → List Annotation → List LineAnnotation
long_spans s marks =
    ordered_by (λ d e. nat_lt d.start.line e.start.line || d.start.line == e.start.line && nat_lt e.end.line d.end.line)
    (map (long_entry s) (filter (is_long s.text) marks))

-- the depth of an annotation of several lines, among all that are marked
abbrev pub depth_of : Source → List Annotation → Annotation → ℕ
depth_of s marks a = depth_among (map long_place (long_spans s marks)) (long_place (long_entry s a))

-- the greatest depth of the annotations of several lines
abbrev pub deepest : Source → List Annotation → ℕ
deepest s marks = greatest_depth (map long_place (long_spans s marks))

-- ---- entries

-- the entry of a span on one line: at least one column wide
abbrev pub single_part : Source → Annotation → LineAnnotation
single_part s a =
    let e = long_entry s a in
    record e { end = record e.end { display = max e.end.display (e.start.display + 1) } }

-- the entry on the first line of a span of several lines: one column and one character wide, without the label
abbrev pub start_part : LineAnnotation → ℕ → LineAnnotation
start_part e depth =
    record e { end = record e.start { char = e.start.char + 1; display = e.start.display + 1 }; label = None; annotation_type = MultilineStart depth }

-- a bar beside the line of a number: no columns, and no label
abbrev pub bar_part : LineAnnotation → ℕ → ℕ → LineAnnotation
bar_part e depth number =
    let at : Loc = record { line = number; char = 0; display = 0; byte = 0 } in
    record e { start = at; end = at; label = None; annotation_type = MultilineLine depth }

-- the entry on the last line: the column and the character before the end, if there are any
abbrev pub end_part : LineAnnotation → LineAnnotationType → LineAnnotation
end_part e part = record e { start = record e.end { char = e.end.char - 1; display = e.end.display - 1 }; annotation_type = part }

-- the entries of a span of several lines: its start, its bars beside lines between its first and its last, and its end; where a later
-- one has its place it has a single-line entry at its end alone
abbrev pub span_parts : Source → ℕ → Bool → LineAnnotation → List LineAnnotation
span_parts s depth again e =
    let first = e.start.line - s.first in
    let last = e.end.line - s.first in
    let bar_lines = filter (has_bar s.text first last) (range_with_len (first + 1) (last - (first + 1))) in
    if again then end_part e Singleline ∷ []
    else start_part e depth ∷ (map (λ k. bar_part e depth (s.first + k)) bar_lines ++ end_part e (MultilineEnd depth) ∷ [])

-- a span as it is drawn: primary where it is, or one before it that has its place
abbrev pub promoted : List LineAnnotation → LineAnnotation → LineAnnotation
promoted before e =
    if is_primary e.kind || list_any (λ d. is_primary d.kind && same_place (long_place e) (long_place d)) before then record e { kind = Primary } else e

-- the entries of spans of several lines in their order, all of which have these places
abbrev pub long_parts : Source → List LongExtent → List LineAnnotation → List LineAnnotation → List LineAnnotation
long_parts s places before [] = []
long_parts s places before (e ∷ later) =
    span_parts s (depth_among places (long_place e)) (list_any (λ d. same_place (long_place e) (long_place d)) later) (promoted before e)
    ++ long_parts s places (before ++ e ∷ []) later

-- all entries in the order made: those of marked spans on one line as given, then those of spans of several lines
abbrev pub made_parts : Source → List Annotation → List LineAnnotation
made_parts s marks =
    let longs = long_spans s marks in
    map (single_part s) (filter (λ a. is_marking a.kind && is_single_line s.text a) marks) ++ long_parts s (map long_place longs) [] longs

-- ---- lines

-- the entries that stand on line k, in the order made
abbrev pub parts_on : Source → List Annotation → ℕ → List LineAnnotation
parts_on s marks k = filter (λ p. p.start.line == s.first + k) (made_parts s marks)

-- a kept line as it is seen: its number, its text's bytes, its entries, and whether a span keeps it without marking it
pub record KeptLine : Type 0 where
  pub number : ℕ
  pub text : List ℕ
  pub parts : List LineAnnotation
  pub keep : Bool

-- line k of a source, with its number, its text, the entries on it, and whether a `Visible` annotation touches it
abbrev pub kept_line : Source → List Annotation → ℕ → KeptLine
kept_line s marks k =
    let keep = list_any (λ a. not (is_marking a.kind) && touches s.text a k) marks in
    record { number = s.first + k; text = text_at (source_lines s.text) k; parts = parts_on s marks k; keep = keep }

-- the lines that are kept, each with its entries
abbrev pub annotated_lines : Bool → Source → List Annotation → List KeptLine
annotated_lines fold s marks = map (kept_line s marks) (kept_lines fold s.text marks)

-- The place that the head of a snippet names after its path: a line, and a column there.
use Rattle.std.specs.Prelude.{◌≡◌, ℕ, ◌+◌, ◌≤◌, Bool, true, List, ◌++◌, Option, Some, None, Contains, map, filter, if◌then◌else◌}
use Rattle.std.specs.List.{filter_map, list_any, slice_get}
use Rattle.std.specs.Option.{option_map}
use Rattle.snippet_model.specs.declared.snippet.Annotation.{Annotation}
use Rattle.snippet_model.specs.declared.snippet.AnnotationKind.{AnnotationKind}
use Rattle.snippet_model.specs.declared.snippet.AnnotationKind.TheVariants.{Primary, Context}
use Rattle.snippet_parts.specs.declared.location.Location.{Location}
use Rattle.snippet_lines.specs.Lines.{Source}
use Rattle.snippet_lines.specs.Place.{start_location}
use Rattle.snippet_parts.specs.Annotated.{KeptLine}
use Rattle.snippet_model.specs.AnnotationKind.{is_primary}
use Rattle.snippet_parts.specs.Marked.{first_line}
use Rattle.snippet_parts.specs.Least.{least}

-- ---- by the entries of the lines that are kept

-- the place of those entries of a line that are of such kinds: the least column at which one starts, in characters, counted from 1
abbrev pub least_place : (AnnotationKind → Bool) → KeptLine → Option Location
least_place chosen line =
    option_map (λ column. record { line = line.number; column = Some column })
    (least (map (λ p. p.start.char + 1) (filter (λ p. chosen p.kind) line.parts)))

-- what the head of a primary snippet names: the first line with a primary entry, and the least column of a primary one
-- there; else the first line with an entry, and the least column there
abbrev pub primary_place : List KeptLine → Option Location
primary_place lines = slice_get (filter_map (least_place is_primary) lines ++ filter_map (least_place (λ kind. true)) lines) 0

-- what the head of another snippet names: the first line with an entry, and the column of the first one there; else the
-- first line alone
abbrev pub secondary_place : List KeptLine → Option Location
secondary_place lines =
    let starts = λ (line : KeptLine). option_map (λ p. record { line = line.number; column = Some (p.start.char + 1) }) (slice_get line.parts 0) in
    slice_get (filter_map starts lines ++ map (λ line. record { line = line.number; column = None }) lines) 0

-- ---- by the spans of a snippet

-- a span that a primary snippet is named by: one of kind `Primary` where it has such a span, else one of kind `Context`
abbrev pub IsNaming : List Annotation → Annotation → Type 0
IsNaming marks a = Contains marks a × (a.kind ≡ (if list_any (λ b. is_primary b.kind) marks then Primary else Context))

-- the column at which a span starts: characters, counted from 1, and one more after the end of the line's text
abbrev pub start_at : Source → Annotation → ℕ
start_at s a = (start_location s a.span.start).char + 1

-- a place is that of a span that the snippet is named by: such a span starts on the line at the column, none starts on an earlier line, and
-- none on this line at a lesser column
pub record IsLocation (s : Source) (marks : List Annotation) (place : Location) : Type 0 where
  pub span : Annotation
  pub naming : IsNaming marks span
  pub line : place.line ≡ s.first + first_line s.text span
  pub column : place.column ≡ Some (start_at s span)
  pub first : (other : Annotation) → IsNaming marks other → first_line s.text span ≤ first_line s.text other
  pub least : (other : Annotation) → IsNaming marks other → first_line s.text other ≡ first_line s.text span → start_at s span ≤ start_at s other

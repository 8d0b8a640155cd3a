-- The place that the head of a snippet names, by the bytes at which its spans start.
use Rattle.std.specs.Prelude.{ℕ, ◌+◌, List, Option, Some, map, filter}
use Rattle.std.specs.Option.{option_or}
use Rattle.snippet_model.specs.declared.snippet.Annotation.{Annotation}
use Rattle.snippet_parts.specs.declared.location.Location.{Location}
use Rattle.snippet_lines.specs.Lines.{Source}
use Rattle.snippet_lines.specs.Place.{start_location}
use Rattle.snippet_model.specs.AnnotationKind.{is_primary}
use Rattle.snippet_parts.specs.Mark.{is_marking}
use Rattle.snippet_parts.specs.Least.{least}

-- the bytes at which the primary spans start, and those at which the marked ones do
abbrev pub primary_starts : List Annotation → List ℕ
primary_starts marks = map (λ a. a.span.start) (filter (λ a. is_primary a.kind) marks)

abbrev pub marked_starts : List Annotation → List ℕ
marked_starts marks = map (λ a. a.span.start) (filter (λ a. is_marking a.kind) marks)

-- the byte at which the first primary span starts; where none is primary, the first that is marked
abbrev pub naming_start : List Annotation → Option ℕ
naming_start marks = option_or (least (primary_starts marks)) (least (marked_starts marks))

-- the place of a byte at which a span starts, as a head names it
abbrev pub place_at : Source → ℕ → Location
place_at s b =
    let at = start_location s b in
    record { line = at.line; column = Some (at.char + 1) }

-- What is known of a snippet before it is drawn.
use Rattle.std.specs.Prelude.{ℕ, ◌+◌, ◌==◌, ◌&&◌, not, length, map, take, if◌then◌else◌}
use Rattle.std.specs.Cow.{cow_str_bytes}
use Rattle.snippet_model.specs.declared.snippet.Snippet.{Snippet}
use Rattle.snippet_model.specs.declared.snippet.Annotation.{Annotation}
use Rattle.snippet_lines.specs.Lines.{newline_count}
use Rattle.snippet_parts.specs.Least.{greatest}

-- the line number that an annotated snippet counts for the gutter's width: as the original does, by the line feeds before the
-- greatest end of its spans, or by all where lines aren't folded or there are no spans
abbrev pub counted_number : Snippet Annotation → ℕ
counted_number s =
    let source = cow_str_bytes s.source.text in
    let reached = take (greatest (map (λ a. a.span.end) s.markers.items)) source in
    s.line_start + newline_count (if s.fold && not (length s.markers.items == 0) then reached else source)

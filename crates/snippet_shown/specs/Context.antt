-- The lines around those that a snippet keeps, and the spans that keep them too.
use Rattle.std.specs.Prelude.{ℕ, ◌+◌, ◌-◌, ◌&&◌, nat_le, nat_lt, min, Bool, true, false, List, [], ◌∷◌, None, length, map, filter, if◌then◌else◌}
use Rattle.std.specs.Cow.{cow_str_bytes}
use Rattle.std.specs.List.{list_any, range_with_len}
use Rattle.std.specs.declared.ops.Range.{Range}
use Rattle.snippet_lines.specs.Lines.{source_lines, start_of}
use Rattle.snippet_model.specs.declared.snippet.Annotation.{Annotation}
use Rattle.snippet_model.specs.declared.snippet.AnnotationKind.TheVariants.{Visible}
use Rattle.snippet_model.specs.declared.snippet.Snippet.{Snippet}
use Rattle.snippet_parts.specs.Kept.{kept_lines}

-- whether line k is near line j: at most `before` lines before it, and at most `after` lines after it
abbrev pub is_line_near : ℕ → ℕ → ℕ → ℕ → Bool
is_line_near before after k j = nat_le j (k + before) && nat_le k (j + after)

-- the lines near one of some lines, of a source of so many lines, each once and in order
abbrev pub lines_around : ℕ → ℕ → ℕ → List ℕ → List ℕ
lines_around before after count lines = filter (λ k. list_any (is_line_near before after k) lines) (range_with_len 0 count)

-- the byte at which line k closes: the line feed that ends it, and of the last line the source's end
abbrev pub close_of : List ℕ → ℕ → ℕ
close_of source k =
    let ls = source_lines source in
    if nat_lt (k + 1) (length ls) then start_of ls (k + 1) - 1 else length source

-- the bytes from `before` lines before line j to `after` lines after it, or as far as the source goes
abbrev pub span_around : ℕ → ℕ → List ℕ → ℕ → Range ℕ
span_around before after source j =
    let ls = source_lines source in
    record { start = start_of ls (j - before); end = close_of source (min (j + after) (length ls - 1)) }

-- how many lines the span around line j reaches after it, given the later of some lines: `after`, but no further than the next of them, which has
-- a span of its own
abbrev pub reach_after : ℕ → ℕ → List ℕ → ℕ
reach_after after j [] = after
reach_after after j (k ∷ ks) = min after (k - j)

-- the spans around some lines, one for each, in order. None reaches further than the lines next to its own among them: the one before the
-- first is given
abbrev pub spans_around : ℕ → ℕ → List ℕ → ℕ → List ℕ → List (Range ℕ)
spans_around before after source last [] = []
spans_around before after source last (j ∷ js) =
    span_around (min before (j - last)) (reach_after after j js) source j ∷ spans_around before after source j js

-- the spans around the lines that a snippet keeps. Where lines aren't folded there are none, since all lines are kept
abbrev pub context_spans : ℕ → ℕ → Snippet Annotation → List (Range ℕ)
context_spans before after s =
    if s.fold then spans_around before after (cow_str_bytes s.source.text) 0 (kept_lines true (cow_str_bytes s.source.text) s.markers.items) else []

-- an annotation that keeps the lines of a span, and marks nothing
abbrev pub visible_mark : Range ℕ → Annotation
visible_mark span = record { span = span; label = None; kind = Visible; highlight_source = false }

-- the annotations that keep the lines around those that a snippet keeps
abbrev pub context_marks : ℕ → ℕ → Snippet Annotation → List Annotation
context_marks before after s = map visible_mark (context_spans before after s)

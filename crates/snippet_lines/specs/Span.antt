-- Which spans of a source are taken, and what is wrong with the others.
use Rattle.std.specs.Prelude.{ℕ, ◌+◌, nat_lt, nat_le, ◌==◌, ◌&&◌, ◌||◌, Bool, List, Option, Some, None, length, slice_index}
use Rattle.std.specs.Prelude.{if◌then◌else◌}
use Rattle.snippet_lines.specs.declared.span.SpanFault.{SpanFault}
use Rattle.snippet_lines.specs.declared.span.SpanFault.TheVariants.{Reversed, PastEnd, OffBoundary}

-- whether no character of the source lies across byte b: a byte from 128 to 191 goes on with a character
abbrev pub is_character_border : List ℕ → ℕ → Bool
is_character_border source b =
    nat_le b (length source) && (nat_lt (slice_index source b) 128 || nat_le 192 (slice_index source b))

-- whether a span may start or end at byte b
abbrev pub is_span_border : List ℕ → ℕ → Bool
is_span_border source b = is_character_border source b || b == length source + 1

-- the first fault of a span, if it has one
unfoldable pub span_fault : List ℕ → ℕ → ℕ → Option SpanFault
span_fault source start end =
    if nat_lt end start then Some Reversed
    else if nat_lt (length source + 1) end then Some PastEnd
    else if is_span_border source start && is_span_border source end then None
    else Some OffBoundary

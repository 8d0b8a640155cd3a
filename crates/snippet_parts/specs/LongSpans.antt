-- Spans of several lines as the code holds them.
use Rattle.std.specs.Prelude.{ℕ, ◌+◌, ◌-◌, ◌<◌, ◌≤◌, List, filter, length}
use Rattle.std.specs.List.{range_with_len}
use Rattle.std.specs.Option.{option_copied}
use Rattle.snippet_parts.specs.declared.entries.LineAnnotation.{LineAnnotation}
use Rattle.snippet_parts.specs.declared.long_spans.LongSpan.{LongSpan}
use Rattle.snippet_lines.specs.Lines.{Source, source_lines}
use Rattle.snippet_parts.specs.declared.entries.LineAnnotationType.TheVariants.{Singleline}
use Rattle.snippet_parts.specs.Kept.{has_bar}
use Rattle.snippet_parts.specs.Located.{AreBars}
use Rattle.snippet_style.specs.Bounds.{IsColumn, IsSourceColumn, IsSourceEnd}

-- a span of several lines as it is seen
abbrev pub seen_long : LongSpan → LineAnnotation
seen_long l =
    record {
      start = l.start;
      end = l.end;
      kind = l.kind;
      label = option_copied l.label;
      annotation_type = Singleline;
      highlight_source = l.highlight_source;
    }

-- the lines between the first and the last of a span of several lines beside which it has bars, from 0
abbrev pub bar_lines : List ℕ → ℕ → ℕ → List ℕ
bar_lines source first last = filter (has_bar source first last) (range_with_len (first + 1) (last - (first + 1)))

-- its columns and characters leave room for one more, it ends on a later line than it starts on, its lines are lines of the
-- source, and its bars are those of such a span
pub record HasFit (s : Source) (l : LongSpan) : Type 0 where
  pub display : IsSourceColumn l.start.display
  pub end_display : IsSourceEnd l.end.display
  pub char : IsColumn l.start.char
  pub lines : l.start.line < l.end.line
  pub from : s.first ≤ l.start.line
  pub within : l.end.line < s.first + length (source_lines s.text)
  pub bars : AreBars s.text (l.start.line - s.first) (l.end.line - s.first) l.bars

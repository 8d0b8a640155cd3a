-- Spans, each with its place in a source.
use Rattle.std.specs.Prelude.{◌≡◌, ℕ, ◌+◌, ◌-◌, ◌<◌, ◌≤◌, ◌==◌, ◌&&◌, nat_le, nat_lt, max, min, Bool, true, not, List, map}
use Rattle.std.specs.List.{list_any, range_with_len}
use Rattle.std.specs.Option.{option_map}
use Rattle.std.specs.Cow.{cow_str_bytes}
use Rattle.snippet_model.specs.declared.snippet.Annotation.{Annotation}
use Rattle.snippet_parts.specs.declared.entries.LineAnnotation.{LineAnnotation}
use Rattle.snippet_parts.specs.declared.bars.Bars.{Bars}
use Rattle.snippet_parts.specs.declared.located.LocatedSpan.{LocatedSpan}
use Rattle.snippet_parts.specs.Kept.{is_trivial_line}
use Rattle.snippet_lines.specs.Lines.{Source}
use Rattle.snippet_lines.specs.Place.{locations_of}
use Rattle.snippet_lines.specs.IsSpan.{IsSpan}
use Rattle.snippet_parts.specs.declared.entries.LineAnnotationType.TheVariants.{Singleline}
use Rattle.snippet_parts.specs.Mark.{is_marking}
use Rattle.snippet_parts.specs.Marked.{first_line, last_line}
use Rattle.snippet_text.specs.TextBounds.{IsOffset}
use Rattle.snippet_style.specs.Bounds.{IsSourceColumn, IsSourceEnd}

-- whether a span is of a kind that is marked, and stands on one line, or on several
abbrev pub is_short_span : LocatedSpan → Bool
is_short_span l = is_marking l.annotation.now.kind && l.last == l.first

abbrev pub is_long_span : LocatedSpan → Bool
is_long_span l = is_marking l.annotation.now.kind && not (l.last == l.first)

-- whether a span is of a kind that is marked, and stands on line k alone
abbrev pub is_alone_on : ℕ → LocatedSpan → Bool
is_alone_on k l = is_short_span l && l.first == k

-- these are the bars of a span of several lines: `end` is the last line of its beginning that isn't trivial, or its first line where
-- all are, and `closing` tells whether it has one beside the line before its last, if that lies after its beginning and isn't trivial
pub record AreBars (source : List ℕ) (first last : ℕ) (bars : Bars) : Type 0 where
  pub from : first ≤ bars.end
  pub to : bars.end ≤ min (first + 4) last
  pub before : bars.end < last
  pub telling : (k : ℕ) → first < k → nat_le k bars.end
      ≡ list_any (λ j. not (is_trivial_line source j)) (range_with_len k (min (first + 4) last - k))
  pub closes : bars.closing ≡ (nat_lt (min (first + 4) last) (last - 1) && not (is_trivial_line source (last - 1)))

-- a span with its place in a source: its lines from 0 and its locations, which leave room for one more column and
-- character, and its bars, if it is one of several lines that is marked
pub record IsLocated (s : Source) (l : LocatedSpan) : Type 0 where
  pub span : IsSpan s.text l.annotation.now.span.start l.annotation.now.span.end
  pub first : l.first ≡ first_line s.text l.annotation.now
  pub last : l.last ≡ last_line s.text l.annotation.now
  pub locations : (l.start, l.end) ≡ locations_of s l.annotation.now.span.start l.annotation.now.span.end
  pub start_display : IsSourceColumn l.start.display
  pub end_display : IsSourceEnd l.end.display
  pub start_char : IsOffset l.start.char
  pub bars : is_long_span l ≡ true → AreBars s.text l.first l.last l.bars

-- the annotations of such spans
abbrev pub annotations_of : List LocatedSpan → List Annotation
annotations_of located = map (λ l. l.annotation.now) located

-- such a span as it is seen: from its start to its end
abbrev pub span_entry : LocatedSpan → LineAnnotation
span_entry l =
    record {
      start = l.start;
      end = l.end;
      kind = l.annotation.now.kind;
      label = option_map cow_str_bytes l.annotation.now.label;
      annotation_type = Singleline;
      highlight_source =
          l.annotation.now.highlight_source;
    }

-- the entry of one that stands on one line
abbrev pub short_part : LocatedSpan → LineAnnotation
short_part l = record (span_entry l) { end = record l.end { display = max l.end.display (l.start.display + 1) } }

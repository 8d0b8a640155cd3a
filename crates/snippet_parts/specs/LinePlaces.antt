-- Places of bytes, with the lines on which they stand.
use Rattle.std.specs.Prelude.{◌≡◌}
use Rattle.snippet_lines.specs.Lines.{Source, source_lines}
use Rattle.snippet_lines.specs.Place.{line_of, location_of}
use Rattle.snippet_lines.specs.IsSpan.{IsSpanBorder}
use Rattle.snippet_parts.specs.LineTable.{entry_at, table_entry}
use Rattle.snippet_text.specs.TextBounds.{TextFits}
use Rattle.snippet_parts.specs.declared.line_place.LinePlace.{LinePlace}

-- a place of a source that fits: where a span may start or end, with the location of its byte and the entry of the line that holds it
pub record IsLinePlace (s : Source) (place : LinePlace) : Type 0 where
  pub short : TextFits s.text
  pub border : IsSpanBorder s.text place.at.byte
  pub at : place.at ≡ location_of s place.at.byte
  pub line : table_entry place.line ≡ entry_at s.first (source_lines s.text) (line_of (source_lines s.text) place.at.byte)

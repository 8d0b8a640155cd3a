-- The lines that are kept, while they are given their entries.
use Rattle.std.specs.Prelude.{ℕ, ◌+◌, ◌==◌, List, filter}
use Rattle.std.specs.List.{list_any}
use Rattle.snippet_lines.specs.Lines.{source_lines, text_at, Source}
use Rattle.snippet_parts.specs.declared.entries.LineAnnotation.{LineAnnotation}
use Rattle.snippet_parts.specs.Annotated.{KeptLine}

-- line k with those of these entries that stand on it, where the lines that spans touch which aren't marked are these
abbrev pub line_with : Source → List ℕ → List LineAnnotation → ℕ → KeptLine
line_with s seen parts k =
    record {
      number = s.first + k;
      text = text_at (source_lines s.text) k;
      parts = filter (λ p. p.start.line == s.first + k) parts;
      keep = list_any (λ j. j == k) seen;
    }

-- What an annotation marks: its lines.
use Rattle.std.specs.Prelude.{ℕ, List}
use Rattle.snippet_model.specs.declared.snippet.Annotation.{Annotation}
use Rattle.snippet_lines.specs.Lines.{source_lines}
use Rattle.snippet_lines.specs.Place.{line_of}

-- the line on which an annotation starts, from 0
abbrev pub first_line : List ℕ → Annotation → ℕ
first_line source a = line_of (source_lines source) a.span.start

-- the line on which an annotation ends, from 0
abbrev pub last_line : List ℕ → Annotation → ℕ
last_line source a = line_of (source_lines source) a.span.end

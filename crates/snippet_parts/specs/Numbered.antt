-- A snippet's source, with the number of its first line.
use Rattle.std.specs.Cow.{cow_str_bytes}
use Rattle.snippet_lines.specs.Lines.{Source}
use Rattle.snippet_model.specs.declared.snippet.Snippet.{Snippet}

-- a snippet's source, with the number of its first line
abbrev pub numbered_source : {T : Type 0} → Snippet T → Source
numbered_source s = record { text = cow_str_bytes s.source.text; first = s.line_start }

-- Where the lines of a source start.
use Rattle.std.specs.Prelude.{ℕ, ◌+◌, List, [], ◌∷◌, length}
use Rattle.snippet_lines.specs.Lines.{Line, line_bytes, source_lines}

-- where some lines start, of which the first starts at a byte
abbrev pub starts_from : ℕ → List Line → List ℕ
starts_from start [] = []
starts_from start (l ∷ ls) = start ∷ starts_from (start + length (line_bytes l)) ls

-- where the lines of a source start
abbrev pub line_starts : List ℕ → List ℕ
line_starts source = starts_from 0 (source_lines source)

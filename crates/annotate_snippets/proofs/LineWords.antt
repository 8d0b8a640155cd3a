-- Words for the entries and the bars of a line, which proofs cite.
use Rattle.annotate_snippets.proofs.Common.{ℕ, List, Annotation, Snippet, LineAnnotation, parts_on, Bar, ends_of_bars, numbered_source}

-- the entries of a snippet's spans on line k
abbrev pub entries_on : Snippet Annotation → ℕ → List LineAnnotation
entries_on s k = parts_on (numbered_source s) s.markers.items k

-- the bars of the starts and ends of spans of several lines on line k
abbrev pub bars_on : Snippet Annotation → ℕ → List Bar
bars_on s k = ends_of_bars (entries_on s k)

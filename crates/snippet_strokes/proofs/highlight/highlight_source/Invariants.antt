use Rattle.snippet_strokes.proofs.Common.{◌≡◌}
use Rattle.snippet_strokes.proofs.HighlightLaws.{lit_by}
use Rattle.snippet_strokes.proofs.highlight.highlight_source.Given as goal

-- what the entries so far ask for is highlighted
abbrev pub invariant-loop-entry : goal.invariant-loop-entry
invariant-loop-entry l = l.buffer ≡ lit_by l.layout.code l.dropped l.row l.initial.buffer l.entries l.entry-index

use Rattle.snippet_suggest.proofs.Common.{◌≡◌, ◌++◌, map, lines_of, texts_of}
use Rattle.snippet_suggest.proofs.lines.text_lines.Given as goal

-- the lines so far, and those that are left, are all
abbrev pub invariant-loop-line : goal.invariant-loop-line
invariant-loop-line l =
    (goal.iterator-loop-line).can_next l.line-iterator ×
    (goal.iterator-loop-line).is_finite l.line-iterator ×
    (map (λ t. t.now) l.lines.items ++ texts_of l.line-iterator ≡ texts_of (lines_of l.text))

use Rattle.snippet_parts.proofs.Common.{◌≡◌, ◌+◌, ◌-◌, min, false, not, list_any, range_with_len, is_trivial_line}
use Rattle.snippet_parts.proofs.bars.bars_end.Given as goal

-- the lines of the beginning from here on are trivial
abbrev pub invariant-loop-line : goal.invariant-loop-line
invariant-loop-line l =
    (list_any (λ j. not (is_trivial_line l.source.text j)) (range_with_len l.line (min (l.first + 4) l.last - l.line)) ≡ false)

use Rattle.snippet_lines.proofs.Common.{◌≡◌, ◌+◌, length, decimal}
use Rattle.snippet_lines.proofs.number.gutter_width.Given as goal

-- the digits of what is left and those that were counted are the number's
abbrev pub invariant-loop-rest : goal.invariant-loop-rest
invariant-loop-rest l = l.width + length (decimal l.rest) ≡ length (decimal l.number) + 1

abbrev pub decreases-loop-rest : goal.decreases-loop-rest
decreases-loop-rest l = l.rest

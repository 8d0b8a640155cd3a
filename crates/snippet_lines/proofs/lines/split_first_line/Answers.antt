use Rattle.snippet_lines.proofs.Common.{arith, IsCharBoundary-after_ascii}
use Rattle.snippet_lines.proofs.CursorLemmas.{IsOneLine-cut}
use Rattle.snippet_lines.proofs.lines.split_first_line.Goals as goal

pub split_at-requires : goal.split_at-requires
split_at-requires c =
    grind (arith, c.as_bytes.ensures.value, c.in-Some.at, c.in-Some.ensures.0.high, c.in-Some.ensures.1, IsCharBoundary-after_ascii, c.utf8.text)

pub returns-in-Some-clause-one_line : goal.returns-in-Some-clause-one_line
returns-in-Some-clause-one_line c =
    grind (arith, c.as_bytes.ensures.value, c.in-Some.at, c.in-Some.ensures.0.high, c.in-Some.ensures.0.before, c.split_at.ensures.front, IsOneLine-cut)

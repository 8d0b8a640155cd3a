use Rattle.snippet_lines.proofs.LinesLemmas.{IsCutOf-lines_of, lines_of-only}
use Rattle.snippet_lines.proofs.lines.CursorLines.new.Goals as goal

pub returns-clause-cut : goal.returns-clause-cut
returns-clause-cut c = IsCutOf-lines_of c.args.text.now

pub returns-clause-only : goal.returns-clause-only
returns-clause-only c = lines_of-only c.args.text.now

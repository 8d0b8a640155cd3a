use Rattle.snippet_lines.proofs.Common.{sym, ap, ◌∙◌, arith, length}
use Rattle.snippet_lines.proofs.CursorLemmas.{lines_of-first}
use Rattle.snippet_lines.proofs.lines.CursorLinesIterator.next.Goals as goal

pub returns-clause-steps : goal.returns-clause-steps
returns-clause-steps c =
    let cut = c.split_first_line.ensures in
    let line = c.without_line_end.ensures in
    sym c.self.view_is ∙ lines_of-first c.self.inside.rest.now c.split_first_line.result.0.now c.split_first_line.result.1.now c.without_line_end.result.0.now
    c.without_line_end.result.1 cut.whole cut.some cut.ends line.whole line.line line.no_end

pub returns-clause-goes : goal.returns-clause-goes
returns-clause-goes c = omega (arith, ap length (returns-clause-steps c))

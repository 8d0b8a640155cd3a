use Rattle.json_lines.proofs.Through.{ends_first}
use Rattle.json_lines.proofs.line.add_line.Goals as goal

pub returns-in-Ok-clause-ends : goal.returns-in-Ok-clause-ends
returns-in-Ok-clause-ends c = λ some. ends_first _ _ c.in-Some.ensures

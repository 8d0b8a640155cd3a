use Rattle.snippet_strokes.proofs.Common.{arith}
use Rattle.snippet_strokes.proofs.CellRowLemmas.{add_cell}
use Rattle.snippet_strokes.proofs.Common.{common_steps}
use Rattle.snippet_strokes.proofs.cell_rows.add_char.Goals as goal

pub returns : goal.returns
returns c = grind (arith, common_steps, add_cell)

use Rattle.snippet_strokes.proofs.Common.{on_ok_weaker}
use Rattle.snippet_strokes.proofs.CellRowLemmas.{row_written}
use Rattle.snippet_strokes.proofs.Common.{arith, common_steps}
use Rattle.snippet_strokes.proofs.cell_rows.CellRowsCanvas.putc.Goals as goal

pub returns : goal.returns
returns c = grind (arith, common_steps, on_ok_weaker, row_written)

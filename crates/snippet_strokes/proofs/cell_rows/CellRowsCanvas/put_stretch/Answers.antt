use Rattle.snippet_strokes.proofs.Common.{arith, on_ok_weaker}
use Rattle.snippet_strokes.proofs.CellRowLemmas.{row_written}
use Rattle.snippet_strokes.proofs.LineLemmas.{text_cells-replicate}
use Rattle.snippet_strokes.proofs.WriteLaws.{stretch_painted}
use Rattle.snippet_strokes.proofs.Common.{common_steps}
use Rattle.snippet_strokes.proofs.cell_rows.CellRowsCanvas.put_stretch.Goals as goal

pub returns : goal.returns
returns c = grind (arith, common_steps, text_cells-replicate, on_ok_weaker, stretch_painted, row_written)

use Rattle.std.proofs.lemmas.Grind.{common_steps}
use Rattle.snippet_strokes.proofs.Common.{arith, length-drop, length-map, length-take}
use Rattle.snippet_strokes.proofs.Common.{on_ok_weaker}
use Rattle.snippet_strokes.proofs.cell_rows.CellRows.append_below_source.Goals as goal

pub returns : goal.returns
returns c = grind (arith, common_steps, length-map, length-drop, length-take, on_ok_weaker)

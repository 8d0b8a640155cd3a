use Rattle.snippet_strokes.proofs.Common.{map-append, on_ok_weaker, on_ok_value}
use Rattle.snippet_strokes.proofs.CellRowLemmas.{blank_part}
use Rattle.snippet_strokes.proofs.Common.{arith, common_steps}
use Rattle.snippet_strokes.proofs.cell_rows.push_part.Goals as goal

pub returns : goal.returns
returns c = grind (arith, common_steps, on_ok_weaker, map-append, blank_part, on_ok_value)

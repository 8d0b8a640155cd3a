use Rattle.snippet_strokes.proofs.Common.{arith, map, append-nil, length-map}
use Rattle.snippet_strokes.proofs.CellRowLemmas.{written_none}
use Rattle.snippet_strokes.proofs.cell_rows.fill_up.Goals as goal

pub returns-else-len-at-clause-filled : goal.returns-else-len-at-clause-filled
returns-else-len-at-clause-filled c = grind (arith, map, length-map, written_none, append-nil, c.args.cells.now.items, c.args.at)

use Rattle.snippet_strokes.proofs.Common.{arith}
use Rattle.snippet_strokes.proofs.CellRowLemmas.{set_cell}
use Rattle.snippet_strokes.proofs.cell_rows.write_char.Goals as goal

pub returns-then-at-len : goal.returns-then-at-len
returns-then-at-len c = record { written = set_cell c.args.cells.now.items c.args.at c.args.new (omega arith) }

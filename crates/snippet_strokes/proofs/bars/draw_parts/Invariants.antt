use Rattle.snippet_strokes.proofs.Common.{◌+◌, replicate, SPACE, written, bar_cell_part}
use Rattle.snippet_strokes.proofs.BarRows.{ChangesRows}
use Rattle.snippet_strokes.proofs.bars.draw_parts.Given as goal

-- the bars are drawn down to this row
abbrev pub invariant-loop-r : goal.invariant-loop-r
invariant-loop-r l =
    let layout = l.fn.layout in
    let first = l.fn.side.first in
    ChangesRows (λ cells. written SPACE cells (layout.gutter + 2 + first.depth)
    (replicate l.fn.side.count (bar_cell_part layout l.fn.side.stroke first))) l.fn.row l.r l.initial.buffer l.buffer

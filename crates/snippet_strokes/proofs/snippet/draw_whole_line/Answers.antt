use Rattle.snippet_strokes.proofs.Common.{◌+◌, ◌∙◌, List, ap, arith, length, on_ok_weaker, shown_number, Cell, norm, changed_within, Solid, Top}
use Rattle.snippet_strokes.proofs.Common.{source_row, window_cells, highlighted_row}
use Rattle.std.proofs.Common.{chars}
use Rattle.snippet_strokes.proofs.CellLemmas.{with_parts}
use Rattle.snippet_strokes.proofs.BarLemmas.{BarsDrawn-with_parts}
use Rattle.snippet_strokes.proofs.HighlightLaws.{asking}
use Rattle.snippet_strokes.proofs.LineAdded.{row_added, whole_added}
use Rattle.snippet_strokes.proofs.SourceRowLemmas.{source_row_short}
use Rattle.snippet_strokes.proofs.snippet.draw_whole_line.Goals as goal

pub highlight_source-requires-clause-short : goal.highlight_source-requires-clause-short
highlight_source-requires-clause-short c =
    let layout = c.args.layout in
    let info = c.args.line.now.info in
    let shown = shown_number c.args.view.numbers layout.gutter info.line_index in
    let cells : List Cell = window_cells layout.decor c.args.view.margin (norm (chars info.line.now)) in
    let plain : List Cell = source_row layout shown cells in
    let topped : List Cell = with_parts layout Top c.args.beside.tops.now plain in
    let drawn = c.in_ok-row.ensures in
    omega (
      arith,
      ap length (row_added c.args.buffer.now c.draw_source_row.new.buffer _ c.in_ok-row.row drawn.row drawn.added),
      (BarsDrawn-with_parts layout Solid c.args.beside.past.now topped c.requires.beside.past_room).short,
      (BarsDrawn-with_parts layout Top c.args.beside.tops.now plain c.requires.beside.tops_room).short,
      source_row_short layout shown cells c.requires.drawable.number,
      drawn.short,
    )

pub returns : goal.returns
returns c =
    let layout = c.args.layout in
    let drawn = c.in_ok-row.ensures in
    let row = c.in_ok-row.row in
    let dropped = c.in_ok-row.dropped in
    let mid = c.draw_source_row.new.buffer in
    record {
      added = on_ok_weaker c.highlight_source.result (λ value above past_are.
          whole_added layout c.args.view above c.args.line.now.info dropped row c.args.buffer.now drawn.dropped drawn.row c.args.beside.tops.now
          c.args.beside.past.now mid c.highlight_source.new.buffer c.requires.ends past_are c.requires.whole c.requires.beside.tops_room
          c.requires.beside.past_room drawn.added
          (value ∙ ap (λ es. changed_within (highlighted_row layout.code dropped (asking es)) row (row + 1) mid) c.deref.ensures.value))
          c.highlight_source.ensures.value;
    }

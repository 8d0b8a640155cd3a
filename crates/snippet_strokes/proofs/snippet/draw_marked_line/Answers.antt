use Rattle.snippet_strokes.proofs.Common.{◌≡◌, ◌∙◌, ◌+◌, ◌++◌, ◌∷◌, [], List, ap, arith, length_push, on_ok_weaker}
use Rattle.snippet_strokes.proofs.Common.{changed_within, length-changed_within, LineAnnotation, Cell, norm, is_whole_line, own_rows}
use Rattle.snippet_strokes.proofs.Common.{highlighted_row}
use Rattle.std.proofs.Common.{chars}
use Rattle.snippet_strokes.proofs.HighlightLaws.{asking}
use Rattle.snippet_strokes.proofs.LineAdded.{marked_added, row_added}
use Rattle.snippet_strokes.proofs.SourceRowLemmas.{source_row_short}
use Rattle.snippet_strokes.proofs.Common.{common_steps}
use Rattle.snippet_strokes.proofs.snippet.draw_marked_line.Goals as goal

pub highlight_source-requires-clause-short : goal.highlight_source-requires-clause-short
highlight_source-requires-clause-short c = grind (arith, common_steps, row_added, source_row_short)

-- no row comes or goes as the source row is highlighted
pub draw_strokes-requires-clause-last : goal.draw_strokes-requires-clause-last
draw_strokes-requires-clause-last c = grind (arith, common_steps, length-changed_within, length_push)

pub returns : goal.returns
returns c =
    let layout = c.args.layout in
    let view = c.args.view in
    let info = c.args.line.now.info in
    let mid = c.draw_source_row.new.buffer in
    let high = c.highlight_source.new.buffer in
    let row = c.in_ok-row.row in
    let dropped = c.in_ok-row.dropped in
    let drawn = c.in_ok-row.ensures in
    let lit = c.in_ok-highlight_source.ensures.value
    ∙ ap (λ es. changed_within (highlighted_row layout.code dropped (asking es)) row (row + 1) mid) c.deref.ensures.value in
    let text = norm (chars info.line.now) in
    let given = c.deref-2.ensures.value in
    let done = c.draw_strokes.new.buffer in
    let own : List LineAnnotation → List Cell → List (List Cell) = λ es source.
    own_rows layout view.margin.term_width view.closes text dropped es source in
    let strokes : (above : List (List Cell)) (source : List Cell) → high ≡ above ++ source ∷ [] → done ≡ above ++ own info.annotations.items source =
    λ above source is. c.in_ok-draw_strokes.ensures.value text above source (ap (is_whole_line text) given ∙ c.requires.other) is
    ∙ ap (λ es. above ++ own es source) given in
    record {
      added = on_ok_weaker c.draw_bars.result (λ value above past_are.
          marked_added layout view above info dropped row c.args.buffer.now drawn.dropped drawn.row c.args.past.now mid high done
          c.draw_bars.new.buffer past_are drawn.added lit strokes value) c.draw_bars.ensures.value;
    }

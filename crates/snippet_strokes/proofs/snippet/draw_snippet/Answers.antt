use Rattle.std.proofs.lemmas.Grind.{common_steps}
use Rattle.snippet_strokes.proofs.Common.{◌≡◌, ◌∙◌, ◌+◌, ◌-◌, ◌++◌, take, ◌==◌, ◌&&◌, All, sym, ap, subst, arith, length}
use Rattle.snippet_strokes.proofs.Common.{drop, append-nil, drop_all, take_rest, All-nil, All-same, ShownLine, infos_of, infos_of-at, infos_of-drop}
use Rattle.snippet_strokes.proofs.Common.{infos_of-length, gap_rows, HasBarRoom, HasBarCell}
use Rattle.snippet_strokes.proofs.LineAdded.{next_added}
use Rattle.snippet_strokes.proofs.OpenLemmas.{room_below}
use Rattle.snippet_strokes.proofs.snippet.draw_snippet.Goals as goal
use Rattle.snippet_strokes.proofs.snippet.draw_snippet.Goals.{then-view, else-view}

pub loop-i-init : goal.loop-i-init
loop-i-init c = grind (arith, All-same, All-nil, c.args.layout, c.new.result.items, c.new.ensures.items, c.args.buffer.now, c.args.view, c.args.lines.now)

pub draw_line-requires-clause-room : goal.draw_line-requires-clause-room
draw_line-requires-clause-room c =
    c.loop-i.invariant.0

pub draw_gap-requires : goal.draw_gap-requires
draw_gap-requires c =
    let layout = c.args.layout in
    let line : ShownLine = c.index-lines-i.result in
    let drawable = c.requires.drawable c.loop-i.i line c.loop-i-test.true in
    let bar_cells : All (HasBarCell layout) line.info.annotations.items = subst (λ (l : ShownLine). All (HasBarCell layout) l.info.annotations.items)
    (sym c.index-lines-i.is) drawable.entries.bar_cells in
    record {
      room = All-same (HasBarRoom layout) c.deref.result.now _ (c.deref.ensures.value ∙ c.in_ok-bars.ensures.bars)
          (room_below layout c.loop-i.bars.open_bars.items line.info.annotations.items c.loop-i.invariant.0 bar_cells);
    }

pub loop-i-preserved : goal.loop-i-preserved
loop-i-preserved c =
    let layout = c.args.layout in
    let view = c.args.view in
    let lines = c.args.lines.now in
    let infos = infos_of lines in
    let i = c.loop-i.i in
    let mid = c.draw_line.new.buffer in
    let line : ShownLine = c.index-lines-i.result in
    let info = line.info in
    let at = infos_of-at lines i line c.loop-i-test.true c.index-lines-i.is in
    let count : length infos ≡ length lines = infos_of-length lines in
    let closes : c.if-view.closes ≡ (view.closes && i + 1 == length infos) =
    grind (arith, common_steps, then-view, view, i, count, lines, else-view, infos, c.if-view.branch, view.closes) in
    let rest : infos_of (take (length lines - (i + 1)) (drop (i + 1) lines)) ≡ drop (i + 1) infos = ap infos_of (take_rest lines (i + 1))
    ∙ infos_of-drop lines (i + 1) in
    let gap = c.in_ok-draw_gap.ensures.added
    ∙ ap (λ bars. mid ++ gap_rows layout bars info.line_index (infos_of (take (length lines - (i + 1)) (drop (i + 1) lines)))) c.deref.ensures.value
    ∙ ap (λ xs. mid ++ gap_rows layout c.in_ok-bars.bars.open_bars.items info.line_index xs) rest in
    let bar_cells : All (HasBarCell layout) info.annotations.items = subst (λ (l : ShownLine). All (HasBarCell layout) l.info.annotations.items)
    (sym c.index-lines-i.is) (c.requires.drawable i line c.loop-i-test.true).entries.bar_cells in (
      All-same (HasBarRoom layout) c.in_ok-bars.bars.open_bars.items _ c.in_ok-bars.ensures.bars
          (room_below layout c.loop-i.bars.open_bars.items info.annotations.items c.loop-i.invariant.0 bar_cells),
      next_added layout view infos i info c.if-view.closes c.loop-i.bars.open_bars.items c.in_ok-bars.bars.open_bars.items c.loop-i.buffer mid
          c.draw_gap.new.buffer _ at.0 at.1 closes c.in_ok-bars.ensures.bars c.in_ok-bars.ensures.added gap c.loop-i.invariant.1,
    )

-- no line is left
pub returns : goal.returns
returns c = grind (arith, common_steps, drop_all, infos_of-length, append-nil)

use Rattle.snippet_strokes.proofs.Common.{◌≡◌, ◌+◌, ◌^◌, ◌≤◌, ◌∙◌, ap, arith, length, subst, sym, on_ok_weaker, on_ok_two, flat_map}
use Rattle.snippet_strokes.proofs.Common.{separator_row, mark_of, painting_order, bare_row, line_strokes, strokes_under_marks, painted}
use Rattle.snippet_strokes.proofs.CellLemmas.{marks_of}
use Rattle.snippet_strokes.proofs.EveryMark.{every_mark, strokes_painted, under_marks_painted}
use Rattle.snippet_strokes.proofs.SplitRows.{begun_enough, begun_long, count_marks, enough_after}
use Rattle.snippet_strokes.proofs.EntryBarLaws.{marks_painted}
use Rattle.snippet_strokes.proofs.Common.{common_steps}
use Rattle.snippet_strokes.proofs.strokes.draw_few.Goals as goal

pub draw_under_marks-requires : goal.draw_under_marks-requires
draw_under_marks-requires c = grind (arith, common_steps, begun_enough)

pub draw_marks-requires : goal.draw_marks-requires
draw_marks-requires c = grind (arith, common_steps, begun_long)

pub returns : goal.returns
returns c =
    let layout = c.args.layout in
    let row = c.args.place.row in
    let placed = c.args.placed.now.items in
    let old = c.args.buffer.now in
    let sep = separator_row layout.decor layout.gutter in
    let end = bare_row layout.decor layout.gutter c.args.place.closes in
    let begun = c.begin_rows.new.buffer in
    let under = c.draw_under_marks.new.buffer in
    let new = c.draw_marks.new.buffer in
    let after = c.draw_marks.new.placed.items in
    let order = painting_order placed in
    let long = begun_long layout row c.args.count placed old begun sep end c.requires.some c.requires.last c.requires.rows c.in_ok-begin_rows.ensures.added in
    let enough = begun_enough layout row c.args.count placed old begun sep end c.requires.some c.requires.last c.requires.rows
    c.in_ok-begin_rows.ensures.added c.requires.ready c.in_ok-begin_rows.ensures.small in
    let below = c.in_ok-draw_under_marks.ensures.painted
    ∙ ap (λ ps. painted (strokes_under_marks layout row (length begun) ps) begun) c.deref.ensures.value
    ∙ under_marks_painted layout row (length begun) placed begun in
    let Drawn : Type 0 = new ≡ painted (marks_of layout (row + 1) order) under in
    let as_drawn : new ≡ painted (flat_map (mark_of layout (row + 1)) after) under → after ≡ order → Drawn = λ marks ordered.
    marks ∙ every_mark layout (row + 1) after under ∙ ap (λ ps. painted (marks_of layout (row + 1) ps) under) ordered in
    let drawn = on_ok_two c.draw_marks.result as_drawn c.draw_marks.ensures.painted c.draw_marks.ensures.order in
    record {
      order = c.draw_marks.ensures.order;
      painted = on_ok_weaker c.draw_marks.result (λ marks. marks_painted layout row (length begun) placed order begun under new below marks
          ∙ sym (strokes_painted layout row (length begun) placed order begun)
          ∙ ap (λ n. painted (line_strokes layout row n placed order) begun) long
          ∙ ap (painted (line_strokes layout row (length old + c.args.count) placed order)) c.in_ok-begin_rows.ensures.added) drawn;
      small = on_ok_weaker c.draw_marks.result (λ _. subst (λ n. n ≤ 2 ^ 60) long c.in_ok-begin_rows.ensures.small) c.draw_marks.ensures.order;
      count = on_ok_weaker c.draw_marks.result (λ marks. count_marks under new
          (enough_after begun under enough c.in_ok-draw_under_marks.ensures.count) order marks
          ∙ c.in_ok-draw_under_marks.ensures.count ∙ long) drawn;
    }

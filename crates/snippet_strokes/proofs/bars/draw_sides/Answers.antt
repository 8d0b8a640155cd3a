use Rattle.std.proofs.lemmas.Grind.{common_steps}
use Rattle.snippet_strokes.proofs.Common.{◌-◌, arith, get_or_default}
use Rattle.snippet_strokes.proofs.Common.{take_all}
use Rattle.snippet_strokes.proofs.BarRows.{changed-more, changed_same, side_drawn}
use Rattle.snippet_strokes.proofs.BarLemmas.{no_bar}
use Rattle.snippet_strokes.proofs.bars.draw_sides.Goals as goal

pub loop-from-init : goal.loop-from-init
loop-from-init c = grind (arith, changed_same, c.args.layout, c.args.stroke, c.args.row, c.args.buffer.now)

pub side_end-to-requires-clause-right : goal.side_end-to-requires-clause-right
side_end-to-requires-clause-right c =
    λ k d within. (c.requires.room k d within).0

pub draw_side-requires : goal.draw_side-requires
draw_side-requires c =
    let to = c.side_end-to in
    let last = to.result - 1 in
    let beside = to.ensures.beside last no_bar (omega (arith, to.ensures.more)) (omega (arith, to.ensures.more)) in
    let room = c.requires.room last no_bar (omega (arith, to.ensures.more, to.ensures.within)) in
    record {
      side = grind (arith, common_steps, room, beside, to, c.requires.room, c.loop-from.from, c.loop-from-test.true, beside.depth, room.1, to.ensures.more);
    }

pub loop-from-preserved : goal.loop-from-preserved
loop-from-preserved c = grind (arith, common_steps, get_or_default, changed-more, side_drawn)

pub returns : goal.returns
returns c = grind (arith, common_steps, take_all)

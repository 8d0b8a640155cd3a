use Rattle.std.proofs.Common.{◌&&◌, ◌+◌, ◌≡◌, arith, length, refl, sym, take}
use Rattle.program.specs.Inputs.{held_by}
use Rattle.redraw_run.proofs.Doing.{does_nothing}
use Rattle.redraw_run.proofs.Gone.{drawn_more, drawn_none, next_cut, these_drawn}
use Rattle.redraw_run.proofs.Named.{texts, texts_all, texts_more, texts_split}
use Rattle.redraw_run.proofs.run.draw_each.Goals as goal

pub loop-name-init : goal.loop-name-init
loop-name-init g c = drawn_none (held_by g.R.File.Read.remaining g.R.Reader.Read.remaining) _ (does_nothing _)

pub loop-name-preserved : goal.loop-name-preserved
loop-name-preserved g c =
    let names = c.args.names.now in
    let held = held_by g.R.File.Read.remaining g.R.Reader.Read.remaining in
    these_drawn held _ (texts (take (c.loop-name.name-index + 1) names)) (c.in_ok-is_known.is_known && c.loop-name.is_whole) c.both-is_whole.result _ _
    (sym (texts_more names c.loop-name.name-index _ (omega (arith, c.loop-name-test.true)))) (sym c.both-is_whole.ensures.value)
    (drawn_more held (texts (take c.loop-name.name-index names)) _ c.loop-name.is_whole c.in_ok-is_known.is_known _ _ _ c.loop-name.invariant
    c.in_ok-is_known.ensures.drawn)

pub returns-in_err-is_known-clause-cut : goal.returns-in_err-is_known-clause-cut
returns-in_err-is_known-clause-cut g c =
    let names = c.args.names.now in
    let (after, split) = texts_split names c.loop-name.name-index _ (omega (arith, c.loop-name-test.true)) in
    let held = held_by g.R.File.Read.remaining g.R.Reader.Read.remaining in
    next_cut held (texts (take c.loop-name.name-index names)) _ after (texts names) c.loop-name.is_whole c.from_residual.result _ _ _ split
    c.loop-name.invariant c.in_err-is_known.ensures.cut

pub returns-clause-drawn : goal.returns-clause-drawn
returns-clause-drawn g c =
    let all : c.loop-name.name-index ≡ length c.args.names.now = omega arith in
    let held = held_by g.R.File.Read.remaining g.R.Reader.Read.remaining in
    these_drawn held _ _ c.loop-name.is_whole c.loop-name.is_whole _ _ (texts_all c.args.names.now c.loop-name.name-index all) refl c.loop-name.invariant

use Rattle.program.specs.Inputs.{held_by, source_in}
use Rattle.redraw_run.proofs.Gone.{named_cut, named_drawn}
use Rattle.redraw_run.proofs.run.draw_named.Goals as goal

pub returns-clause-drawn : goal.returns-clause-drawn
returns-clause-drawn g c =
    named_drawn _ (held_by g.R.File.Read.remaining g.R.Reader.Read.remaining) source_in c.args.name.now c.opened.result c.draw_opened.result _ _
    c.opened.ensures.named c.opened.ensures.bytes c.draw_opened.ensures.drawn

pub returns-clause-cut : goal.returns-clause-cut
returns-clause-cut g c =
    named_cut _ (held_by g.R.File.Read.remaining g.R.Reader.Read.remaining) source_in c.args.name.now c.opened.result c.draw_opened.result _ _
    c.opened.ensures.named c.opened.ensures.bytes c.draw_opened.ensures.cut

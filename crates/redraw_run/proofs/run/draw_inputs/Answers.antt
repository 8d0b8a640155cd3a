use Rattle.program.specs.Inputs.{held_by}
use Rattle.redraw_run.proofs.Gone.{all_cut, all_named}
use Rattle.redraw_run.proofs.run.draw_inputs.Goals as goal

pub returns-clause-drawn : goal.returns-clause-drawn
returns-clause-drawn g c =
    all_named (held_by g.R.File.Read.remaining g.R.Reader.Read.remaining) _ _ c.draw_each.result _ _ c.asked_names.ensures.value c.draw_each.ensures.drawn

pub returns-clause-cut : goal.returns-clause-cut
returns-clause-cut g c =
    all_cut (held_by g.R.File.Read.remaining g.R.Reader.Read.remaining) _ _ c.draw_each.result _ _ c.asked_names.ensures.value c.draw_each.ensures.cut

use Rattle.redraw_tools.proofs.GoingOn.{going-none}
use Rattle.redraw_tools.proofs.flow.add_step_at.Goals as goal

pub returns-in-None-clause-kept : goal.returns-in-None-clause-kept
returns-in-None-clause-kept c = going-none c.args.told.now.spans.items

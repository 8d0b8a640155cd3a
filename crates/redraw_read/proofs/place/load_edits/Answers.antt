use Rattle.std.proofs.Common.{[]}
use Rattle.redraw_read.specs.Loaded.{files_in}
use Rattle.redraw_read.proofs.Loading.{loads_none, loads_steps}
use Rattle.redraw_read.proofs.place.load_edits.Goals as goal

pub loop-edits-init : goal.loop-edits-init
loop-edits-init g c = loads_none _ _ _

pub loop-edits-preserved : goal.loop-edits-preserved
loop-edits-preserved g c =
    loads_steps [] files_in c.args.alternatives.now c.loop-edits.edits-index c.edits-item.result c.loop-edits-test.true c.edits-item.is
    c.loop-edits.invariant c.in_ok-load_edited.ensures.loads

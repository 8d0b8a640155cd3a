use Rattle.std.proofs.Common.{ap, append-nil, refl, sym, ◌∙◌}
use Rattle.redraw_read.specs.Loaded.{child_files, files_of}
use Rattle.redraw_read.specs.Placed.{home_of}
use Rattle.redraw_read.proofs.Loading.{loads_named, loads_steps}
use Rattle.redraw_read.proofs.place.load_files.Goals as goal

pub loop-child-init : goal.loop-child-init
loop-child-init g c =
    loads_named c.in_ok-load_spans.ensures.loads (ap home_of c.deref.ensures.value) (ap files_of c.deref-2.ensures.value ∙ sym (append-nil _))

pub loop-child-preserved : goal.loop-child-preserved
loop-child-preserved g c =
    loads_steps (files_of c.args.diagnostic.now.spans.items) child_files c.deref-child-items.result.now c.loop-child.child-index c.child-item.result
    c.loop-child-test.true c.child-item.is c.loop-child.invariant
    (loads_named c.in_ok-load_child.ensures.loads (ap home_of c.deref-in-loop-child.ensures.value) refl)

use Rattle.std.proofs.Common.{string_bytes}
use Rattle.redraw_report.specs.declared.diagnostic.SuggestedEdit.{SuggestedEdit}
use Rattle.redraw_read.proofs.Loading.{loads_none, loads_step}
use Rattle.redraw_read.proofs.place.load_edited.Goals as goal

pub loop-edit-init : goal.loop-edit-init
loop-edit-init g c = loads_none _ _ _

pub loop-edit-preserved : goal.loop-edit-preserved
loop-edit-preserved g c =
    loads_step (λ (e : SuggestedEdit). string_bytes e.file) c.deref-edit-items.result.now c.loop-edit.edit-index c.edit-item.result c.as_str.result.now
    c.loop-edit-test.true c.edit-item.is c.as_str.ensures.value c.loop-edit.invariant c.in_ok-load.ensures.loads

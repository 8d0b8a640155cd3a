use Rattle.std.proofs.Common.{string_bytes}
use Rattle.redraw_report.specs.declared.diagnostic.FileSpan.{FileSpan}
use Rattle.redraw_read.proofs.Loading.{loads_none, loads_step}
use Rattle.redraw_read.proofs.place.load_spans.Goals as goal

pub loop-span-init : goal.loop-span-init
loop-span-init g c = loads_none _ _ _

pub loop-span-preserved : goal.loop-span-preserved
loop-span-preserved g c =
    loads_step (λ (s : FileSpan). string_bytes s.file) c.args.spans.now c.loop-span.span-index c.span-item.result c.as_str.result.now
    c.loop-span-test.true c.span-item.is c.as_str.ensures.value c.loop-span.invariant c.in_ok-load.ensures.loads

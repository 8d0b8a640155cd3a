use Rattle.std.proofs.Common.{set, get_or, ap, ◌∙◌, arith}
use Rattle.redraw_tools.specs.Primary.{by_caret}
use Rattle.redraw_tools.proofs.ListLemmas.{changed-more}
use Rattle.redraw_tools.proofs.primary.mark_carets.Goals as goal

pub loop-span-preserved : goal.loop-span-preserved
loop-span-preserved c =
    let spans = c.loop-span.spans in
    let index = c.loop-span.span-index in
    let here = get_or spans index c.span-item.result in
    ap (λ chosen. set spans index record here { is_primary = chosen }) c.is_caret-span.ensures.value
    ∙ changed-more by_caret c.args.spans.now spans index c.span-item.result c.loop-span.invariant (omega arith)

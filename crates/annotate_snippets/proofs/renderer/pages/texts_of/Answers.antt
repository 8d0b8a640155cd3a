use Rattle.std.proofs.Common.{arith}
use Rattle.annotate_snippets.proofs.Common.{◌∙◌, ap, map, sym, YieldsList-from_vec, YieldsList-end, map-append, map-id, SheetPage}
use Rattle.annotate_snippets.proofs.renderer.pages.texts_of.Goals as goal

pub loop-page-preserved : goal.loop-page-preserved
loop-page-preserved c = grind (arith, map-append, c.in_ok-push.ensures.items, c.in-Some.page.text, c.loop-page.invariant, c.loop-page.yielded, c.in-Some.page)

pub returns : goal.returns
returns c =
    let end = YieldsList-end (YieldsList-from_vec c.args.pages.items (cc) (cc)) c.loop-page.yielded c.loop-page.page-iterator
    c.loop-page.yielded_by c.next.result c.next.new.self c.in-None.is c.next.ensures.steps in
    record { value = c.loop-page.invariant ∙ ap (map (λ (page : SheetPage). page.text)) (sym (map-id c.loop-page.yielded) ∙ end.0) }

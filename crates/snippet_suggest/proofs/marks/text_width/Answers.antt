use Rattle.snippet_suggest.proofs.Common.{◌∙◌, ap, sym, YieldsList-from_chars, YieldsList-end, map-id, width_of, capped}
use Rattle.snippet_suggest.proofs.marks.text_width.Goals as goal

pub returns : goal.returns
returns c =
    let all = YieldsList-end (YieldsList-from_chars c.args.text.now c.utf8.text cc) c.loop-c.yielded _ c.loop-c.yielded_by _ _ c.in-None.is
    c.next.ensures.steps in
    record { value = c.loop-c.invariant ∙ ap (λ cs. capped (width_of cs)) (sym (map-id _) ∙ all.0) }

use Rattle.std.proofs.Common.{◌∙◌, Some, ap, sym, unwrap_or}
use Rattle.serde_json.specs.View.{view}
use Rattle.redraw_read.proofs.Around.{outermost_next}
use Rattle.redraw_read.proofs.expansion.+outermost.Goals as goal

pub returns-in-Some : goal.returns-in-Some
returns-in-Some t c =
    let e = view c.in_ok-expansion.expansion.now in
    let next = outermost_next c.args.most (view c.args.span.now) e (view c.in_ok-call.call.now) c.if-most-eq0.false
    (sym c.in_ok-expansion.ensures.value) (sym c.in_ok-call.ensures) in
    record { value = sym (next ∙ ap (λ o. Some (unwrap_or o e)) (sym c.in-Some.ensures.value)) }

pub returns-in-None : goal.returns-in-None
returns-in-None t c =
    let e = view c.in_ok-expansion.expansion.now in
    let next = outermost_next c.args.most (view c.args.span.now) e (view c.in_ok-call.call.now) c.if-most-eq0.false
    (sym c.in_ok-expansion.ensures.value) (sym c.in_ok-call.ensures) in
    record { value = sym (next ∙ ap (λ o. Some (unwrap_or o e)) (sym c.in-None.ensures.value)) }

use Rattle.std.proofs.Common.{◌<◌, List, ap, get_or, length, option_map, string_bytes, sym, subst}
use Rattle.redraw_report.specs.declared.diagnostic.FileSpan.{FileSpan}
use Rattle.redraw_tools.specs.Places.{GoesOn, SaysNoMore, span_view}
use Rattle.redraw_tools.proofs.GoingOn.{going-changed, going-pushed, still-unsaid}
use Rattle.redraw_tools.proofs.flow.mark_step.Goals as goal

pub returns-in-Some : goal.returns-in-Some
returns-in-Some c =
    let within = subst (λ (xs : List FileSpan). c.in-Some.at < length xs) c.deref.ensures.value c.in-Some.ensures.within in
    let spans = c.args.spans.now.items in
    let span = c.index_mut.result.now in
    let same = subst (λ (xs : List FileSpan). SaysNoMore (get_or xs c.in-Some.at span) (option_map string_bytes c.args.message)) c.deref.ensures.value
    (c.in-Some.ensures.same span) in
    let says = still-unsaid (get_or spans c.in-Some.at span).label _ _ same c.requires.label in
    record { kept = going-changed spans c.in-Some.at _ span within (ap span_view c.index_mut.ensures.value, says) }

pub returns-in_ok-push-in-None : goal.returns-in_ok-push-in-None
returns-in_ok-push-in-None c =
    record { kept = subst (GoesOn c.args.spans.now.items) (sym c.in_ok-push-in-None.ensures.items) (going-pushed c.args.spans.now.items _) }

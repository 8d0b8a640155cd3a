use Rattle.snippet_parts.proofs.Common.{◌++◌, ◌∷◌, [], List, sym, subst, arith, common_steps, All-append}
use Rattle.snippet_parts.proofs.Common.{All-cons, All-nil, LocatedSpan, IsLocated}
use Rattle.std.proofs.Common.{All}
use Rattle.snippet_parts.proofs.located.located_spans.Goals as goal

pub loop-annotation-preserved : goal.loop-annotation-preserved
loop-annotation-preserved c =
    let P : LocatedSpan → Type 0 = IsLocated c.args.source.now in
    let all : All P (c.loop-annotation.located.items ++ c.located_span.result ∷ []) = All-append P c.loop-annotation.located.items
    (c.located_span.result ∷ []) c.loop-annotation.invariant.1 (All-cons P c.located_span.result [] c.located_span.ensures.located (All-nil P)) in
    (grind (arith, common_steps), subst (All P) (sym {A = List LocatedSpan} c.in_ok-push.ensures.items) all, c.located_span.ensures.known)

use Rattle.std.proofs.lemmas.Grind.{common_steps}
use Rattle.snippet_text_form.proofs.Common.{All, sym, subst, nil_from_length, take_all, All-tail, on_ok_weaker, IsSpan, NamedSpan, arith}
use Rattle.std.specs.Str.{chars}
use Rattle.snippet_text_form.proofs.CauseLemmas.{no_span-added, spans-added}
use Rattle.snippet_text_form.proofs.cause.add_spans.Goals as goal

pub returns-in_default : goal.returns-in_default
unfolding chars
returns-in_default c = grind (arith, common_steps, on_ok_weaker, no_span-added, nil_from_length)

pub add_further_span-requires : goal.add_further_span-requires
add_further_span-requires c =
    let P : NamedSpan → Type 0 = λ s. IsSpan c.args.source.now.text s.annotation.now.span.start s.annotation.now.span.end in
    let rest : All P c.in-Some.others.now = All-tail P c.in-Some.first.now c.in-Some.others.now (subst (All P) c.in-Some.ensures.cases.0 c.requires.spans) in
    record { finder = c.loop-span.invariant.finder; span = subst P (sym c.span-item.is) (rest c.loop-span.span-index c.span-item.result c.loop-span-test.true) }

pub returns : goal.returns
unfolding chars
returns c = grind (arith, common_steps, take_all, spans-added)

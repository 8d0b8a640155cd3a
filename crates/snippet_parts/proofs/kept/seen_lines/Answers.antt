use Rattle.snippet_parts.proofs.Common.{length, refl, ◌∙◌, list_any, IfOk-weaker, source_lines, LocatedSpan, is_seen}
use Rattle.snippet_parts.proofs.KeptLemmas.{filter-cut, held-all, unseen}
use Rattle.snippet_parts.proofs.kept.seen_lines.Goals as goal

pub returns : goal.returns
returns c =
    let text = c.args.source.now.text in
    record {
      value = IfOk-weaker c.held_lines.result _ _
          (λ lines is. is ∙ held-all (λ k (x : LocatedSpan). is_seen text k x.annotation.now)
          (λ k. list_any (λ (x : LocatedSpan). is_seen text k x.annotation.now) c.args.located.now) c.args.located.now
          c.loop-span.span-index c.most_lines.result c.loop-span.stretches.items c.loop-span-test.false c.loop-span.invariant
          (λ k. refl)
          ∙ filter-cut (λ k. list_any (λ (x : LocatedSpan). is_seen text k x.annotation.now) c.args.located.now) (length (source_lines text))
          c.most_lines.result c.most_lines.ensures.enough (λ k after. unseen text k (λ (x : LocatedSpan). x.annotation.now) c.args.located.now after))
          c.held_lines.ensures.value;
    }

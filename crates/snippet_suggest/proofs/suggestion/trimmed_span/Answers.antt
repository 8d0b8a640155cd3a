use Rattle.snippet_suggest.proofs.Common.{◌-◌, ◌∙◌, arith, length, common_steps}
use Rattle.snippet_suggest.proofs.ReachLemmas.{first_begin, last_end, least_begin, only_end}
use Rattle.snippet_suggest.proofs.SpanLemmas.{joined_span, whole_span}
use Rattle.snippet_suggest.proofs.suggestion.trimmed_span.Goals as goal

pub returns-in-empty-clause-span : goal.returns-in-empty-clause-span
returns-in-empty-clause-span c =
    whole_span c.args.source.now.text c.source.result.now c.source.utf8 c.source.ensures.value

pub returns-in-len1-clause-end : goal.returns-in-len1-clause-end
returns-in-len1-clause-end c = grind (arith, common_steps, only_end)

pub returns-in-len1-clause-start : goal.returns-in-len1-clause-start
returns-in-len1-clause-start c = λ some apart. first_begin c.args.patches.now _ some

pub returns-in-len2-up : goal.returns-in-len2-up
returns-in-len2-up c = record {
  span = joined_span c.args.source.now.text _ _ _ _ c.min.result c.min.ensures (c.requires.spans 0 _ (omega arith))
      (c.requires.spans (length c.args.patches.now - 1) _ (omega arith));
  end = λ some apart. last_end 0 c.args.patches.now _ some;
  start = λ some apart. c.min.ensures ∙ least_begin c.args.patches.now _ some apart;
}

use Rattle.snippet_splice.proofs.Common.{None, sym, ◌∙◌, lit<, strip_suffix_char}
use Rattle.snippet_splice.proofs.WriteLemmas.{utf8-front, without_final-push, without_final-stays, front-shorter}
use Rattle.snippet_splice.proofs.Common.{arith, common_steps}
use Rattle.snippet_splice.proofs.splice.without_final_line_feeds.Goals as goal

pub loop-front-preserved : goal.loop-front-preserved
loop-front-preserved c = grind (arith, common_steps, strip_suffix_char, utf8-front, without_final-push, front-shorter)

pub returns-clause-value : goal.returns-clause-value
returns-clause-value c =
    let open_end = strip_suffix_char 10 c.loop-front.rest.now None c.in_default.ensures.cases (lit< tt) in
    sym (without_final-stays c.loop-front.rest.now open_end) ∙ c.loop-front.invariant.1

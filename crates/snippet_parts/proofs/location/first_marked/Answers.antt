use Rattle.snippet_parts.proofs.Common.{sym, ◌∙◌, Annotation, is_marking}
use Rattle.snippet_parts.proofs.LocationLemmas.{start-more, start-same}
use Rattle.snippet_parts.proofs.location.first_marked.Goals as goal
use Rattle.snippet_parts.proofs.location.first_marked.Goals.{then-is_marking, else-is_marking}

pub loop-annotation-preserved : goal.loop-annotation-preserved
loop-annotation-preserved c =
    elim c.if-is_marking.branch [
      | then-is_marking w ↦ w.least-is ∙ w.lesser-least.ensures.value
          ∙ start-more (λ (a : Annotation). is_marking a.kind)
          c.args.annotations.now c.loop-annotation.annotation-index c.annotation-item.result c.loop-annotation.least c.loop-annotation-test.true
          c.annotation-item.is (sym c.is_marking.ensures.value ∙ w.if-is_marking.true) c.loop-annotation.invariant
      | else-is_marking w ↦ w.least-is ∙ start-same (λ (a : Annotation). is_marking a.kind)
          c.args.annotations.now c.loop-annotation.annotation-index c.annotation-item.result c.loop-annotation.least c.loop-annotation-test.true
          c.annotation-item.is (sym c.is_marking.ensures.value ∙ w.if-is_marking.false) c.loop-annotation.invariant
    ]

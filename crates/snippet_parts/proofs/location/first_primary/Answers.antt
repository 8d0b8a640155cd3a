use Rattle.snippet_parts.proofs.Common.{◌≡◌, Bool, refl, sym, ◌∙◌, the_type, Annotation, AnnotationKind, Primary, Context, Visible, is_primary}
use denote.Enum.Bare.{sameb}
use Rattle.snippet_parts.proofs.LocationLemmas.{start-more, start-same}
use Rattle.snippet_parts.proofs.location.first_primary.Goals as goal
use Rattle.snippet_parts.proofs.location.first_primary.Goals.{then-eq, else-eq}

-- the comparison is the test
same-kind : (kind : AnnotationKind) → sameb the_type kind Primary ≡ is_primary kind
same-kind Primary = refl
same-kind Context = refl
same-kind Visible = refl

tested : (kind : AnnotationKind) (b : Bool) → b ≡ sameb the_type kind Primary → is_primary kind ≡ b
tested kind b is = sym (is ∙ same-kind kind)

pub loop-annotation-preserved : goal.loop-annotation-preserved
loop-annotation-preserved c =
    let is = tested _ c.eq.result c.eq.ensures in
    elim c.if-eq.branch [
      | then-eq w ↦ w.least-is ∙ w.lesser-least.ensures.value
          ∙ start-more (λ (a : Annotation). is_primary a.kind)
          c.args.annotations.now c.loop-annotation.annotation-index c.annotation-item.result c.loop-annotation.least c.loop-annotation-test.true
          c.annotation-item.is (is ∙ w.if-eq.true) c.loop-annotation.invariant
      | else-eq w ↦ w.least-is ∙ start-same (λ (a : Annotation). is_primary a.kind) c.args.annotations.now c.loop-annotation.annotation-index
          c.annotation-item.result c.loop-annotation.least c.loop-annotation-test.true c.annotation-item.is (is ∙ w.if-eq.false) c.loop-annotation.invariant
    ]

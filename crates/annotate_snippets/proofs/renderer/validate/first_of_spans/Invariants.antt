-- No marker so far has a fault.
use Rattle.annotate_snippets.proofs.Common.{◌≡◌, drop, faults_from, span_faults}
use Rattle.annotate_snippets.proofs.renderer.validate.first_of_spans.Given as goal

abbrev pub invariant-loop-number : goal.invariant-loop-number
invariant-loop-number g l =
    faults_from (λ n m. span_faults l.group l.element l.source n (g.T.Marker.span_of m)) 0 l.markers
    ≡ faults_from (λ n m. span_faults l.group l.element l.source n (g.T.Marker.span_of m)) l.number (drop l.number l.markers)

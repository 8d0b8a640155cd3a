-- No later element so far is drawn.
use Rattle.annotate_snippets.proofs.Common.{◌≡◌, ◌∷◌, drop, filter, first_two_share, is_drawn}
use Rattle.annotate_snippets.proofs.renderer.text_form.is_followed.Given as goal

abbrev pub invariant-loop-other : goal.invariant-loop-other
invariant-loop-other l =
    first_two_share (l.element ∷ filter is_drawn l.later) ≡ first_two_share (l.element ∷ filter is_drawn (drop l.other-index l.later))

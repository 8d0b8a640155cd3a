-- No element so far has a fault.
use Rattle.annotate_snippets.proofs.Common.{◌≡◌, drop, faults_from, element_faults}
use Rattle.annotate_snippets.proofs.renderer.validate.first_of_elements.Given as goal

abbrev pub invariant-loop-number : goal.invariant-loop-number
invariant-loop-number l =
    faults_from (element_faults l.group) 0 l.elements ≡ faults_from (element_faults l.group) l.number (drop l.number l.elements)

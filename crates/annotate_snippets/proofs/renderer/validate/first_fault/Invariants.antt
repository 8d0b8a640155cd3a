-- No group so far has a fault.
use Rattle.annotate_snippets.proofs.Common.{◌≡◌, drop, faults_from, group_faults}
use Rattle.annotate_snippets.proofs.renderer.validate.first_fault.Given as goal

abbrev pub invariant-loop-number : goal.invariant-loop-number
invariant-loop-number l =
    faults_from group_faults 0 l.groups ≡ faults_from group_faults l.number (drop l.number l.groups)

use Rattle.snippet_shown.proofs.Common.{AllZip}
use Rattle.snippet_shown.proofs.remake.elements_remade.Given as goal

abbrev pub invariant-loop-element : goal.invariant-loop-element
invariant-loop-element g l = AllZip (g.R.Remake.makes_element l.how) l.yielded l.made.items

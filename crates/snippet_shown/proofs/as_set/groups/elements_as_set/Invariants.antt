use Rattle.snippet_shown.proofs.Common.{take, AllZip, IsElementAsSet}
use Rattle.snippet_shown.proofs.as_set.groups.elements_as_set.Given as goal

abbrev pub invariant-loop-element : goal.invariant-loop-element
invariant-loop-element l = AllZip (IsElementAsSet l.feeds) (take l.element-index l.elements) l.set.items

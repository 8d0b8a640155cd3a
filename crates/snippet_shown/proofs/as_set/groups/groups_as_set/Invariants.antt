use Rattle.snippet_shown.proofs.Common.{take, AllZip, IsGroupAsSet}
use Rattle.snippet_shown.proofs.as_set.groups.groups_as_set.Given as goal

abbrev pub invariant-loop-group : goal.invariant-loop-group
invariant-loop-group l = AllZip (IsGroupAsSet l.feeds) (take l.group-index l.groups) l.set.items

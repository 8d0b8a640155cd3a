use Rattle.snippet_shown.proofs.Common.{AllZip, IsGroupMade}
use Rattle.snippet_shown.proofs.remake.groups_remade.Given as goal

abbrev pub invariant-loop-group : goal.invariant-loop-group
invariant-loop-group g l = AllZip (IsGroupMade (g.R.Remake.makes_title l.how) (g.R.Remake.makes_element l.how)) l.yielded l.made.items

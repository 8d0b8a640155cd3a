-- The width so far is the greatest that the elements of the groups so far want.
use Rattle.annotate_snippets.proofs.Common.{◌≡◌, ◌≤◌, fold, take, flat_map, width_wanted}
use Rattle.annotate_snippets.proofs.WidestLemmas.{elements_in, greater}
use Rattle.annotate_snippets.proofs.renderer.gutter.gutter_of.Given as goal

abbrev pub invariant-loop-group : goal.invariant-loop-group
invariant-loop-group l = record {
  value : l.gutter ≡ fold (greater width_wanted) 0 (flat_map elements_in (take l.group-index l.groups));
  small : l.gutter ≤ 20;
}

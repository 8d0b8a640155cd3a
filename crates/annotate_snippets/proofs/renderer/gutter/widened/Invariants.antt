-- The width so far is the greatest that the elements so far want.
use Rattle.annotate_snippets.proofs.Common.{◌≡◌, ◌≤◌, fold, map, take, width_wanted, element_of}
use Rattle.annotate_snippets.proofs.WidestLemmas.{greater}
use Rattle.annotate_snippets.proofs.renderer.gutter.widened.Given as goal

abbrev pub invariant-loop-element : goal.invariant-loop-element
invariant-loop-element l = record {
  value : l.widest ≡ fold (greater width_wanted) l.gutter (map element_of (take l.element-index l.elements));
  small : l.widest ≤ 20;
}

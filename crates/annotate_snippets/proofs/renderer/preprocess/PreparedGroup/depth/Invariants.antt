-- The depth so far is the greatest of those of the elements so far.
use Rattle.annotate_snippets.proofs.Common.{◌≡◌, ◌<◌, ◌^◌, fold, map, take, depth_of_element, element_of}
use Rattle.annotate_snippets.proofs.WidestLemmas.{greater}
use Rattle.annotate_snippets.proofs.renderer.preprocess.PreparedGroup.depth.Given as goal

abbrev pub invariant-loop-element : goal.invariant-loop-element
invariant-loop-element l = record {
  value : l.depth ≡ fold (greater depth_of_element) 0 (map element_of (take l.element-index l.element-items));
  small : l.depth < 2 ^ 63;
}

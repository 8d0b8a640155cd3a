-- No element so far is of a file.
use Rattle.annotate_snippets.proofs.Common.{◌≡◌, drop, filter_map, file_of_element}
use Rattle.annotate_snippets.proofs.renderer.paths.primary_path.Given as goal

abbrev pub invariant-loop-element : goal.invariant-loop-element
invariant-loop-element l =
    filter_map file_of_element l.element-items ≡ filter_map file_of_element (drop l.element-index l.element-items)

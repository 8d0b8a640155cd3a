-- The elements so far are drawn, and the walk has come to the first of those that are left.
use Rattle.annotate_snippets.proofs.Common.{map, ℕ, option_copied, element_of}
use Rattle.annotate_snippets.proofs.ElementRows.{AreLeft, DrawnSoFar}
use Rattle.std.proofs.Common.{deque_len}
use Rattle.annotate_snippets.proofs.renderer.elements.draw_elements.Given as goal

abbrev pub invariant-loop-element : goal.invariant-loop-element
invariant-loop-element l = record {
  passed : ℕ;
  left : AreLeft l.fn.elements.items passed l.left.items l.walk;
  drawn : DrawnSoFar l.fn.renderer l.fn.group.layout l.fn.group.place (option_copied l.fn.group.file) (map element_of l.fn.elements.items)
      passed l.fn.buffer l.buffer;
}

abbrev pub decreases-loop-element : goal.decreases-loop-element
decreases-loop-element l = deque_len l.left

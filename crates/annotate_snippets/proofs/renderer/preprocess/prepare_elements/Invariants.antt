-- Those of the elements so far that are drawn are prepared.
use Rattle.annotate_snippets.proofs.Common.{take}
use Rattle.annotate_snippets.proofs.PreparedLemmas.{AreDrawnPrepared}
use Rattle.annotate_snippets.proofs.renderer.preprocess.prepare_elements.Given as goal

abbrev pub invariant-loop-element : goal.invariant-loop-element
invariant-loop-element l = AreDrawnPrepared (take l.element-index l.elements) l.prepared.items

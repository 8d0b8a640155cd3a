-- The groups so far are prepared.
use Rattle.annotate_snippets.proofs.Common.{take}
use Rattle.annotate_snippets.proofs.PreparedLemmas.{ArePrepared}
use Rattle.annotate_snippets.proofs.renderer.preprocess.prepare_groups.Given as goal

abbrev pub invariant-loop-group : goal.invariant-loop-group
invariant-loop-group l = ArePrepared (take l.group-index l.groups) l.prepared.items

use Rattle.std.proofs.lemmas.Grind.{common_steps}
use Rattle.std.proofs.Common.{arith}
use Rattle.annotate_snippets.proofs.Common.{slice_get-map}
use Rattle.annotate_snippets.proofs.renderer.element_context.next_of.Goals as goal

pub returns : goal.returns
returns c = grind (arith, common_steps, slice_get-map, c.args.elements.now, c.following.ensures.value, c.first.ensures.value)

use Rattle.annotate_snippets.proofs.Common.{arith}
use Rattle.annotate_snippets.proofs.PartsFacts.{deepest_few}
use Rattle.annotate_snippets.proofs.renderer.preprocess.PreparedElement.depth.Goals as goal

pub returns-in-Cause-clause-small : goal.returns-in-Cause-clause-small
returns-in-Cause-clause-small c = grind (arith, deepest_few, c.in-Cause.is, c.requires.prepared, c.in-Cause.cause.snippet.now)

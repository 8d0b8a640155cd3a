use Rattle.std.proofs.Common.{arith}
use Rattle.annotate_snippets.proofs.renderer.Renderer.gutter_for.Goals as goal

pub returns-clause-value : goal.returns-clause-value
returns-clause-value c = grind (arith, c.args.self.now, c.gutter_of.ensures.value, c.deref.ensures.value, c.in_ok-prepared.ensures.groups)

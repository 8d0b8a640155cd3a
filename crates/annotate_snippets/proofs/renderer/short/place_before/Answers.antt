use Rattle.annotate_snippets.proofs.Common.{arith, chars-nil}
use Rattle.annotate_snippets.proofs.renderer.short.place_before.Goals as goal

pub returns-in-None : goal.returns-in-None
returns-in-None c = grind (arith, chars-nil, c.new.ensures.bytes, c.args.renderer.now, c.in-None.is)

use Rattle.std.proofs.Common.{arith}
use Rattle.annotate_snippets.proofs.Common.{length-starts_from}
use Rattle.annotate_snippets.proofs.renderer.validate.line_count.Goals as goal

pub returns-in-Some : goal.returns-in-Some
returns-in-Some c = grind (arith, length-starts_from, c.in-Some.ensures.value, c.args.source.now.text)

use Rattle.std.proofs.Common.{arith}
use Rattle.annotate_snippets.proofs.Common.{take_all}
use Rattle.annotate_snippets.proofs.renderer.text_form.text_form.Goals as goal

pub returns : goal.returns
returns c = grind (arith, take_all, c.args.renderer.now, c.args.groups.now, c.loop-group.invariant, c.loop-group.group-index, c.loop-group-test.false)

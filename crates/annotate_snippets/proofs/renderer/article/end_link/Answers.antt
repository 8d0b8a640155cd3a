use Rattle.std.proofs.lemmas.Grind.{common_steps}
use Rattle.std.proofs.Common.{arith}
use Rattle.annotate_snippets.proofs.Common.{on_ok_weaker, on_ok_value}
use Rattle.annotate_snippets.proofs.renderer.article.end_link.Goals as goal

pub returns : goal.returns
returns c = grind (arith, common_steps, on_ok_weaker, on_ok_value, c.push_str.result, c.args.out.now, c.push_str.ensures.bytes)

use Rattle.std.proofs.lemmas.Grind.{common_steps}
use Rattle.annotate_snippets.proofs.Common.{on_ok_weaker, on_ok_value, arith}
use Rattle.annotate_snippets.proofs.ArticleLemmas.{bytes-added}
use Rattle.annotate_snippets.proofs.renderer.article.push_heading.Goals as goal

pub returns : goal.returns
returns c = grind (arith, common_steps, on_ok_weaker, bytes-added, on_ok_value)

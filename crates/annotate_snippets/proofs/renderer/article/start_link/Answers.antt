use Rattle.std.proofs.lemmas.Grind.{common_steps}
use Rattle.annotate_snippets.proofs.Common.{on_ok_weaker, on_ok_value, arith}
use Rattle.annotate_snippets.proofs.ArticleLemmas.{link-started}
use Rattle.annotate_snippets.proofs.renderer.article.start_link.Goals as goal

pub returns : goal.returns
returns c = grind (arith, common_steps, on_ok_weaker, link-started, on_ok_value)

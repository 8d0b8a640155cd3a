use Rattle.std.proofs.lemmas.Grind.{common_steps}
use Rattle.annotate_snippets.proofs.Common.{on_ok_weaker, arith}
use Rattle.annotate_snippets.proofs.ArticleLemmas.{four-added}
use Rattle.annotate_snippets.proofs.renderer.article.push_title.Goals as goal

pub returns : goal.returns
returns c = grind (arith, common_steps, on_ok_weaker, four-added)

use Rattle.std.proofs.lemmas.Grind.{common_steps}
use Rattle.annotate_snippets.proofs.Common.{on_ok_weaker, arith}
use Rattle.annotate_snippets.proofs.ArticleLemmas.{id-some, three-added}
use Rattle.annotate_snippets.proofs.renderer.article.push_id.Goals as goal

pub returns : goal.returns
returns c = grind (arith, common_steps, id-some, on_ok_weaker, three-added)

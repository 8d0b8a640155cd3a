use Rattle.std.proofs.lemmas.Grind.{common_steps}
use Rattle.annotate_snippets.proofs.Common.{arith}
use Rattle.annotate_snippets.proofs.MarkdownLemmas.{bold-added}
use Rattle.annotate_snippets.proofs.renderer.markdown.push_title.Goals as goal

pub returns : goal.returns
returns c = grind (arith, common_steps, bold-added)

use Rattle.std.proofs.lemmas.Grind.{common_steps}
use Rattle.annotate_snippets.proofs.Common.{encode_utf8_all, arith}
use Rattle.annotate_snippets.proofs.MarkdownLemmas.{linked-added}
use Rattle.annotate_snippets.proofs.renderer.markdown.push_linked.Goals as goal

pub returns : goal.returns
returns c = grind (arith, common_steps, linked-added, encode_utf8_all)

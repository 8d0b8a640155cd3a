use Rattle.std.proofs.lemmas.Grind.{common_steps}
use Rattle.annotate_snippets.proofs.Common.{encode_utf8_all, on_ok_weaker, arith}
use Rattle.annotate_snippets.proofs.MarkdownLemmas.{id-added, id-some}
use Rattle.annotate_snippets.proofs.renderer.markdown.push_id.Goals as goal

pub returns : goal.returns
returns c = grind (arith, common_steps, id-some, encode_utf8_all, on_ok_weaker, id-added)

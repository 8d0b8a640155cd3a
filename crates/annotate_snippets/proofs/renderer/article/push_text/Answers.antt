use Rattle.annotate_snippets.proofs.Common.{string_bytes, on_ok_weaker, adds_text}
use Rattle.std.proofs.Common.{chars}
use Rattle.annotate_snippets.proofs.renderer.article.push_text.Goals as goal

pub returns : goal.returns
returns c = record {
  added = on_ok_weaker c.push_escaped.result
      (λ added. adds_text (chars c.args.text.now) (string_bytes c.args.out.now) (string_bytes c.push_escaped.new.out) added) c.push_escaped.ensures.added;
}

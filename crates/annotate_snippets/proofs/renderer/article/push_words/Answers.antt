use Rattle.annotate_snippets.proofs.Common.{encode_utf8_all, on_ok_weaker, on_ok_value}
use Rattle.std.proofs.Common.{chars}
use Rattle.snippet_grid.specs.Html.{escaped}
use Rattle.annotate_snippets.proofs.ArticleLemmas.{bytes-added}
use Rattle.annotate_snippets.proofs.renderer.article.push_words.Goals as goal

pub returns : goal.returns
returns c = record {
  added = on_ok_weaker c.push_str-2.result
      (λ third. bytes-added _ _ (encode_utf8_all (escaped (chars c.args.words.now))) _ _ _ _ c.in_ok-push_str.ensures.bytes c.in_ok-push_escaped.ensures.added
      third) (on_ok_value c.push_str-2.result _ _ _ c.push_str-2.ensures.bytes);
}

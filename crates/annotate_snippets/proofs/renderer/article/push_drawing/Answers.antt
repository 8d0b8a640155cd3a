use Rattle.annotate_snippets.proofs.Common.{on_ok_weaker, on_ok_value}
use Rattle.annotate_snippets.proofs.ArticleLemmas.{bytes-added}
use Rattle.annotate_snippets.proofs.renderer.article.push_drawing.Goals as goal

pub returns : goal.returns
returns c = record {
  added = on_ok_weaker c.push_str-3.result (λ third. bytes-added _ _ _ _ _ _ _ c.in_ok-push_str.ensures.bytes c.in_ok-push_str-2.ensures.bytes third)
      (on_ok_value c.push_str-3.result _ _ _ c.push_str-3.ensures.bytes);
}

use Rattle.std.proofs.Common.{◌≡◌, ◌∙◌, ℕ, List, Option, ap, string_bytes, subst}
use Rattle.std.proofs.lemmas.Result.{IfOk-weaker}
use Rattle.redraw_run.specs.Page.{Takes}
use Rattle.redraw_run.specs.Article.{IsArticle, IsArticleIn, article, file_among, file_of, kind_of}
use Rattle.redraw_run.proofs.article.article_in.Goals as goal

pub returns : goal.returns
returns c =
    let d = c.args.diagnostic.now in
    let inner = c.args.inner.now in
    let id = c.in_ok-id.id in
    let found = c.file_of-file.ensures.value ∙ ap file_among c.deref.ensures.value in
    let taken : Takes inner (file_of d) (kind_of d) id c.args.page.now c.take.new.self =
    subst (λ k. Takes inner (file_of d) k id c.args.page.now c.take.new.self) c.kind_of.ensures.value
    (subst (λ (f : Option (List ℕ)). Takes inner f c.kind_of.result id c.args.page.now c.take.new.self) found c.in_ok-id.ensures.takes) in
    let Is : List ℕ → Type 0 = λ text. text ≡ article d.severity (file_of d) id inner in
    let made : (text : List ℕ) → text ≡ article d.severity _ id inner → Is text =
    λ text is. is ∙ ap (λ (f : Option (List ℕ)). article d.severity f id inner) found in
    record {
      article = IfOk-weaker c.article_of.result (λ text. string_bytes text ≡ article d.severity _ id inner)
          (λ text. IsArticleIn c.args.page.now c.take.new.self d inner (string_bytes text))
          (λ text is. record { id = id; takes = taken; is = made (string_bytes text) is }) c.article_of.ensures.value;
      placed = IfOk-weaker c.article_of.result (λ text. string_bytes text ≡ article d.severity _ id inner) (λ text. IsArticle d inner (string_bytes text))
          (λ text is. record { id = id; digest_is = taken.numbered.digest_is; is = made (string_bytes text) is }) c.article_of.ensures.value;
    }

use Rattle.annotate_snippets.proofs.Common.{◌∙◌, ap, ap₂, sym, subst, List, ℕ, string_bytes, cow_slice_items, Group, article, IsAsSet, ShowsReport}
use Rattle.annotate_snippets.proofs.Common.{HasHtmlLaws, IsReportHtml, HasLaws, title_above, unwrapped, Renderer, Graphic}
use Rattle.annotate_snippets.proofs.ArticleLemmas.{escaped-says, escaped-untagged, heading-tags}
use Rattle.annotate_snippets.proofs.renderer.Renderer.render_html_page.Goals as goal

pub returns-clause-article : goal.returns-clause-article
returns-clause-article c =
    let r : Renderer = c.args.self.now in
    let groups : List Group = c.args.groups.now in
    let drawing : List ℕ = string_bytes c.in_ok-drawing.drawing in
    let words : List ℕ = string_bytes c.in_ok-words.words in
    let whole : List Group = c.deref.result.now in
    record {
      drawing = drawing;
      words = words;
      whole = whole;
      drawn = subst (λ (one : Renderer). IsReportHtml one groups drawing) c.in_ok-unlinked.ensures.value c.in_ok-drawing.ensures.html;
      drawn_laws = subst (λ (one : Renderer). HasHtmlLaws one groups drawing) c.in_ok-unlinked.ensures.value c.in_ok-drawing.ensures.laws;
      told = subst (λ (one : Renderer). ShowsReport one groups one.stylesheet words) c.in_ok-spoken.ensures.value c.in_ok-words.ensures.shows;
      told_laws = subst (λ (one : Renderer). HasLaws one groups one.stylesheet words) c.in_ok-spoken.ensures.value c.in_ok-words.ensures.laws;
      unbroken = subst (λ (gs : List Group). IsAsSet Graphic (unwrapped r) groups gs) (sym c.deref.ensures.value)
          (subst (λ (one : Renderer). IsAsSet Graphic one groups (cow_slice_items c.in_ok-whole.whole)) c.in_ok-unwrapped.ensures.value
          c.in_ok-whole.ensures.shown.set);
      is = c.in_ok-text.ensures.value ∙ ap (λ t. article r.hyperlink t c.as_str.result.now c.as_str-2.result.now) c.title_above-title.ensures.value
          ∙ ap₂ (λ a b. article r.hyperlink (title_above Graphic whole) a b) c.as_str.ensures.value c.as_str-2.ensures.value;
      read = escaped-says;
      untagged = escaped-untagged;
      linked = heading-tags r.hyperlink;
    }

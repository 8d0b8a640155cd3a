use Rattle.annotate_snippets.proofs.Common.{All, List, rules, string_bytes, subst, sym, Group, IsAsSet, IsGroupDrawable, Graphic}
use Rattle.annotate_snippets.proofs.AsSetLemmas.{IsOfBase, of-base}
use Rattle.annotate_snippets.proofs.HtmlShown.{html_laws}
use Rattle.annotate_snippets.proofs.renderer.Renderer.render_html.Goals as goal

pub page_html-requires : goal.page_html-requires
page_html-requires c = record { drawable = subst (All IsGroupDrawable) (sym c.deref.ensures.value) c.in_ok-shown.ensures.shown.drawable }

pub returns : goal.returns
returns c =
    let r = c.args.self.now in
    let groups : List Group = c.args.groups.now in
    let shown : List Group = c.deref.result.now in
    let set : IsAsSet Graphic r groups shown =
    subst (λ (gs : List Group). IsAsSet Graphic r groups gs) (sym c.deref.ensures.value) c.in_ok-shown.ensures.shown.set in
    let based : IsOfBase Graphic r groups shown = of-base Graphic r groups shown set c.in_ok-text.ensures.laws in
    record {
      refused = search rules;
      renders = search rules;
      html = record { shown = shown; set = set; is = c.in_ok-text.ensures.html };
      laws = record {
        shown = shown;
        set = set;
        laws = html_laws r shown (string_bytes c.in_ok-text.text) c.in_ok-text.ensures.html;
        page = c.in_ok-text.ensures.laws;
        masked = based.masked;
        masks = based.masks;
        around = based.around;
        wrapped = based.wrapped;
      };
    }

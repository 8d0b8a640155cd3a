use Rattle.std.proofs.Common.{arith}
use Rattle.std.proofs.lemmas.Grind.{common_steps}
use Rattle.annotate_snippets.proofs.Common.{◌≡◌, ◌∙◌, List, ap, ap₂, string_bytes, subst, sym, cow_slice_items, Group, is_plain_sheet, IsAsSet}
use Rattle.annotate_snippets.proofs.Common.{form_of, IsTextUnder, markdown, title_above, unlinked, unwrapped, Renderer, Form}
use Rattle.annotate_snippets.proofs.MarkdownLemmas.{markdown-laws, plain-under}
use Rattle.annotate_snippets.proofs.renderer.Renderer.render_markdown.Goals as goal

pub returns-clause-markdown : goal.returns-clause-markdown
returns-clause-markdown c =
    let r : Renderer = c.args.self.now in
    let shown : List Group = c.deref.result.now in
    let whole : List Group = c.deref-2.result.now in
    let form : c.form_of-form.result ≡ form_of r = c.form_of-form.ensures.value in
    let page : IsTextUnder (form_of r) (unlinked r) shown c.plain.result (string_bytes c.in_ok-page.page) =
    subst (λ (f : Form). IsTextUnder f (unlinked r) shown c.plain.result (string_bytes c.in_ok-page.page)) form
    (subst (λ (one : Renderer). IsTextUnder c.form_of-form.result one shown c.plain.result (string_bytes c.in_ok-page.page)) c.in_ok-unlinked.ensures.value
    c.in_ok-page.ensures.text) in
    record {
      shown = shown;
      whole = whole;
      set = grind (arith, common_steps, r, form, c.args.groups.now, c.deref.ensures.value, c.in_ok-shown.shown, c.in_ok-shown.ensures.shown.set);
      unbroken = subst (λ (gs : List Group). IsAsSet (form_of r) (unwrapped r) c.args.groups.now gs) (sym c.deref-2.ensures.value)
          (subst (λ (f : Form). IsAsSet f (unwrapped r) c.args.groups.now (cow_slice_items c.in_ok-whole.whole)) form
          (subst (λ (one : Renderer). IsAsSet c.form_of-form.result one c.args.groups.now (cow_slice_items c.in_ok-whole.whole))
          c.in_ok-unwrapped.ensures.value c.in_ok-whole.ensures.shown.set));
      is = c.in_ok-text.ensures.value ∙ ap₂ markdown (c.title_above.ensures.value ∙ ap (λ (f : Form). title_above f whole) form)
          (c.as_str.ensures.value ∙ plain-under r shown c.plain.result (string_bytes c.in_ok-page.page) (ap is_plain_sheet c.plain.ensures.value) page);
    }

pub returns-clause-laws : goal.returns-clause-laws
returns-clause-laws c =
    let r : Renderer = c.args.self.now in
    let shown : List Group = c.deref.result.now in
    let form : c.form_of-form.result ≡ form_of r = c.form_of-form.ensures.value in
    record {
      shown = shown;
      set = grind (arith, common_steps, r, form, c.args.groups.now, c.deref.ensures.value, c.in_ok-shown.shown, c.in_ok-shown.ensures.shown.set);
      laws = markdown-laws r shown c.plain.result (string_bytes c.in_ok-page.page) (string_bytes c.in_ok-text.text)
          (subst (λ (f : Form). IsTextUnder f (unlinked r) shown c.plain.result (string_bytes c.in_ok-page.page)) form
          (subst (λ (one : Renderer). IsTextUnder c.form_of-form.result one shown c.plain.result (string_bytes c.in_ok-page.page))
          c.in_ok-unlinked.ensures.value c.in_ok-page.ensures.text));
    }

use Rattle.annotate_snippets.proofs.Common.{List, string_bytes, IfOk-weaker, Group, Stylesheet, IsTextUnder, Short}
use Rattle.annotate_snippets.proofs.ShortShown.{IsOfShort, short-under}
use Rattle.annotate_snippets.proofs.renderer.drawn.short_form_text.Goals as goal

pub returns : goal.returns
returns c =
    let r = c.args.renderer.now in
    let groups : List Group = c.args.groups.now in
    let sheet : Stylesheet = c.args.sheet.now in
    let form = c.in_ok-form.form in
    record {
      text = IfOk-weaker _ (λ text. IsOfShort form sheet (string_bytes text)) (λ text. IsTextUnder Short r groups sheet (string_bytes text))
          (λ text. short-under r groups sheet (string_bytes text) form c.requires.drawable c.in_ok-form.ensures.drawn) c.render.ensures.prints;
    }

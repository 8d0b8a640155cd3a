use Rattle.std.proofs.lemmas.Grind.{common_steps}
use Rattle.annotate_snippets.proofs.Common.{List, arith, map, string_bytes, subst, AllZip, map-append, take_all, Group, AllZip-weaker, Stylesheet, LawsIn, Text}
use Rattle.annotate_snippets.proofs.ListLemmas.{AllZip-push}
use Rattle.annotate_snippets.proofs.TextShown.{IsFormText, form-text, text-law, text-shown}
use Rattle.annotate_snippets.proofs.renderer.drawn.text_form_texts.Goals as goal

pub loop-sheet-preserved : goal.loop-sheet-preserved
loop-sheet-preserved c = grind (arith, common_steps, AllZip-push, map-append, form-text)

pub returns : goal.returns
returns c =
    let r = c.args.renderer.now in
    let groups : List Group = c.args.groups.now in
    let sheets : List Stylesheet = c.args.sheets.now in
    let texts = map string_bytes c.loop-sheet.texts.items in
    let are = subst (λ (ss : List Stylesheet). AllZip (IsFormText r groups) ss texts) (take_all c.loop-sheet.sheet-index sheets (omega arith))
    c.loop-sheet.invariant in
    record {
      shows = text-shown r groups sheets texts are;
      laws = AllZip-weaker (IsFormText r groups) (LawsIn Text r groups) (text-law r groups) sheets texts are;
    }

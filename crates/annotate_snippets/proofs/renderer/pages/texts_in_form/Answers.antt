use Rattle.std.proofs.lemmas.Grind.{common_steps}
use Rattle.annotate_snippets.proofs.Common.{◌≡◌, ℕ, [], ◌∷◌, List, String, arith, map, string_bytes, subst, sym, IfOk-weaker, AllZip, Group}
use Rattle.annotate_snippets.proofs.Common.{AllZip-weaker, Stylesheet, LawsIn, IsTextUnder, Form, Graphic}
use Rattle.std.proofs.Common.{IfOk, Global}
use Rattle.annotate_snippets.proofs.FormsShown.{none-laws, none-shown, one_sheet, one_shown, page-shown}
use Rattle.annotate_snippets.proofs.renderer.pages.texts_in_form.Goals as goal

pub returns-then-is_empty-clause-shows : goal.returns-then-is_empty-clause-shows
returns-then-is_empty-clause-shows c =
    grind (arith, none-shown, c.args.sheets.now, c.args.form, c.args.renderer.now, c.args.groups.now, c.new.ensures.items, c.requires.titled)

pub returns-then-is_empty-clause-laws : goal.returns-then-is_empty-clause-laws
returns-then-is_empty-clause-laws c = grind (arith, none-laws, c.args.sheets.now, c.args.form, c.args.renderer.now, c.args.groups.now, c.new.ensures.items)

pub returns-in-len1 : goal.returns-in-len1
returns-in-len1 c =
    let r = c.args.renderer.now in
    let groups : List Group = c.args.groups.now in
    let form = c.args.form in
    let sheets : List Stylesheet = c.args.sheets.now in
    let Under : List Stylesheet → List (List ℕ) → Type 0 = AllZip (IsTextUnder form r groups) in
    let text = string_bytes c.in_ok-text.text in
    let one : Under sheets (text ∷ []) =
    subst (λ (ss : List Stylesheet). Under ss (text ∷ [])) (one_sheet sheets _ c.in-len1.len_at_least c.in-len1.len_below) (c.in_ok-text.ensures.text, tt) in
    let are : IfOk c.alone.result (λ texts. Under sheets (map string_bytes texts.items)) =
    IfOk-weaker c.alone.result (λ texts. texts.items ≡ c.in_ok-text.text ∷ []) (λ texts. Under sheets (map string_bytes texts.items))
    (λ texts is. subst (λ (ts : List (String Global)). Under sheets (map string_bytes ts)) (sym is) one) c.alone.ensures.value in
    record {
      shows = grind (arith, common_steps, Under, sheets, map, form, r, groups, one_shown, are, c.alone.result, c.in-len1.len_at_least, c.in-len1.len_below);
      laws = grind (arith, common_steps, Under, sheets, map, form, r, groups, are, c.alone.result);
    }

pub returns-in-Graphic : goal.returns-in-Graphic
returns-in-Graphic c =
    let r = c.args.renderer.now in
    let groups : List Group = c.args.groups.now in
    let sheets : List Stylesheet = c.args.sheets.now in
    let Are : List (String Global) → Type 0 = λ texts. AllZip (IsTextUnder Graphic r groups) sheets (map string_bytes texts) in
    record {
      shows = grind (arith, common_steps, r, groups, sheets, map, Are, page-shown, c.page_texts.result, c.in-Graphic.is, c.page_texts.ensures.texts);
      laws = subst (λ (form : Form). IfOk c.page_texts.result (λ texts. AllZip (LawsIn form r groups) sheets (map string_bytes texts.items)))
          (sym c.in-Graphic.is) (IfOk-weaker c.page_texts.result (λ texts. Are texts.items)
          (λ texts. AllZip (LawsIn Graphic r groups) sheets (map string_bytes texts.items)) (λ texts. AllZip-weaker (IsTextUnder Graphic r groups)
          (LawsIn Graphic r groups) (λ sheet text is. is.laws) sheets (map string_bytes texts.items)) c.page_texts.ensures.texts);
    }

use Rattle.annotate_snippets.proofs.Common.{◌∙◌, ◌++◌, ◌∷◌, [], ap, cond, not, refl, string_bytes, true, Printing}
use Rattle.snippet_titles.specs.declared.style.TitleStyle.TheVariants.{Title}
use Rattle.annotate_snippets.proofs.PrintingLemmas.{heading_some, printing_more}
use Rattle.annotate_snippets.proofs.renderer.printing.add_plain_title.Goals as goal

pub returns-clause-printed : goal.returns-clause-printed
returns-clause-printed c = λ old rows plain printing.
    let page : Printing = c.flush.new.page in
    let row = c.after-row.result in
    let done : Printing = record { level = page.level; text = c.in_ok-page.field-0; begun = true; buffer = page.buffer } in
    printing_more _ row.codes.now _ row.level old _ page done rows _ c.after-row.ensures.sheet (c.after-row.ensures.level ∙ c.in_ok-flush.ensures.level) refl
    c.in_ok-flush.ensures.empty c.in_ok-flush.ensures.empty (heading_some c.args.hyperlink Title _ plain)
    (c.in_ok-lead.ensures.value ∙ ap (λ text. cond (not page.begun) (string_bytes text) (string_bytes text ++ 10 ∷ [])) c.replace-text.ensures.value)
    (c.in_ok-page.ensures.rows (string_bytes c.in_ok-lead.lead) plain c.after-row.ensures.none) (c.in_ok-flush.ensures.printed old rows printing)

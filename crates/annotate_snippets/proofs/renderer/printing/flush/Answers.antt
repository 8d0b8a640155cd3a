use Rattle.annotate_snippets.proofs.Common.{◌∙◌, ◌++◌, ◌∷◌, [], ◌<◌, ap, arith, cond, length, not, refl, string_bytes, true, Printing}
use Rattle.annotate_snippets.proofs.PrintingLemmas.{printing_flushed}
use Rattle.annotate_snippets.proofs.renderer.printing.flush.Goals as goal

pub returns-clause-printed : goal.returns-clause-printed
returns-clause-printed c = λ old rows printing.
    let page : Printing = c.args.page.now in
    let done : Printing = record { level = page.level; text = c.in_ok-page.field-0; begun = true; buffer = c.clear.new.self } in
    let some : 0 < length page.buffer = omega (arith, c.num_lines.ensures.count, c.if-num_lines-eq0.false) in
    printing_flushed c.args.codes.now page.level old (string_bytes c.in_ok-lead.lead) page done rows refl c.clear.ensures.empty some
    (c.in_ok-lead.ensures.value ∙ ap (λ text. cond (not page.begun) (string_bytes text) (string_bytes text ++ 10 ∷ [])) c.replace-text.ensures.value)
    c.in_ok-page.ensures.added printing

use Rattle.annotate_snippets.proofs.Common.{◌∙◌, ap, map, refl, string_bytes, on_ok_weaker, next_of, element_of, Printing}
use Rattle.annotate_snippets.proofs.PrintingLemmas.{title_printed}
use Rattle.annotate_snippets.proofs.renderer.printing.add_title.Goals as goal

pub returns-in_ok-add_plain_title-clause-printed : goal.returns-in_ok-add_plain_title-clause-printed
returns-in_ok-add_plain_title-clause-printed c =
    let page : Printing = c.args.page.now in
    let below : Printing = c.add_plain_title.new.page in
    let after : Printing = record { level = below.level; text = below.text; begun = below.begun; buffer = c.draw_below_title.new.buffer } in
    on_ok_weaker c.draw_below_title.result (λ rows.
    title_printed c.args.codes.now page.level c.args.renderer.now c.args.around.now.layout c.args.around.now.place c.next_of-next.result _
    c.in-Some.title _ page below after c.in-Some.is
    (c.next_of-next.ensures.value ∙ ap (λ es. next_of (map element_of es)) c.deref.ensures.value ∙ ap next_of c.requires.prepared.elements_are)
    c.requires.unbegun c.requires.empty refl refl (rows c.args.renderer.now)
    (λ some printing. c.in_ok-add_plain_title.ensures.printed (string_bytes page.text) some
    (c.is_plain_title.ensures.yes c.if-is_plain_title.true) printing)) c.draw_below_title.ensures.rows

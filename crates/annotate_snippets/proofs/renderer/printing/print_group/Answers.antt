use Rattle.annotate_snippets.proofs.Common.{string_bytes, option_copied, on_ok_weaker}
use Rattle.annotate_snippets.proofs.PrintingLemmas.{group_printed}
use Rattle.annotate_snippets.proofs.renderer.printing.print_group.Goals as goal

pub returns-clause-printed : goal.returns-clause-printed
returns-clause-printed c =
    on_ok_weaker c.add_elements.result (λ prints.
    group_printed c.args.codes.now c.args.page.now.level c.add_title.new.page.level c.args.renderer.now c.args.around.now.layout
    c.args.around.now.place (option_copied c.args.around.now.file) c.args.group.group.now _ c.add_title.new.page (string_bytes c.args.page.now.text)
    (string_bytes c.add_elements.new.page.text) c.requires.prepared.elements_are c.in_ok-add_title.ensures.level
    c.in_ok-add_title.ensures.printed prints) c.add_elements.ensures.printed

use Rattle.annotate_snippets.proofs.Common.{string_bytes}
use Rattle.annotate_snippets.proofs.SheetPages.{page_after}
use Rattle.annotate_snippets.proofs.WriteLemmas.{page_text_is}
use Rattle.annotate_snippets.proofs.renderer.page.page_text.Goals as goal

pub returns : goal.returns
returns c =
    let r = c.args.renderer.now in
    let groups = c.args.groups.now in
    let sheet = c.args.sheet.now in
    let drawn = c.in_ok-draw_page.ensures in
    record {
      text = page_text_is r groups sheet (string_bytes c.draw_page.new.sink.text) drawn.laws
          (page_after sheet _ _ _ (record { under = c.new.ensures.sheet; empty = c.in_ok-with_capacity.ensures.bytes }) drawn.took);
    }

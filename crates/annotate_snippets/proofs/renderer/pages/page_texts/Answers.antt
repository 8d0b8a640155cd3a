use Rattle.std.proofs.Common.{arith}
use Rattle.std.proofs.lemmas.Grind.{common_steps}
use Rattle.annotate_snippets.proofs.Common.{ℕ, List, map, AllZip, IsTextUnder, Graphic}
use Rattle.annotate_snippets.proofs.SheetPages.{pages_after}
use Rattle.annotate_snippets.proofs.renderer.pages.page_texts.Goals as goal

pub returns : goal.returns
returns c =
    let Under : List (List ℕ) → Type 0 = AllZip (IsTextUnder Graphic c.args.renderer.now c.args.groups.now) c.args.sheets.now in
    let drawn = c.in_ok-draw_page.ensures in
    let under = pages_after c.args.renderer.now c.args.groups.now c.args.sheets.now _ c.draw_page.new.sink c.in_ok-empty_pages.ensures.empty
    drawn.laws drawn.took in
    record { texts = grind (arith, common_steps, map, Under, under, c.texts_of.result, c.draw_page.new.sink.pages.items, c.texts_of.ensures.value) }

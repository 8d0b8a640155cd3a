use Rattle.annotate_snippets.proofs.WriteLemmas.{page_written}
use Rattle.annotate_snippets.proofs.renderer.to_writer.write_groups.Goals as goal

pub returns : goal.returns
returns g c =
    let w = page_written g.W.Write.contents _ _ _ _ _ c.requires.sheet c.draw_page.ensures.laws c.draw_page.ensures.took c.draw_page.ensures.stopped in
    record { same_reference = w.same_reference; told = w.told; stopped = w.stopped; whole = w.whole; part = w.part }

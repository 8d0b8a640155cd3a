use Rattle.annotate_snippets.proofs.Common.{arith, IsEmptyPage}
use Rattle.annotate_snippets.proofs.ListLemmas.{AllZip-push}
use Rattle.annotate_snippets.proofs.renderer.pages.empty_pages.Goals as goal

pub loop-sheet-preserved : goal.loop-sheet-preserved
loop-sheet-preserved c =
    AllZip-push IsEmptyPage c.args.sheets.now c.loop-sheet.sheet-index _ (omega arith) c.loop-sheet.pages.items c.push.new.self.items _
    c.in_ok-push.ensures.items c.loop-sheet.invariant (record { under = c.new.ensures.sheet; empty = c.new-in-loop-sheet.ensures.bytes })

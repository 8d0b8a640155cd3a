-- So far there is a page under each sheet, and nothing is printed on it.
use Rattle.annotate_snippets.proofs.Common.{take, AllZip, IsEmptyPage}
use Rattle.annotate_snippets.proofs.renderer.pages.empty_pages.Given as goal

abbrev pub invariant-loop-sheet : goal.invariant-loop-sheet
invariant-loop-sheet l = AllZip IsEmptyPage (take l.sheet-index l.sheets) l.pages.items

-- Each text so far is the text form under its sheet.
use Rattle.annotate_snippets.proofs.Common.{map, string_bytes, take, AllZip}
use Rattle.annotate_snippets.proofs.TextShown.{IsFormText}
use Rattle.annotate_snippets.proofs.renderer.drawn.text_form_texts.Given as goal

abbrev pub invariant-loop-sheet : goal.invariant-loop-sheet
invariant-loop-sheet l = AllZip (IsFormText l.renderer l.groups) (take l.sheet-index l.sheets) (map string_bytes l.texts.items)

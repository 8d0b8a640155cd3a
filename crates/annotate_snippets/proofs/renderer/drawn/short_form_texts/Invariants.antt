-- Each text so far is the form's under its sheet.
use Rattle.annotate_snippets.proofs.Common.{map, string_bytes, take, AllZip}
use Rattle.annotate_snippets.proofs.ShortShown.{IsOfShort}
use Rattle.annotate_snippets.proofs.renderer.drawn.short_form_texts.Given as goal

abbrev pub invariant-loop-sheet : goal.invariant-loop-sheet
invariant-loop-sheet l = AllZip (IsOfShort l.form) (take l.sheet-index l.sheets) (map string_bytes l.texts.items)

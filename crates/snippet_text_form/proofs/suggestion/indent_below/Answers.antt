use Rattle.snippet_text_form.proofs.Common.{ap, codes, refl, sym, ◌∙◌, chars-encodes, edit_indent}
use Rattle.snippet_text_form.proofs.suggestion.indent_below.Goals as goal

pub returns-in-Some : goal.returns-in-Some
unfolding lib.Utf8.encode
returns-in-Some c =
    record { value = chars-encodes (codes "  ") refl ∙ ap edit_indent (sym c.in-Some.is) }

pub returns-in-None : goal.returns-in-None
unfolding lib.Utf8.encode
returns-in-None c =
    record { value = chars-encodes (codes " ") refl ∙ ap edit_indent (sym c.in-None.is) }

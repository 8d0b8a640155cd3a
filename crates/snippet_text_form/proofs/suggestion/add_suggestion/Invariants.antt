use Rattle.snippet_text_form.proofs.Common.{◌≡◌, ◌++◌, take, map, flat_map, option_copied, trimmed_edit_of, edit_form}
use Rattle.std.proofs.Common.{chars}
use Rattle.snippet_text_form.proofs.suggestion.add_suggestion.Given as goal

-- the patches so far are added
abbrev pub invariant-loop-patch : goal.invariant-loop-patch
invariant-loop-patch l =
    l.form ≡ l.initial.form ++ flat_map (edit_form l.source.settings l.suggestion.map (chars l.start.indent.now) (option_copied l.start.path))
    (map trimmed_edit_of (take l.patch-index l.patch-items))

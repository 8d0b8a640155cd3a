use Rattle.std.proofs.Common.{arith}
use Rattle.std.proofs.lemmas.Grind.{common_steps}
use Rattle.snippet_text_form.proofs.Common.{◌≡◌, ◌∙◌, false, sym, true, and_left, and_right, on_ok_weaker, Edit, trimmed_edit_of, is_blank_text, overwrites}
use Rattle.snippet_text_form.proofs.AddedLemmas.{text-two}
use Rattle.snippet_text_form.proofs.SuggestionLemmas.{other_place, replaced_place, seen_over}
use Rattle.snippet_text_form.proofs.suggestion.add_patch_place.Goals as goal
use Rattle.snippet_text_form.proofs.suggestion.add_patch_place.Goals.{else-overwrites-via-then-overwrites+else-not-is_blank}

pub returns-in_ok-add_place : goal.returns-in_ok-add_place
returns-in_ok-add_place c =
    let a = c.args in
    let map = a.source.now.map.now in
    let e : Edit = trimmed_edit_of a.patch.now in
    let over : overwrites map.text e ≡ true = sym (seen_over c.source.result.now map.text e c.overwrites.result c.source.ensures.value
    c.requires.span c.overwrites.ensures.value) ∙ c.if-overwrites.true in
    let given : is_blank_text e.text ≡ false = sym c.is_blank.ensures.value ∙ c.if-not-is_blank.true in
    grind (arith, common_steps, on_ok_weaker, text-two, replaced_place)

pub returns-else-overwrites : goal.returns-else-overwrites
returns-else-overwrites c = grind (arith, common_steps, seen_over, and_right, and_left, on_ok_weaker, other_place)

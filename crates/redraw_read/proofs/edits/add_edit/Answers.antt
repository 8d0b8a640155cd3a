use Rattle.std.proofs.Common.{◌∙◌, append-nil, None, Some, ap, refl, sym}
use Rattle.json_lines.specs.Field.{lent_text}
use Rattle.redraw_read.proofs.edits.add_edit.Goals as goal

pub returns-in_ok-push-in-Some : goal.returns-in_ok-push-in-Some
returns-in_ok-push-in-Some c =
    let e = c.in_ok-edit_of-in-Some.field-0 in
    let said = c.in_ok-said.ensures.value ∙ ap (λ o. Some (lent_text o)) c.in-Some.is in
    record { added = (Some e, (Some c.in-Some.replacement.now, said, (e, refl, c.in_ok-edit_of-in-Some.ensures.is)), c.in_ok-push-in-Some.ensures.items) }

pub returns-in-None : goal.returns-in-None
returns-in-None c =
    let said = c.in_ok-said.ensures.value ∙ ap (λ o. Some (lent_text o)) c.in-None.is in
    record { added = (None, (None, said, refl), sym (append-nil c.args.edits.now.items)) }

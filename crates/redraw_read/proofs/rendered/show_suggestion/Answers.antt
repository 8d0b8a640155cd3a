use Rattle.std.proofs.Common.{◌≡◌, ◌∙◌, ◌++◌, ap, map, string_bytes, sym}
use Rattle.std.proofs.lemmas.Result.{on_ok_weaker}
use Rattle.redraw_read.specs.AsShown.{message_line, told_by}
use Rattle.redraw_read.specs.Labels.{label_seen}
use Rattle.redraw_read.specs.Rendered.{Label, Way, way, way_of}
use Rattle.redraw_read.proofs.rendered.show_suggestion.Goals as goal

pub returns-in-Label-clause-told : goal.returns-in-Label-clause-told
returns-in-Label-clause-told c =
    let text = c.args.manners.now.text.now in
    let message = message_line (string_bytes c.args.child.message) in
    let is : Label c.in-Label.label.now ≡ way message text =
    sym (ap way_of c.in-Label.is) ∙ c.in_ok-title.ensures.value
    ∙ ap (λ m. way m text) (c.in_ok-message.ensures.value ∙ ap message_line c.as_str.ensures.value) in
    on_ok_weaker c.add_label.result
    (λ added. added ∙ ap (λ (w : Way). map label_seen c.args.told.now.items ++ told_by w message c.args.child.alternatives.items) is)
    c.add_label.ensures.added

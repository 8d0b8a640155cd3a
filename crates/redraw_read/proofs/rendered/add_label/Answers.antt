use Rattle.std.proofs.Common.{◌∙◌, ◌++◌, [], ◌∷◌, Option, ap, map, string_bytes}
use Rattle.std.specs.Option.{option_map, option_to_list}
use Rattle.std.proofs.lemmas.List.{map-append}
use Rattle.redraw_report.specs.declared.diagnostic.SuggestedEdit.{SuggestedEdit}
use Rattle.redraw_read.specs.AsShown.{message_line}
use Rattle.redraw_read.specs.Labels.{LabelSeen, label_of, label_seen}
use Rattle.redraw_read.proofs.rendered.add_label.Goals as goal

pub returns-in-Some : goal.returns-in-Some
returns-in-Some c =
    let row = c.args.row.now in
    let edit = c.in-Some.edit in
    let told = c.in_ok-edit_label-in-Some.field-0 in
    let old = c.args.labels.now.items in
    let message = message_line (string_bytes c.args.child.message) in
    record {
      added = ap (map label_seen) c.in_ok-push-in-Some.ensures.items ∙ map-append label_seen old (told ∷ [])
          ∙ ap (λ (l : LabelSeen). map label_seen old ++ l ∷ []) c.in_ok-edit_label-in-Some.ensures.value
          ∙ ap (λ m. map label_seen old ++ label_of row m edit ∷ [])
          (c.as_str-in-Some.ensures.value ∙ c.in_ok-message.ensures.value ∙ ap message_line c.as_str.ensures.value)
          ∙ ap (λ (o : Option SuggestedEdit). map label_seen old ++ option_to_list (option_map (label_of row message) o))
          c.in-Some.ensures.value;
    }

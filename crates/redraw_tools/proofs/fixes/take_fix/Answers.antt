use Rattle.std.proofs.Common.{◌≡◌, ◌∙◌, inr, map, string_bytes, subst}
use Rattle.std.specs.Prelude.{IfSome, Option}
use Rattle.std.specs.Global.{Vec}
use Rattle.std.proofs.lemmas.Result.{on_ok_weaker}
use Rattle.std.proofs.lemmas.Simd.{map-map}
use Rattle.serde_json.specs.View.{view}
use Rattle.redraw_report.specs.declared.diagnostic.SuggestedEdit.{SuggestedEdit}
use Rattle.redraw_tools.specs.Edits.{edit_view, edits_of_fix}
use Rattle.redraw_tools.specs.Fixes.{edit_of}
use Rattle.redraw_tools.specs.Found.{change_view, changes_view}
use Rattle.redraw_tools.proofs.fixes.take_fix.Goals as goal

pub returns-in_ok-message-in-Some : goal.returns-in_ok-message-in-Some
returns-in_ok-message-in-Some c =
    let run = view c.args.context.now.run.now in
    let unit = c.args.context.now.unit in
    let fix = view c.args.fix.now.value.now in
    let edits = c.in-Some.edits in
    let are = subst (λ (o : Option (Vec SuggestedEdit)). IfSome o (λ (es : Vec SuggestedEdit). map edit_view es.items ≡ edits_of_fix run unit fix))
    c.in-Some.is c.in_ok-edits.ensures.are in
    record {
      added = on_ok_weaker c.add_fix.result (λ added. inr record {
        text = string_bytes c.in_ok-message-in-Some.message;
        changes = changes_view edits;
        describes = c.in_ok-message-in-Some.ensures.is;
        edits = map-map edit_of change_view edits.items ∙ are;
        added = added;
      }) c.add_fix.ensures.added;
    }

use Rattle.std.proofs.Common.{rules, ◌≡◌, List, ℕ, [], ◌∷◌, ap, ◌∙◌}
use Rattle.std.proofs.lemmas.List.{nil_from_length}
use Rattle.report_bytes.specs.Bytes.{list_then, settings_then, sheet_then}
use Rattle.report_bytes.specs.Request.{version}
use Rattle.report_bytes.specs.declared.request.DrawRequest.{DrawRequest}
use Rattle.report_bytes.proofs.OverKept.{a_request}
use Rattle.report_bytes.proofs.request.whole.Goals as goal

pub returns-clause-spelled : goal.returns-clause-spelled
returns-clause-spelled c =
    let mid = c.in_ok-sheets.rest.now in
    let rest = c.in_ok-groups.rest.now in
    let sheets = c.in_ok-sheets.ensures.spelled in
    let settings = c.in_ok-settings.ensures.spelled ∙ ap (settings_then c.in_ok-settings.settings) sheets in
    let front = c.in_ok-rest.ensures.spelled ∙ ap (λ (m : List ℕ). version ∷ m) settings in
    let ended : rest ≡ [] = nil_from_length rest (search rules) in
    let r : DrawRequest = record { settings = c.in_ok-settings.settings; sheets = c.in_ok-sheets.sheets; groups = c.in_ok-groups.groups } in
    a_request c.args.kept.now r c.args.bytes.now mid rest front c.in_ok-groups.ensures.spelled ended

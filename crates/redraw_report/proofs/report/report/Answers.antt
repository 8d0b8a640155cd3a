use Rattle.std.proofs.Common.{◌≡◌, arith, map, rules}
use Rattle.std.proofs.lemmas.Grind.{common_steps}
use Rattle.redraw_report.specs.Report.{report_of}
use Rattle.redraw_report.specs.View.{section_view}
use Rattle.redraw_report.proofs.SafeLinks.{safe-groups}
use Rattle.redraw_report.proofs.report.report.Goals as goal

pub returns-clause-safe : goal.returns-clause-safe
returns-clause-safe c =
    let told : map section_view c.push.new.self.items ≡ report_of c.args.has_room c.args.finding.now = first_of (search rules, grind (arith, common_steps)) in
    safe-groups c.push.new.self.items c.args.has_room c.args.finding.now told

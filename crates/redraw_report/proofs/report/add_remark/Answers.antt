use Rattle.std.proofs.Common.{◌≡◌, ◌∷◌, ◌++◌, ◌∙◌, List, map, sym}
use Rattle.std.proofs.lemmas.Result.{IfOk-weaker}
use Rattle.redraw_report.specs.declared.finding.Remark.{Remark}
use Rattle.redraw_report.specs.Report.{remark_section, sections_from}
use Rattle.redraw_report.specs.View.{section_view}
use Rattle.redraw_report.proofs.Sections.{own-group}
use Rattle.redraw_report.proofs.report.add_remark.Goals as goal

pub returns-in_ok-push : goal.returns-in_ok-push
returns-in_ok-push c =
    let old = c.args.groups.now.items in
    let new = c.push.new.self.items in
    let last = c.args.group in
    let r = c.args.remark.now in
    let gone = c.args.shows_gone in
    record {
      taken = IfOk-weaker c.remark_group.result (λ g. section_view g ≡ remark_section gone r)
          (λ g. (rest : List Remark) → map section_view new ++ sections_from gone (section_view g) rest
          ≡ map section_view old ++ sections_from gone (section_view last) (r ∷ rest))
          (λ g is. own-group gone old new last g r c.in_ok-push.ensures.items (sym c.is_bare.ensures.value ∙ c.if-is_bare.false) is)
          c.remark_group.ensures.value;
    }

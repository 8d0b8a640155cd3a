use Rattle.std.proofs.Common.{◌++◌, ◌∙◌, List, ap, codes, map, subst}
use Rattle.serde_json.specs.Data.{Data}
use Rattle.serde_json.specs.View.{view}
use Rattle.json_lines.specs.Lenient.{list_at}
use Rattle.redraw_report.specs.declared.diagnostic.Child.{Child}
use Rattle.redraw_tools.specs.Fixes.{AddsFixes, note, remarks}
use Rattle.redraw_tools.specs.Found.{Remark, remark_view}
use Rattle.redraw_tools.specs.Rule.{part_data, rule_data}
use Rattle.redraw_tools.proofs.sarif.told_of.Goals as goal

pub returns : goal.returns
returns c =
    let run = view c.args.context.now.run.now in
    let unit = c.args.context.now.unit in
    let part = part_data c.args.context.now.rule in
    let rule = rule_data c.args.context.now.rule in
    let told = remarks c.add_fixes.new.children in
    let fixes = list_at (codes "fixes") (view c.args.reported.now.value.now) in
    let (texts, noted) = c.in_ok-add_steps.ensures.notes in
    let fixed = subst (λ (ds : List Data). AddsFixes run unit part rule ds (remarks c.add_steps.new.told.children) told) c.list-fixes.ensures.value
    c.in_ok-add_fixes.ensures.added in
    record {
      are = (c.in_ok-spans.spans.items, c.in_ok-spans.ensures.are, c.in_ok-add_steps.ensures.kept);
      advised = (
        texts,
        subst (λ (rs : List Remark). AddsFixes run unit part rule fixes rs told)
            (noted ∙ ap (λ (cs : List Child). map remark_view cs ++ map note texts) c.new-children.ensures.items) fixed,
      );
    }

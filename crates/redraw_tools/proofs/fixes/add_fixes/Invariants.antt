use Rattle.std.proofs.Common.{map, take}
use Rattle.serde_json.specs.View.{view}
use Rattle.redraw_tools.specs.Fixes.{AddsFixes, remarks}
use Rattle.redraw_tools.specs.Rule.{part_data, rule_data}
use Rattle.redraw_tools.proofs.fixes.add_fixes.Given as goal

-- the fixes up to here are added
abbrev pub invariant-loop-index : goal.invariant-loop-index
invariant-loop-index l =
    AddsFixes (view l.context.run.now) l.context.unit (part_data l.context.rule) (rule_data l.context.rule) (map view (take l.index l.value-items))
    (remarks l.initial.children) (remarks l.children)

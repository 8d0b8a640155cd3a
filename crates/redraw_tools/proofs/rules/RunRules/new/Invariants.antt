use Rattle.std.proofs.Common.{map, take}
use Rattle.std.specs.List.{AllZip}
use Rattle.serde_json.specs.View.{view}
use Rattle.redraw_tools.proofs.Indexing.{IsPartIndex}
use Rattle.redraw_tools.proofs.rules.RunRules.new.Given as goal

-- there is an index of each extension up to here
abbrev pub invariant-loop-extension : goal.invariant-loop-extension
invariant-loop-extension l = AllZip IsPartIndex l.extensions.items (map view (take l.extension-index l.extension-items))

use Rattle.std.proofs.Common.{◌≡◌, ◌≢◌, ◌++◌, []}
use Rattle.std.specs.Global.{Vec}
use Rattle.std.specs.List.{All, flat_map}
use Rattle.redraw_report.specs.declared.diagnostic.SuggestedEdit.{SuggestedEdit}
use Rattle.redraw_read.proofs.edits.alternatives_of.Given as goal

-- the alternatives so far and the one that is made have the edits that were taken, and none of them is empty
abbrev pub invariant-loop-edit : goal.invariant-loop-edit
invariant-loop-edit l =
    record {
      all : flat_map (λ (each : Vec SuggestedEdit). each.items) l.alternatives.items ++ l.current.items ≡ l.yielded;
      some : All (λ (each : Vec SuggestedEdit). each.items ≢ []) l.alternatives.items;
    }

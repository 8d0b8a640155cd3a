use Rattle.std.proofs.Common.{◌≡◌, ◌++◌, List, map}
use Rattle.std.specs.List.{All}
use Rattle.serde_json.specs.View.{view}
use Rattle.redraw_report.specs.declared.diagnostic.FileSpan.{FileSpan}
use Rattle.redraw_read.specs.Places.{IsCallBeside}
use Rattle.redraw_read.proofs.spans.add_calls.Given as goal

-- the places so far are those that were given, and calls beside them
abbrev pub invariant-loop-index : goal.invariant-loop-index
invariant-loop-index l =
    (calls : List FileSpan) × All (IsCallBeside (map view l.values)) calls × (l.spans.items ≡ l.initial.spans.items ++ calls)

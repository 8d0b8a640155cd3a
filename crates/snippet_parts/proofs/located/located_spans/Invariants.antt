use Rattle.snippet_parts.proofs.Common.{◌≡◌, take, All, IsLinePlace, IsLocated, annotations_of}
use Rattle.std.proofs.Common.{IfSome}
use Rattle.snippet_parts.proofs.located.located_spans.Given as goal

-- the spans so far, and the place that is known
abbrev pub invariant-loop-annotation : goal.invariant-loop-annotation
invariant-loop-annotation l =
    (annotations_of l.located.items ≡ take l.annotation-index l.annotations) × All (IsLocated l.source) l.located.items
    × IfSome l.known (IsLinePlace l.source)

use Rattle.snippet_splice.proofs.Common.{◌≡◌, All, drop, map, IsSpanBorder, last_end_of, original_bounds_of}
use Rattle.snippet_splice.proofs.splice.source_lines_shown.Given as goal

-- those that are left complete the greatest end, which is a border
abbrev pub invariant-loop-patch : goal.invariant-loop-patch
invariant-loop-patch l = record {
  border : IsSpanBorder l.source l.start → All (λ t. IsSpanBorder l.source t.original_span.end) l.patches → IsSpanBorder l.source l.end;
  greatest : last_end_of l.end (map original_bounds_of (drop l.patch-index l.patches)) ≡ last_end_of l.start (map original_bounds_of l.patches);
}

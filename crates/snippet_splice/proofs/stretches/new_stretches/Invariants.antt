use Rattle.snippet_splice.proofs.Common.{◌≡◌, ◌≤◌, ◌+◌, ◌++◌, ℕ, drop, length, map, capped, stretches_on, extent_of, feeds_made}
use Rattle.snippet_splice.proofs.Common.{line_stretches}
use Rattle.snippet_splice.proofs.stretches.new_stretches.Given as goal

-- those that are left complete what is to be added, and the lines
abbrev pub invariant-loop-place : goal.invariant-loop-place
invariant-loop-place l = record {
  whole : (k : ℕ)
      → line_stretches l.lines.items k ++ stretches_on k l.line l.shown l.end (map extent_of (drop l.place-index l.places))
      ≡ stretches_on k 0 0 0 (map extent_of l.places);
  made : capped (l.line + feeds_made (map extent_of (drop l.place-index l.places))) ≡ capped (feeds_made (map extent_of l.places));
  few : length l.lines.items ≤ capped (l.line + 1);
}

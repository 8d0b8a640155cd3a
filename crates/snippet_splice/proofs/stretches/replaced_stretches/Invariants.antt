use Rattle.snippet_splice.proofs.Common.{◌≡◌, ◌++◌, ℕ, drop, length, map, max, replaced_on, extent_of, line_stretches, lines_over}
use Rattle.snippet_splice.proofs.stretches.replaced_stretches.Given as goal

-- those that are left complete what is to be taken, and the lines
abbrev pub invariant-loop-place : goal.invariant-loop-place
invariant-loop-place l = record {
  whole : (k : ℕ)
      → line_stretches l.lines.items k ++ replaced_on k l.line (map extent_of (drop l.place-index l.places)) ≡ replaced_on k 0 (map extent_of l.places);
  lines : max (length l.lines.items) (lines_over l.line (map extent_of (drop l.place-index l.places))) ≡ lines_over 0 (map extent_of l.places);
}

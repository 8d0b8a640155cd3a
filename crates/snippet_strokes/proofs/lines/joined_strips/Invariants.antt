use Rattle.snippet_strokes.proofs.Common.{◌≡◌, ◌-◌, ◌≤◌, replicate, string_bytes}
use Rattle.snippet_strokes.proofs.lines.joined_strips.Given as goal

-- so many glyphs are there that these are left
abbrev pub invariant-loop-left : goal.invariant-loop-left
invariant-loop-left l = record {
  low : l.left ≤ l.count;
  text : string_bytes l.text ≡ replicate (l.count - l.left) l.glyph;
}

abbrev pub decreases-loop-left : goal.decreases-loop-left
decreases-loop-left l = l.left

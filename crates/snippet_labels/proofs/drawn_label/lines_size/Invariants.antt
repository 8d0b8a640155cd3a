-- The size so far is that of the lines so far.
use Rattle.snippet_labels.proofs.Common.{◌≡◌, chars, pieces_width, length, map}
use Rattle.snippet_style.specs.Bounds.{IsCount}
use Rattle.snippet_labels.proofs.drawn_label.lines_size.Given as goal

abbrev pub invariant-loop-line : goal.invariant-loop-line
invariant-loop-line l = record {
  width : l.size.width ≡ pieces_width (map (λ line. chars line.now) l.yielded);
  height : l.size.height ≡ length l.yielded;
  few : IsCount l.size.width;
}

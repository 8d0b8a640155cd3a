use Rattle.snippet_labels.proofs.Common.{◌≡◌, ◌++◌, All, drop, length, map, take, unplaced, look_counts, positions}
use Rattle.snippet_style.specs.Bounds.{IsRowNumber}
use Rattle.snippet_labels.proofs.positions.set_label_positions.Given as goal

-- the entries so far have their positions and their counts, and the others, which are as they were, get theirs from the position reached
abbrev pub invariant-loop-i : goal.invariant-loop-i
invariant-loop-i l = record {
  placed : map (λ e. e.position) (take l.i l.entries) ++ positions l.reached (drop l.i l.entries) ≡ positions 0 l.initial.entries;
  low : IsRowNumber l.reached;
  small : All IsRowNumber (map (λ e. e.position) (take l.i l.entries));
  looked : map (λ e. e.looked) (take l.i l.entries) ++ look_counts l.reached (drop l.i l.entries) ≡ look_counts 0 l.initial.entries;
  kept : map unplaced l.entries ≡ map unplaced l.initial.entries;
  left : drop l.i l.entries ≡ drop l.i l.initial.entries;
  count : length l.entries ≡ length l.initial.entries;
}

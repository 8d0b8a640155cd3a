use Rattle.snippet_labels.proofs.Common.{◌≡◌, ◌-◌, drop, length, map, take, unplaced, PlacedEntry}
use Rattle.snippet_labels.proofs.positions.flip.Given as goal

-- the positions so far are flipped, and nothing else is changed
abbrev pub invariant-loop-i : goal.invariant-loop-i
invariant-loop-i l =
    let position : PlacedEntry → _ = λ e. e.position in
    record {
      count : length l.entries ≡ length l.initial.entries;
      flipped : map position (take l.i l.entries) ≡ take l.i (map (λ p. l.greatest - p) (map position l.initial.entries));
      left : drop l.i l.entries ≡ drop l.i l.initial.entries;
      looked : map (λ e. e.looked) l.entries ≡ map (λ e. e.looked) l.initial.entries;
      kept : map unplaced l.entries ≡ map unplaced l.initial.entries;
    }

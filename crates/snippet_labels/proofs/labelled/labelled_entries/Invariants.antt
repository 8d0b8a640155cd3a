use Rattle.snippet_labels.proofs.Common.{◌≡◌, ◌-◌, All, drop, length, map, reverse, range_with_len, shifted, HasItsLabel}
use Rattle.snippet_labels.proofs.labelled.labelled_entries.Given as goal

-- the entries from this one on have their labels, the last one first
abbrev pub invariant-loop-i : goal.invariant-loop-i
invariant-loop-i l = record {
  entries : map (λ e. e.entry) l.labelled.items ≡ reverse (map (shifted l.dropped) (drop l.i l.entries));
  labels : All (HasItsLabel l.layout) l.labelled.items;
  positions : All (λ e. e.position ≡ 0) l.labelled.items;
  looked : map (λ e. e.looked) l.labelled.items ≡ reverse (range_with_len l.i (length l.entries - l.i));
}

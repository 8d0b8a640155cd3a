use Rattle.snippet_labels.proofs.Common.{◌≡◌, ℕ, ◌<◌, ◌≤◌, false, get_or, asks, PlacedEntry}
use Rattle.snippet_labels.proofs.positions.askers_end.Given as goal

-- none between the end found so far and this entry asks
abbrev pub invariant-loop-i : goal.invariant-loop-i
invariant-loop-i l =
    (l.end ≤ l.i) × ((k : ℕ) (d : PlacedEntry) → l.end ≤ k → k < l.i → asks (get_or l.entries k d) ≡ false)

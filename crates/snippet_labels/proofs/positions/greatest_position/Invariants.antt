use Rattle.snippet_labels.proofs.Common.{◌≡◌, max, fold, take, PlacedEntry}
use Rattle.snippet_labels.proofs.positions.greatest_position.Given as goal

-- the greatest so far
abbrev pub invariant-loop-one : goal.invariant-loop-one
invariant-loop-one l = l.greatest ≡ fold (λ m (f : PlacedEntry). max m f.position) 0 (take l.one-index l.entries)

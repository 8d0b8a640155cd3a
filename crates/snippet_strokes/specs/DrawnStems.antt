-- Which stems the code draws.
use Rattle.std.specs.Prelude.{ℕ, ◌==◌, ◌&&◌, nat_le, Bool, false, List, [], ◌∷◌, ◌++◌, if◌then◌else◌}
use Rattle.snippet_grid.specs.Layout.{Layout}
use Rattle.snippet_labels.specs.declared.positions.PlacedEntry.{PlacedEntry}
use Rattle.snippet_labels.specs.Positions.{has_stem}
use Rattle.snippet_strokes.specs.Strokes.{stem_of}
use Rattle.snippet_strokes.specs.Writes.{Write}

-- whether the stem of the next of some later entries covers that of an entry: it stands in the same column, and reaches as far down
abbrev pub is_stem_covered : PlacedEntry → List PlacedEntry → Bool
is_stem_covered e [] = false
is_stem_covered e (next ∷ later) =
    has_stem next && (next.entry.start.display == e.entry.start.display && nat_le e.position next.position)

-- the stems of some entries, but those that the next one's covers
abbrev pub stems_of : Layout → ℕ → List PlacedEntry → List Write
stems_of layout row [] = []
stems_of layout row (e ∷ later) =
    (if is_stem_covered e later then [] else stem_of layout row e) ++ stems_of layout row later

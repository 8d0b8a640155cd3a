-- How many rows the strokes of a line take.
use Rattle.std.specs.Prelude.{ℕ, ◌+◌, ◌-◌, ◌==◌, Bool, List, if◌then◌else◌, length, map}
use Rattle.snippet_labels.specs.declared.positions.PlacedEntry.{PlacedEntry}
use Rattle.snippet_labels.specs.Positions.{are_starts, pieces_of}
use Rattle.snippet_parts.specs.Least.{greatest}

-- how many rows an entry needs below that of the marks: down to the last piece of a label that hangs, or of one that stands after its
-- mark; starts, which have no label, down to their lines to bars
abbrev pub rows_below : Bool → PlacedEntry → ℕ
rows_below starts e =
    if starts then e.position else (if e.position == 0 then length (pieces_of e) - 1 else e.position + length (pieces_of e))

-- how many rows the strokes of some entries take: that of the marks, and as many below it as any of them needs
abbrev pub row_count : List PlacedEntry → ℕ
row_count placed = greatest (map (rows_below (are_starts placed)) placed) + 1

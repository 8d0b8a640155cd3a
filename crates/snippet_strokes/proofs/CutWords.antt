-- What is cut of the rows of a line, as stretches of cells.
use Rattle.snippet_strokes.proofs.Common.{ℕ, ◌+◌, ◌-◌, Bool, List, [], ◌∷◌, length, ◌/◌, if◌then◌else◌, flat_map, zip, cells_replaced}
use Rattle.snippet_strokes.proofs.Common.{Layout, code_cell, PlacedEntry, is_wide_entry, Cell, text_cells, placeholder_of, DecorStyle, LineNumber}
use Rattle.std.specs.Prelude.{◌&&◌, max, not}

-- cells from one to before another
pub record Stretch : Type 0 where
  pub from : ℕ
  pub to : ℕ

-- what is cut for an entry, in a room of so many columns, if it is wide and not overlapped: its middle. A third of the room stays at each of
-- its ends, and five columns at least
abbrev pub cut_of : Layout → ℕ → PlacedEntry × Bool → List Stretch
cut_of layout room pair =
    let e = pair.0.entry in
    let kept = max 5 (room / 3) in
    if is_wide_entry room (length (placeholder_of layout.decor)) e && not pair.1
    then record { from = code_cell layout e.start.display + kept; to = code_cell layout e.end.display - kept } ∷ [] else []

-- what is cut of a line, for each of its entries in this order by what is known of the one at its place
abbrev pub cuts_of : Layout → ℕ → List PlacedEntry → List Bool → List Stretch
cuts_of layout room placed flags = flat_map (cut_of layout room) (zip placed flags)

-- the rows with the placeholder in place of these stretches, in one row and in that below it
abbrev pub cut_rows : DecorStyle → ℕ → List Stretch → List (List Cell) → List (List Cell)
cut_rows decor row [] rows = rows
cut_rows decor row (cut ∷ cuts) rows =
    let placeholder = text_cells LineNumber (placeholder_of decor) in
    cut_rows decor row cuts (cells_replaced (cells_replaced rows row cut.from cut.to placeholder) (row + 1) cut.from cut.to placeholder)

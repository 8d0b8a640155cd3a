-- Which cells a write reaches, and what it leaves there.
use Rattle.std.specs.Prelude.{ℕ, ◌+◌, ◌-◌, ◌<◌, ◌≤◌, ◌≡◌, false, All, length, slice_index_or}
use Rattle.snippet_strokes.proofs.Common.{Cell, unlinked_cell, is_listed, Write}

-- the write reaches this cell
pub record Reaches (r c : ℕ) (w : Write) : Type 0 where
  pub row : w.row ≡ r
  pub from : w.cell ≤ c
  pub to : c < w.cell + length w.text

-- the cell that it leaves there
abbrev pub cell_of_write : Write → ℕ → Cell
cell_of_write w c = unlinked_cell w.role (slice_index_or w.text (c - w.cell) 0)

-- a write leaves the rows above `row` and the cells left of `from` alone, adds no row to so many, and holds no listed character
pub record IsWithin (row count from : ℕ) (w : Write) : Type 0 where
  pub below : row ≤ w.row
  pub there : w.row < count
  pub right : from ≤ w.cell
  pub free : All (λ ch. is_listed ch ≡ false) w.text

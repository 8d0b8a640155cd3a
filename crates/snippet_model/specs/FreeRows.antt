-- What no row of a page may hold, whatever it shows.
use Rattle.std.specs.Prelude.{◌≡◌, ℕ, ◌≤◌, false, None, List, All}
use Rattle.std.specs.Char.{is_ascii_alphanumeric}
use Rattle.std.specs.List.{slice_index_or}
use Rattle.snippet_style.specs.Cell.{Cell, SPACE}
use Rattle.snippet_text.specs.Normalized.{is_listed}

-- a cell that holds no listed character, which could change how a terminal shows the text around it, and that belongs to no
-- link; and a row of such cells
abbrev pub IsFreeCell : Cell → Type 0
IsFreeCell cell = (is_listed cell.ch ≡ false) × (cell.link ≡ None)

-- a row of such cells
abbrev pub IsFree : List Cell → Type 0
IsFree row = All IsFreeCell row

-- no cell up to the one before the separator holds an ASCII letter or digit, so the row can't be taken for a line's
abbrev pub HasNoNumber : ℕ → List Cell → Type 0
HasNoNumber gutter row = (c : ℕ) → c ≤ gutter → is_ascii_alphanumeric (slice_index_or row c SPACE).ch ≡ false

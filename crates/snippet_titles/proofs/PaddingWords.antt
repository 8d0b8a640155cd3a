-- The row of a padding, in one word.
use Rattle.std.specs.Prelude.{ℕ, Bool, List, if◌then◌else◌}
use Rattle.snippet_titles.proofs.Common.{Cell, closing_row, separator_row, DecorStyle}

-- the row of a padding: the closing row where it is the group's last element, else the separator row
abbrev pub padding_row : DecorStyle → ℕ → Bool → List Cell
padding_row decor gutter last = if last then closing_row decor gutter else separator_row decor gutter

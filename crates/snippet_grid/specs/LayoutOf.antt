-- The layout that fields say.
use Rattle.std.specs.Prelude.{◌+◌, ◌≤◌}
use Rattle.snippet_grid.specs.Layout.{Layout}
use Rattle.snippet_grid.specs.declared.layout.Layout.TheInside.{Inside}
use Rattle.snippet_style.specs.Bounds.{IsCodeCell}

-- the layout that these fields say
abbrev pub layout_of : Inside → Layout
layout_of fields =
    record { gutter = fields.gutter; code = fields.code; decor = fields.decor; label_lines = fields.label_lines; label_end = fields.label_end }

-- what holds of each layout that rows are drawn at: its gutter is no wider than the longest line number, its code stands right of the
-- separator and the space after it, and so far left that a column of a line can be added to it
abbrev pub IsNarrow : Inside → Type 0
IsNarrow fields = (fields.gutter ≤ 20) × (fields.gutter + 3 ≤ fields.code) × IsCodeCell fields.code

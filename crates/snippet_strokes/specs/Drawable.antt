-- What a line has to have, and its entries, so that they can be drawn.
use Rattle.std.specs.Prelude.{◌≤◌, List, All, IfSome, length, ◌+◌, ◌<◌}
use Rattle.snippet_lines.specs.Number.{shown_number}
use Rattle.snippet_lines.specs.declared.number.LineNumbers.{LineNumbers}
use Rattle.snippet_parts.specs.declared.entries.AnnotatedLineInfo.{AnnotatedLineInfo}
use Rattle.snippet_parts.specs.declared.entries.LineAnnotation.{LineAnnotation}
use Rattle.snippet_text.specs.TextBounds.{TextFits}
use Rattle.snippet_style.specs.Bounds.{AreRows, FitsRow}
use Rattle.snippet_window.specs.Measures.{StandsClear}
use Rattle.snippet_window.specs.declared.margin.Margin.{Margin}
use Rattle.snippet_grid.specs.Layout.{Layout, separator_cell, inner_cell}
use Rattle.snippet_labels.specs.declared.positions.PlacedEntry.{PlacedEntry}
use Rattle.snippet_labels.specs.Placing.{HasPlace}
use Rattle.snippet_labels.specs.Positions.{pieces_of}
use Rattle.snippet_parts.specs.declared.entries.LineAnnotationType.{LineAnnotationType}
use Rattle.snippet_parts.specs.declared.entries.LineAnnotationType.TheVariants.{Singleline, MultilineStart, MultilineEnd, MultilineLine}

-- there is a cell for the bar of an entry, and one after it, between the separator and the code: bars stand from the inner
-- cell on, that of depth 1 first
abbrev pub HasBarCellAt : Layout → LineAnnotationType → Type 0
HasBarCellAt layout Singleline = Unit {0}
HasBarCellAt layout (MultilineStart depth) = (0 < depth) × (inner_cell layout + depth < layout.code)
HasBarCellAt layout (MultilineEnd depth) = (0 < depth) × (inner_cell layout + depth < layout.code)
HasBarCellAt layout (MultilineLine depth) = (0 < depth) × (inner_cell layout + depth < layout.code)

-- there is a cell for the bar of this entry, if it has one
abbrev pub HasBarCell : Layout → LineAnnotation → Type 0
HasBarCell layout e = HasBarCellAt layout e.annotation_type

-- the entries of a line can be drawn: each has its place, its bar, if it has one, has a cell, and the text of its label fits
pub record AreDrawable (layout : Layout) (es : List LineAnnotation) : Type 0 where
  pub columns : All HasPlace es
  pub bar_cells : All (HasBarCell layout) es
  pub labels : All (λ e. IfSome e.label TextFits) es

-- a line can be drawn: what the gutter shows beside it has room up to the separator, its text fits, its entries can be drawn, and
-- none of them stands left of the padding of the margin's left bound
pub record IsDrawableLine (layout : Layout) (margin : Margin) (numbers : LineNumbers) (info : AnnotatedLineInfo) : Type 0 where
  pub number : length (shown_number numbers layout.gutter info.line_index) ≤ separator_cell layout
  pub text : TextFits info.line.now
  pub entries : AreDrawable layout info.annotations.items
  pub clear : All (StandsClear margin) info.annotations.items

-- an entry that is placed can be drawn: the same, where each piece of its label fits a row, and there are no more pieces than a grid has rows
pub record IsReady (layout : Layout) (e : PlacedEntry) : Type 0 where
  pub columns : HasPlace e.entry
  pub bar_cell : HasBarCell layout e.entry
  pub short : All FitsRow (pieces_of e)
  pub few : AreRows (length (pieces_of e))

-- Entries of a line of which columns are dropped.
use Rattle.std.proofs.lemmas.Grind.{common_steps}
use Rattle.snippet_strokes.proofs.Common.{ℕ, List, All, map, arith, All-map, Layout, LineAnnotation, shifted, HasBarCell, HasPlace, AreDrawable, IfSome}
use Rattle.snippet_text.specs.TextBounds.{TextFits}

-- and they have their places, and their bars
pub shifted_places : (dropped : ℕ) (es : List LineAnnotation) → All HasPlace es → All HasPlace (map (shifted dropped) es)
shifted_places dropped es places =
    All-map HasPlace (shifted dropped) es (λ k d within. record {
      ordered = omega (arith, (places k d within).ordered);
      near = grind (arith, common_steps);
    })

-- bars have their cells also where entries are shifted
pub shifted_bars : (layout : Layout) (dropped : ℕ) (es : List LineAnnotation) → All (HasBarCell layout) es → All (HasBarCell layout) (map (shifted dropped) es)
shifted_bars layout dropped es bar_cells = All-map (HasBarCell layout) (shifted dropped) es bar_cells

-- so they can be drawn
pub drawable_shifted : (layout : Layout) (dropped : ℕ) (es : List LineAnnotation) → AreDrawable layout es → AreDrawable layout (map (shifted dropped) es)
drawable_shifted layout dropped es can = record {
  columns = shifted_places dropped es can.columns;
  bar_cells = shifted_bars layout dropped es can.bar_cells;
  labels = All-map (λ e. IfSome e.label TextFits) (shifted dropped) es can.labels;
}

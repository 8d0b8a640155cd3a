-- What each of some entries that can be drawn has.
use Rattle.snippet_strokes.proofs.Common.{ℕ, List, All, map, Layout, LineAnnotation, FitsRow, PlacedEntry, shifted, label_text, entries_all, AreDrawable}
use Rattle.snippet_strokes.proofs.Common.{IsReady, HasBarCell, HasPlace, ArePlaced, Bool, ◌≡◌, ap, arith, get_or, length, subst, sym}
use Rattle.snippet_style.specs.Bounds.{AreRows}
use Rattle.snippet_strokes.proofs.PieceWrites.{pieces_few, pieces_fit}
use Rattle.snippet_strokes.proofs.ShiftLemmas.{shifted_bars, shifted_places}
use Rattle.snippet_strokes.proofs.TextLemmas.{labels_short}
use Rattle.snippet_labels.proofs.PieceLemmas.{broken_short}
use Rattle.snippet_strokes.proofs.PieceWrites.{own_pieces}
use Rattle.snippet_strokes.proofs.Common.{broken, code_cell, label_place, text_pieces}
use Rattle.snippet_labels.specs.Positions.{pieces_of}
use Rattle.snippet_strokes.proofs.Common.{◌+◌, ◌<◌, ◌≤◌, ◌^◌}

module _ (layout : Layout) (placed : List PlacedEntry) (ready : All (IsReady layout) placed) where
  pub ready_places : All (λ e. HasPlace e.entry) placed
  ready_places k d within = (ready k d within).columns

  pub ready_bar_cells : All (λ e. HasBarCell layout e.entry) placed
  ready_bar_cells k d within = (ready k d within).bar_cell

  pub ready_texts : All (λ e. All FitsRow (pieces_of e)) placed
  ready_texts k d within = (ready k d within).short

  pub ready_few : All (λ e. AreRows (length (pieces_of e))) placed
  ready_few k d within = (ready k d within).few

-- entries that can be drawn can be drawn where they are placed, and columns of their line are dropped
pub all_ready : (layout : Layout) (dropped : ℕ) (es : List LineAnnotation) (placed : List PlacedEntry) → AreDrawable layout es
    → ArePlaced layout (map (shifted dropped) es) placed → All (IsReady layout) placed
all_ready layout dropped es placed drawable are k d within =
    let shown = map (shifted dropped) es in
    let text : List ℕ = label_text (get_or placed k d).entry in
    let cut : Bool = layout.label_lines in
    let cell : ℕ = code_cell layout (label_place (get_or placed k d)).1 in
    let broke : List ℕ = broken layout cell text in
    let is : pieces_of (get_or placed k d) ≡ text_pieces cut broke = own_pieces layout shown placed are k d within in
    let twice : length broke ≤ length text + length text = broken_short layout cell text in
    let fits : length text < 2 ^ 58 =
    entries_all (λ e. length (label_text e) < 2 ^ 58) shown placed are.same (labels_short dropped es drawable.labels) k d within in
    record {
      columns = entries_all HasPlace shown placed are.same (shifted_places dropped es drawable.columns) k d within;
      bar_cell = entries_all (HasBarCell layout) shown placed are.same (shifted_bars layout dropped es drawable.bar_cells) k d within;
      short = subst (All FitsRow) (sym is) (λ m p inside. omega (arith, pieces_fit cut broke m p inside, twice, fits));
      few = omega (arith, ap length is, pieces_few cut broke, twice, fits);
    }

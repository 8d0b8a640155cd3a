-- Elements that share no row with others.
use Rattle.std.proofs.Common.{arith}
use Rattle.annotate_snippets.proofs.Common.{◌≡◌, false, List, ◌++◌, append-nil, Cell, Element, element_rows, CanStandIn, begins_in_row_above}
use Rattle.annotate_snippets.proofs.Common.{shared_row, drawn_rows, cells_of, element_of, PreparedElement, Renderer, Layout, ElementContext}

-- the rows of such an element stand below what is there
pub plain_added : (r : Renderer) (layout : Layout) (around : ElementContext) (found : List Cell) (p : PreparedElement) (e : Element)
    (above old new rows : List (List Cell)) → element_of p ≡ e → CanStandIn around (element_of p)
    → (CanStandIn around e → (begins_in_row_above around ≡ false) × (around.shared ≡ false))
    → old ≡ above ++ shared_row (begins_in_row_above around) found → new ≡ old ++ rows → rows ≡ cells_of (element_rows r layout around found e)
    → new ≡ above ++ drawn_rows r layout around found (element_of p)
plain_added r layout around found p e above old new rows of stands plain old_is added is = grind (arith, append-nil, around.next)

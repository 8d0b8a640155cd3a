-- Cells and rows without line feeds: glyphs, the cells left of the code, and the rows in place of lines that are left out.
use Rattle.std.proofs.lemmas.Grind.{common_steps}
use Rattle.annotate_snippets.proofs.Common.{◌≡◌, ℕ, ◌+◌, ◌==◌, All, not, Bool, true, false, List, [], ◌∷◌, ◌++◌, get_or, replicate}
use Rattle.annotate_snippets.proofs.Common.{refl, ap, ◌∙◌, arith, inl, inr, list_all, list_any, cases_lt, eqb-true, get_or_past, All-append, All-cons}
use Rattle.annotate_snippets.proofs.Common.{All-contains, All-from_get_or, All-nil, All-replicate, AllPass-from_list_all, Cell, SPACE, text_cells}
use Rattle.annotate_snippets.proofs.Common.{unlinked_cell, bar_glyphs, closing_of, elision_of, separator_of, DecorStyle, Ascii, Unicode, LineNumber, IsBarCell}
use Rattle.annotate_snippets.proofs.Common.{IsElisionRow, bare_elision_row, bare_row, Layout, HasNoFeed, each-fails, All-text_cells, ElementStyle}
use Rattle.annotate_snippets.proofs.OneLineTexts.{HoldsNoFeed, IsNoFeed}
use Rattle.annotate_snippets.proofs.ListLemmas.{from_any}

-- ---- cells

-- a cell of a row, or a space after its end
pub at_any : (row : List Cell) → HasNoFeed row → (c : ℕ) → HoldsNoFeed (get_or row c SPACE)
at_any row all c = grind (arith, cases_lt, get_or_past)

-- one of some characters, none of which is a line feed
pub among : (gs : List ℕ) (ch : ℕ) → list_all (λ g. not (g == 10)) gs ≡ true → list_any (λ g. ch == g) gs ≡ true → IsNoFeed ch
among gs ch none some =
    let found = from_any (λ g. ch == g) gs some in
    let same : ch ≡ found.0 = eqb-true ch found.0 found.2 in
    let other : not (found.0 == 10) ≡ true = All-contains (λ g. not (g == 10) ≡ true) gs found.0 (AllPass-from_list_all (λ g. not (g == 10)) gs none) found.1 in
    ap (λ c. c == 10) same ∙ negated (found.0 == 10) other
  where
    negated : (b : Bool) → not b ≡ true → b ≡ false
    negated true is = cc
    negated false is = refl

-- the cell of a bar holds no line feed
pub bar_cell : (decor : DecorStyle) (cell : Cell) → IsBarCell decor cell → HoldsNoFeed cell
bar_cell Ascii cell is = among (bar_glyphs Ascii) cell.ch refl is.glyph
bar_cell Unicode cell is = among (bar_glyphs Unicode) cell.ch refl is.glyph

-- ---- rows left of the code

-- the cells of a text without line feeds hold none
pub cells_plain : (role : ElementStyle) (cs : List ℕ) → All IsNoFeed cs → HasNoFeed (text_cells role cs)
cells_plain role cs plain = All-text_cells HoldsNoFeed role cs plain

-- spaces before cells without line feeds add none
pub after_spaces : (n : ℕ) (cells : List Cell) → HasNoFeed cells → HasNoFeed (replicate n SPACE ++ cells)
after_spaces n cells all = All-append HoldsNoFeed (replicate n SPACE) cells (All-replicate HoldsNoFeed n SPACE refl) all

one : (cell : Cell) → HoldsNoFeed cell → HasNoFeed (cell ∷ [])
one cell holds = All-cons HoldsNoFeed cell [] holds (All-nil HoldsNoFeed)

-- a row of strokes before any stroke is drawn holds no line feed
pub bare-plain : (decor : DecorStyle) (gutter : ℕ) (closes : Bool) → HasNoFeed (bare_row decor gutter closes)
bare-plain Ascii gutter false = after_spaces (gutter + 1) (text_cells LineNumber (separator_of Ascii ∷ []))
    (one (unlinked_cell LineNumber (separator_of Ascii)) refl)
bare-plain Unicode gutter false = after_spaces (gutter + 1) (text_cells LineNumber (separator_of Unicode ∷ []))
    (one (unlinked_cell LineNumber (separator_of Unicode)) refl)
bare-plain decor gutter true = after_spaces (gutter + 1) (text_cells LineNumber (closing_of decor)) (cells_plain LineNumber (closing_of decor) (closing decor))
  where
    closing : (decor : DecorStyle) → All IsNoFeed (closing_of decor)
    closing Ascii = each-fails (λ c. c == 10) (closing_of Ascii) refl
    closing Unicode = each-fails (λ c. c == 10) (closing_of Unicode) refl

bare_elision : (decor : DecorStyle) (gutter : ℕ) → HasNoFeed (bare_elision_row decor gutter)
bare_elision Ascii gutter = cells_plain LineNumber (elision_of Ascii) (each-fails (λ c. c == 10) (elision_of Ascii) refl)
bare_elision Unicode gutter = grind (arith, after_spaces, cells_plain, each-fails)

-- a row in place of lines that are left out holds none
pub elided : (layout : Layout) (row : List Cell) → IsElisionRow layout row → HasNoFeed row
elided layout row shown =
    All-from_get_or HoldsNoFeed row SPACE (λ c within. elim (cases_lt c (layout.gutter + 3)) [
      | inl left ↦ grind (arith, common_steps, at_any, bare_elision, shown.left, layout.decor, layout.gutter)
      | inr after ↦ bar_cell layout.decor (get_or row c SPACE) (shown.bar_cells c (omega (arith, after)) (omega (arith, within, shown.ends)))
    ])

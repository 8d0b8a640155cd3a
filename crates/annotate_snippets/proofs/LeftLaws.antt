-- Laws of what stands left of the code: what follows for its characters, and which rows hold it.
use Rattle.std.proofs.lemmas.Grind.{common_steps}
use Rattle.annotate_snippets.proofs.Common.{◌≡◌, ℕ, zero, suc, ◌+◌, ◌-◌, ◌<◌, ◌≤◌, Bool, false, List, [], ◌∷◌, ◌++◌, codes}
use Rattle.annotate_snippets.proofs.Common.{length, take, get_or, replicate, refl, sym, ap, ◌∙◌, arith, is_ascii_alphanumeric, cases_lt, cases_eq}
use Rattle.annotate_snippets.proofs.Common.{false≢true, get_or-append_right, get_or-replicate, get_or-take, get_or_append_left, get_or_past, length-append}
use Rattle.annotate_snippets.proofs.Common.{length-replicate, length-take, take-append-le, take-take, take_all, Cell, SPACE, text_cells, unlinked_cell}
use Rattle.annotate_snippets.proofs.Common.{separator_of, DecorStyle, Ascii, Unicode, LineNumber, length-text_cells, row_text, HasNoNumber, IsSourceRow}
use Rattle.annotate_snippets.proofs.Common.{IsElisionRow, bare_elision_row, Layout, same_front, bare_row_left, IsRowBelow, cells_left, row_text-text_cells}

module _ (decor : DecorStyle) (gutter : ℕ) (shown : List ℕ) where
  abbrev spaces : List Cell
  spaces = replicate (gutter + 1 - length shown) SPACE

  abbrev end : List Cell
  end = text_cells LineNumber (separator_of decor ∷ [])

  long_left : length (cells_left decor gutter shown) ≡ length shown + (gutter + 1 - length shown) + 1
  long_left = grind (arith, length-append, length-text_cells, length-replicate)

  -- where a row begins so, the number leaves room for the separator
  number_fits : (row : List Cell) → take (gutter + 2) row ≡ cells_left decor gutter shown → length shown ≤ gutter + 1
  number_fits row is = omega (arith, long_left, ap length is, length-take (gutter + 2) row)

  -- and it begins with it, whole
  pub number_of_left : (row : List Cell) → take (gutter + 2) row ≡ cells_left decor gutter shown → row_text (take (length shown) row) ≡ shown
  number_of_left row is =
      let n : ℕ = length shown in
      let fits : n ≤ gutter + 2 = omega (arith, number_fits row is) in
      let cells : List Cell = text_cells LineNumber shown in
      let long : length cells ≡ n = length-text_cells LineNumber shown in
      ap row_text (sym (take-take n (gutter + 2) row fits) ∙ ap (take n) is ∙ take-append-le n cells (spaces ++ end) (omega (arith, long))
      ∙ take_all n cells (omega (arith, long))) ∙ row_text-text_cells LineNumber shown

  module _ (fits : length shown ≤ gutter + 1) where
    -- its cells, one by one
    at_number : (c : ℕ) → c < length shown → get_or (cells_left decor gutter shown) c SPACE ≡ get_or (text_cells LineNumber shown) c SPACE
    at_number c within = get_or_append_left (text_cells LineNumber shown) (spaces ++ end) SPACE c (omega (arith, within, length-text_cells LineNumber shown))

    after_number : (c : ℕ) → length shown ≤ c → get_or (cells_left decor gutter shown) c SPACE ≡ get_or (spaces ++ end) (c - length shown) SPACE
    after_number c right = get_or-append_right (text_cells LineNumber shown) (spaces ++ end) (length shown) c SPACE (length-text_cells LineNumber shown) right

    at_space : (c : ℕ) → length shown ≤ c → c < gutter + 1 → get_or (cells_left decor gutter shown) c SPACE ≡ SPACE
    at_space c right left =
        let n : ℕ = gutter + 1 - length shown in
        after_number c right ∙ get_or_append_left spaces end SPACE (c - length shown) (omega (arith, right, left, length-replicate n SPACE))
        ∙ get_or-replicate n (c - length shown) SPACE SPACE (omega (arith, right, left))

    at_separator : get_or (cells_left decor gutter shown) (gutter + 1) SPACE ≡ unlinked_cell LineNumber (separator_of decor)
    at_separator =
        let n : ℕ = gutter + 1 - length shown in
        let none : n - n ≡ 0 = omega arith in
        after_number (gutter + 1) fits ∙ get_or-append_right spaces end n n SPACE (length-replicate n SPACE) (omega arith) ∙ ap (λ i. get_or end i SPACE) none

  -- so the separator stands in its cell, in the role of line numbers
  pub separator_of_left : (row : List Cell) → take (gutter + 2) row ≡ cells_left decor gutter shown
      → get_or row (gutter + 1) SPACE ≡ unlinked_cell LineNumber (separator_of decor)
  separator_of_left row is = cc (get_or-take (gutter + 2) row (gutter + 1) SPACE (omega arith), is, at_separator (number_fits row is))

-- a row reaches as far as its separator
reaches_separator : (decor : DecorStyle) (row : List Cell) (c : ℕ) → get_or row c SPACE ≡ unlinked_cell LineNumber (separator_of decor) → c < length row
reaches_separator decor row c is = grind (arith, cases_lt, false≢true, get_or_past)

module _ (layout : Layout) (shown : List ℕ) (cells plain row : List Cell) (fits : length shown ≤ layout.gutter + 1) (place : layout.gutter + 3 ≤ layout.code)
    (is : IsSourceRow layout shown cells plain) (same : (c : ℕ) → c < layout.gutter + 3 → get_or row c SPACE ≡ get_or plain c SPACE) where
  -- left of the bars a row that is as a source row there holds the number, spaces and the separator
  left_cells : (c : ℕ) → c < layout.gutter + 2 → get_or row c SPACE ≡ get_or (cells_left layout.decor layout.gutter shown) c SPACE
  left_cells c left = grind (arith, cases_lt, get_or-take, at_number, cases_eq, at_separator, at_space)

  -- a source row's first cells are those left of the code for what it shows as its number
  pub left_of_source : take (layout.gutter + 2) row ≡ cells_left layout.decor layout.gutter shown
  left_of_source =
      let all : List Cell = cells_left layout.decor layout.gutter shown in
      let long : length all ≡ layout.gutter + 2 = omega (arith, long_left layout.decor layout.gutter shown, fits) in
      let reaches : layout.gutter + 1 < length row = grind (arith, common_steps, reaches_separator) in
      same_front row all (layout.gutter + 2) (omega (arith, reaches)) (omega (arith, long)) left_cells ∙ take_all (layout.gutter + 2) all (omega (arith, long))

  -- and after that a space
  pub space_of_source : get_or row (layout.gutter + 2) SPACE ≡ SPACE
  space_of_source = same (layout.gutter + 2) (omega arith) ∙ is.blank (layout.gutter + 2) (omega (arith, fits)) (λ at. omega (arith, at)) (omega (arith, place))

-- no row below a line holds a letter or digit in the gutter
pub unnumbered_below : (decor : DecorStyle) (layout : Layout) (closes : Bool) (row : List Cell) → IsRowBelow decor layout closes row
    → HasNoNumber layout.gutter row
unnumbered_below decor layout closes row is c left = cc (is.left c (omega (arith, left)), bare_row_left decor layout.gutter closes c left)

-- nor does a row in place of lines that are left out
bare_unnumbered : (decor : DecorStyle) (gutter c : ℕ) → c ≤ gutter → is_ascii_alphanumeric (get_or (bare_elision_row decor gutter) c SPACE).ch ≡ false
bare_unnumbered Ascii gutter zero left = refl
bare_unnumbered Ascii gutter (suc zero) left = refl
bare_unnumbered Ascii gutter (suc (suc zero)) left = refl
bare_unnumbered Ascii gutter (suc (suc (suc c))) left = refl
bare_unnumbered Unicode gutter c left = grind (arith, get_or_append_left, length-replicate, get_or-replicate)

-- the row for lines that are left out has no number
pub unnumbered_elided : (layout : Layout) (row : List Cell) → IsElisionRow layout row → HasNoNumber layout.gutter row
unnumbered_elided layout row shown c left = cc (shown.left c (omega (arith, left)), bare_unnumbered layout.decor layout.gutter c left)

-- ---- computed on small inputs

-- ` 7 |` beside line 7, at a gutter of 2, and `10|` where the number is one digit too long for a gutter of 1
right_aligned : cells_left Ascii 2 (codes " 7") ≡ text_cells LineNumber (codes " 7") ++ SPACE ∷ text_cells LineNumber (codes "|")
right_aligned = refl

too_long : cells_left Ascii 1 (codes "10") ≡ text_cells LineNumber (codes "10|")
too_long = refl

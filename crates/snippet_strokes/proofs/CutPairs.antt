-- Stretches that are cut in a row and in that below it: each of the two rows is cut.
use Rattle.snippet_strokes.proofs.Common.{◌≡◌, ◌∙◌, ℕ, ◌+◌, Bool, cond, false, true, List, [], ◌∷◌, fold, length, sym, ap, arith}
use Rattle.snippet_strokes.proofs.Common.{cases_lt, same_lists, zip, length-changed_within, slice_index_or-changed_within_after}
use Rattle.snippet_strokes.proofs.Common.{slice_index_or-changed_within_before, slice_index_or-changed_within_inside, changed_within, replaced_within, Layout}
use Rattle.snippet_strokes.proofs.Common.{PlacedEntry, is_wide_entry, Cell, text_cells, placeholder_of, DecorStyle, LineNumber, cut_middle, rules}
use Rattle.std.specs.Prelude.{◌&&◌, not}
use Rattle.snippet_strokes.proofs.CutLemmas.{cut_each, cut_one, middle_of}
use Rattle.snippet_strokes.proofs.CutWords.{Stretch, cut_of, cut_rows, cuts_of}
use Rattle.snippet_strokes.proofs.CellLemmas.{cut_row}

-- ---- elements of a list that are changed

module _ {X : Type 0} (a b : ℕ) (xs : List X) where
  -- by rules that say the same
  alike : (f g : X → X) → ((x : X) → f x ≡ g x) → changed_within f a b xs ≡ changed_within g a b xs
  alike f g same = search rules

  -- by one that leaves each
  left_alone : changed_within (λ x. x) a b xs ≡ xs
  left_alone =
      grind (
        arith,
        same_lists,
        length-changed_within,
        cases_lt,
        slice_index_or-changed_within_before,
        slice_index_or-changed_within_inside,
        slice_index_or-changed_within_after,
      )

  -- by one rule, and then by another
  one_by_one : (f g : X → X) → changed_within g a b (changed_within f a b xs) ≡ changed_within (λ x. g (f x)) a b xs
  one_by_one f g =
      grind (
        arith,
        same_lists,
        length-changed_within,
        cases_lt,
        slice_index_or-changed_within_before,
        slice_index_or-changed_within_inside,
        slice_index_or-changed_within_after,
      )

-- one element, and then the one after it
two_of_them : {X : Type 0} (f : X → X) (r : ℕ) (xs : List X)
    → changed_within f (r + 1) (r + 1 + 1) (changed_within f r (r + 1) xs) ≡ changed_within f r (r + 2) xs
two_of_them {X} f r xs =
    grind (
      arith,
      same_lists,
      length-changed_within,
      cases_lt,
      slice_index_or-changed_within_before,
      slice_index_or-changed_within_inside,
      slice_index_or-changed_within_after,
    )

-- ---- rows that are cut

-- the two rows are cut, and no other
rows_cut_within : (decor : DecorStyle) (row : ℕ) (cuts : List Stretch) (rows : List (List Cell))
    → cut_rows decor row cuts rows ≡ changed_within (cut_row decor cuts) row (row + 2) rows
rows_cut_within decor row [] rows = sym (left_alone row (row + 2) rows)
rows_cut_within decor row (cut ∷ cuts) rows =
    let change : List Cell → List Cell = replaced_within cut.from cut.to (text_cells LineNumber (placeholder_of decor)) in
    ap (cut_rows decor row cuts) (two_of_them change row rows) ∙ rows_cut_within decor row cuts (changed_within change row (row + 2) rows)
    ∙ one_by_one row (row + 2) rows change (cut_row decor cuts)

-- what is cut for an entry is cut of each
pub entry_cut : (layout : Layout) (room row : ℕ) (pair : PlacedEntry × Bool) (rows : List (List Cell))
    → cut_rows layout.decor row (cut_of layout room pair) rows ≡ changed_within (λ cells. cut_middle layout room cells pair) row (row + 2) rows
entry_cut layout room row pair rows = grind (arith, rows_cut_within, cut_one)

-- for one that isn't wide, or is overlapped, nothing
pub nothing_cut : (layout : Layout) (room row : ℕ) (pair : PlacedEntry × Bool) (rows : List (List Cell))
    → (is_wide_entry room (length (placeholder_of layout.decor)) pair.0.entry && not pair.1) ≡ false
    → rows ≡ changed_within (λ cells. cut_middle layout room cells pair) row (row + 2) rows
nothing_cut layout room row pair rows stays =
    sym (ap (λ b. cut_rows layout.decor row (cond b (middle_of layout room pair.0.entry ∷ []) []) rows) stays) ∙ entry_cut layout room row pair rows

-- for another its middle
pub middle_cut : (layout : Layout) (room row : ℕ) (pair : PlacedEntry × Bool) (rows new : List (List Cell))
    → (is_wide_entry room (length (placeholder_of layout.decor)) pair.0.entry && not pair.1) ≡ true
    → new ≡ cut_rows layout.decor row (middle_of layout room pair.0.entry ∷ []) rows
    → new ≡ changed_within (λ cells. cut_middle layout room cells pair) row (row + 2) rows
middle_cut layout room row pair rows new wide cut =
    cut ∙ sym (ap (λ b. cut_rows layout.decor row (cond b (middle_of layout room pair.0.entry ∷ []) []) rows) wide) ∙ entry_cut layout room row pair rows

-- and so for each of some
pub entries_cut : (layout : Layout) (room row : ℕ) (placed : List PlacedEntry) (flags : List Bool) (rows : List (List Cell))
    → cut_rows layout.decor row (cuts_of layout room placed flags) rows
    ≡ changed_within (λ cells. fold (cut_middle layout room) cells (zip placed flags)) row (row + 2) rows
entries_cut layout room row placed flags rows = simp (rows_cut_within, alike, cut_each)

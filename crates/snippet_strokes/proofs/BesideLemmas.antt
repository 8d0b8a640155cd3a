-- Bars that are drawn into a source row before its code.
use Rattle.std.proofs.lemmas.Grind.{common_steps}
use Rattle.snippet_strokes.proofs.Common.{◌≡◌, ◌≢◌, ℕ, ◌+◌, ◌-◌, ◌<◌, ◌≤◌, false, List, [], ◌∷◌, ◌++◌, length, get_or}
use Rattle.snippet_strokes.proofs.Common.{refl, sym, ap, ◌∙◌, arith, inl, inr, All, not, cases_eq, cases_lt, false≢true, not-true, list_any_at}
use Rattle.snippet_strokes.proofs.Common.{ext_get_or, All-head, All-tail, filter_passes, LineAnnotation, LineNumber, Cell, SPACE, text_cells, separator_of}
use Rattle.snippet_strokes.proofs.Common.{length-text_cells, length-written, slice_index_or-written_after, slice_index_or-written_before}
use Rattle.snippet_strokes.proofs.Common.{slice_index_or-written_inside, cells_written, Layout, bar_cell, separator_row-begun, BarStroke, Top, Solid, OpenBar}
use Rattle.snippet_strokes.proofs.Common.{bars_apart, HasBarRoom, bar_cell_part, barred, has_depth, with_cells, highlighted_row}
use Rattle.std.proofs.Common.{chars}
use Rattle.snippet_strokes.proofs.CellLemmas.{with_bar, with_parts}
use Rattle.snippet_strokes.proofs.BarLemmas.{BarsDrawn-with_parts}
use Rattle.snippet_strokes.proofs.BarRows.{barred-below}
use Rattle.snippet_strokes.proofs.LineFromValue.{highlighted_row_is}
use Rattle.snippet_strokes.proofs.CrossedLaws.{highlighted_left}
use Rattle.snippet_strokes.proofs.SourceRowLemmas.{front, number_written}
use Rattle.snippet_strokes.proofs.SwapLemmas.{cells-swap, written-swap}

-- a change of a row that may come before each of some bars or after it may come before all of them
pub bars_pass : (change : List Cell → List Cell) (layout : Layout) (stroke : BarStroke) (bars : List OpenBar) (row : List Cell)
    → All (λ bar. (cells : List Cell) → change (with_bar layout stroke cells bar) ≡ with_bar layout stroke (change cells) bar) bars
    → change (with_parts layout stroke bars row) ≡ with_parts layout stroke bars (change row)
bars_pass change layout stroke [] row pass = refl
bars_pass change layout stroke (bar ∷ bars) row pass =
    let P : OpenBar → Type 0 = λ b. (cells : List Cell) → change (with_bar layout stroke cells b) ≡ with_bar layout stroke (change cells) b in
    bars_pass change layout stroke bars (with_bar layout stroke row bar) (All-tail P bar bars pass)
    ∙ ap (with_parts layout stroke bars) (All-head P bar bars pass row)

-- highlighting, which changes no cell left of the code, may come after a bar or before it
module _ (layout : Layout) (dropped : ℕ) (es : List LineAnnotation) where
  abbrev lit : List Cell → List Cell
  lit = highlighted_row layout.code dropped es

  lit_bar : (stroke : BarStroke) (bar : OpenBar) → HasBarRoom layout bar → (cells : List Cell)
      → lit (with_bar layout stroke cells bar) ≡ with_bar layout stroke (lit cells) bar
  lit_bar stroke bar room cells =
      let at : ℕ = bar_cell layout bar.depth in
      let part : List Cell = bar_cell_part layout stroke bar ∷ [] in
      let one : List Cell = with_bar layout stroke cells bar in
      let new : List Cell = with_bar layout stroke (lit cells) bar in
      let over = highlighted_row_is layout.code dropped es one in
      let plain = highlighted_row_is layout.code dropped es cells in
      let long = length-written SPACE cells at part in
      let long_new = length-written SPACE (lit cells) at part in
      ext_get_or SPACE (lit one) new (omega (arith, over.width, long, long_new, plain.width)) (λ c within. elim (cases_lt c layout.code) [
        | inl left ↦
            highlighted_left layout.code dropped es one (lit one) over c left ∙ elim (cases_lt c at) [
              | inl before ↦
                  slice_index_or-written_before SPACE cells at part c before
                  ∙ sym (slice_index_or-written_before SPACE (lit cells) at part c before
                  ∙ highlighted_left layout.code dropped es cells (lit cells) plain c left)
              | inr past ↦ elim (cases_eq c at) [
                | inl here ↦
                    let j : ℕ = c - at in
                    let place : at + j ≡ c = omega (arith, past) in
                    let there : j < length part = omega (arith, here) in
                    ap (λ i. get_or one i SPACE) (sym place) ∙ slice_index_or-written_inside SPACE cells at part j SPACE there
                    ∙ sym (ap (λ i. get_or new i SPACE) (sym place) ∙ slice_index_or-written_inside SPACE (lit cells) at part j SPACE there)
                | inr other ↦
                    let after : at + length part ≤ c = omega (arith, past, other) in
                    slice_index_or-written_after SPACE cells at part c SPACE after
                    ∙ sym (slice_index_or-written_after SPACE (lit cells) at part c SPACE after
                    ∙ highlighted_left layout.code dropped es cells (lit cells) plain c left)
              ]
            ]
        | inr right ↦
            grind (arith, common_steps, at, part, one, over, long, slice_index_or-written_after, plain, room.1, over.width, over.cells, plain.cells)
      ])

  pub lit_bars : (stroke : BarStroke) (bars : List OpenBar) (row : List Cell) → All (HasBarRoom layout) bars
      → lit (with_parts layout stroke bars row) ≡ with_parts layout stroke bars (lit row)
  lit_bars stroke bars row room =
      bars_pass lit layout stroke bars row (λ k d within. lit_bar stroke (get_or bars k d) (room k d within))

-- the cells of the code, too
code_bar : (layout : Layout) (stroke : BarStroke) (bar : OpenBar) (cells : List Cell) → HasBarRoom layout bar → (row : List Cell)
    → with_cells layout.code cells (with_bar layout stroke row bar) ≡ with_bar layout stroke (with_cells layout.code cells row) bar
code_bar layout stroke bar [] room row = refl
code_bar layout stroke bar (x ∷ cells) room row =
    written-swap SPACE row (bar_cell_part layout stroke bar ∷ []) (x ∷ cells) (bar_cell layout bar.depth) layout.code (omega (arith, room.1))

-- and bars of other depths
bar_bar : (layout : Layout) (top bar : OpenBar) → bar.depth ≢ top.depth → (row : List Cell)
    → with_bar layout Solid (with_bar layout Top row top) bar ≡ with_bar layout Top (with_bar layout Solid row bar) top
bar_bar layout top bar other row = grind (arith, cases_lt, written-swap)

other_depths : (tops : List OpenBar) (depth : ℕ) → has_depth tops depth ≡ false → All (λ top. depth ≢ top.depth) tops
other_depths tops depth none k d within same = grind (arith, false≢true, list_any_at)

-- tops and bars of other depths
tops_pass : (layout : Layout) (tops past : List OpenBar) (row : List Cell) → All (λ bar. has_depth tops bar.depth ≡ false) past
    → with_parts layout Top tops (with_parts layout Solid past row) ≡ with_parts layout Solid past (with_parts layout Top tops row)
tops_pass layout tops past row apart =
    bars_pass (with_parts layout Top tops) layout Solid past row (λ k d within cells.
    let bar : OpenBar = get_or past k d in
    let others = other_depths tops bar.depth (apart k d within) in
    sym (bars_pass (λ cs. with_bar layout Solid cs bar) layout Top tops cells (λ i e inside. bar_bar layout (get_or tops i e) bar (others i e inside))))

-- a row that is drawn from left to right, bars and then the code, is the one that gets its bars last
pub bars_first : (layout : Layout) (tops past : List OpenBar) (cells row : List Cell) → All (HasBarRoom layout) tops → All (HasBarRoom layout) past
    → All (λ bar. has_depth tops bar.depth ≡ false) past
    → with_cells layout.code cells (with_parts layout Top tops (with_parts layout Solid past row))
    ≡ with_parts layout Solid past (with_parts layout Top tops (with_cells layout.code cells row))
bars_first layout tops past cells row tops_room past_room apart =
    ap (with_cells layout.code cells) (tops_pass layout tops past row apart)
    ∙ bars_pass (with_cells layout.code cells) layout Solid past (with_parts layout Top tops row)
    (λ k d within. code_bar layout Solid (get_or past k d) cells (past_room k d within))
    ∙ ap (with_parts layout Solid past) (bars_pass (with_cells layout.code cells) layout Top tops row
    (λ k d within. code_bar layout Top (get_or tops k d) cells (tops_room k d within)))

-- bars beside the last row
pub barred_last : (layout : Layout) (stroke : BarStroke) (bars : List OpenBar) (above new : List (List Cell)) (row : List Cell)
    → new ≡ above ++ row ∷ [] → barred layout stroke bars (length above) new ≡ above ++ with_parts layout stroke bars row ∷ []
barred_last layout stroke bars above new row is =
    ap (barred layout stroke bars (length above)) is ∙ barred-below layout stroke bars above (row ∷ [])

-- bars apart from others have none of their depths
pub apart_depths : (bars others : List OpenBar) → All (λ bar. has_depth others bar.depth ≡ false) (bars_apart bars others)
apart_depths bars others k d within =
    not-true _ (filter_passes (λ (bar : OpenBar). not (has_depth others bar.depth)) bars k d within)

-- bars don't reach to the code
pub bars_left : (layout : Layout) (stroke : BarStroke) (bars : List OpenBar) (row : List Cell) → All (HasBarRoom layout) bars → length row ≤ layout.code
    → length (with_parts layout stroke bars row) ≤ layout.code
bars_left layout stroke bars row room short = omega (arith, (BarsDrawn-with_parts layout stroke bars row room).short, short)

-- a row that begins with its number, after which comes the separator, is the one whose number is written over the separator's row
pub number_first : (layout : Layout) (number : List ℕ) (old mid new : List (List Cell)) (row stroke : ℕ) → row ≡ length old
    → length (chars number) ≤ layout.gutter + 1 → stroke ≡ separator_of layout.decor
    → (0 < length number → mid ≡ cells_written old row 0 (text_cells LineNumber (chars number))) → (number ≡ [] → mid ≡ old)
    → new ≡ cells_written mid row (layout.gutter + 1) (text_cells LineNumber (stroke ∷ [])) → new ≡ old ++ front layout (chars number) ∷ []
number_first layout number old mid new row stroke last short is writes stays separates =
    let digits : List Cell = text_cells LineNumber (chars number) in
    let line : List Cell = text_cells LineNumber (stroke ∷ []) in
    let put : List (List Cell) → List (List Cell) = λ rows. cells_written rows row (layout.gutter + 1) line in
    let begins = separator_row-begun old (put old) row layout.gutter stroke layout.decor last is refl in
    number_written layout number old (put old) new row last begins
    (λ some. separates ∙ ap put (writes some)
    ∙ cells-swap old row row 0 (layout.gutter + 1) digits line (omega (arith, length-text_cells LineNumber (chars number), short)))
    (λ none. separates ∙ ap put (stays none))

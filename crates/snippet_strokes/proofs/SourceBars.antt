-- The source row of a line with the bars that are drawn in it: left of them and from the code on it is what it was.
use Rattle.snippet_strokes.proofs.Common.{◌≡◌, ℕ, ◌+◌, ◌<◌, ◌≤◌, List, length, take, drop, sym, ap, ◌∙◌, subst, arith}
use Rattle.snippet_strokes.proofs.Common.{slice_index_or, take-take, All-from_get_or, AreReplaced, placeholder_of, row_text, cell_at, row_at, Cell, SPACE}
use Rattle.snippet_strokes.proofs.Common.{Layout, IsBarCell, IsFreeCell, IsFree, rules}
use Rattle.snippet_strokes.proofs.DrawnCells.{DrawsBarCells}
use Rattle.snippet_strokes.proofs.SeenRows.{HasNoBars, IsBeside, IsCut}
use Rattle.snippet_strokes.proofs.BegunLemmas.{free_cell, cut_left, same_front}

module _ (layout : Layout) (n : ℕ) (plain_row source : List Cell) (joined barred : List (List Cell)) (place : layout.gutter + 3 ≤ layout.code)
    (bare_bars : HasNoBars layout plain_row)
    (bars : DrawsBarCells layout n joined barred)
    (joined_source : row_at joined n ≡ plain_row)
    (barred_source : source ≡ row_at barred n) where
  source_left : (c : ℕ) → c < layout.gutter + 3 → slice_index_or source c SPACE ≡ slice_index_or plain_row c SPACE
  source_left c before = grind (arith)

  source_bar_cells : (c : ℕ) → layout.gutter + 3 ≤ c → c < layout.code → IsBarCell layout.decor (slice_index_or source c SPACE)
  source_bar_cells c right before = search rules

  source_code : drop layout.code source ≡ drop layout.code plain_row
  source_code = ap (drop layout.code) barred_source ∙ bars.code n ∙ ap (drop layout.code) joined_source

  source_long : length plain_row ≤ length source
  source_long = omega (arith, ap length barred_source, bars.longer n, ap length joined_source)

  source_free : IsFree plain_row → IsFree source
  source_free free =
      let P : Cell → Type 0 = IsFreeCell in
      let cells : (c : ℕ) → P (cell_at joined n c) = λ c.
      subst (λ cells. P (slice_index_or cells c SPACE)) (sym joined_source) (free_cell plain_row free c) in
      subst IsFree (sym barred_source) (All-from_get_or P (row_at barred n) SPACE (λ c _. bars.draws.free n cells c))

  -- it stays beside its bars where it is cut
  pub source_beside : (wide : ℕ) (row_now : List Cell) → IsCut layout wide source row_now → IsBeside layout wide plain_row row_now
  source_beside wide row_now cut =
      record {
        front = sym (take-take (layout.gutter + 2) layout.code row_now (omega (arith, place))) ∙ ap (take (layout.gutter + 2)) cut.left
            ∙ take-take (layout.gutter + 2) layout.code source (omega (arith, place))
            ∙ same_front source plain_row (layout.gutter + 2) (omega (arith, source_long, bare_bars.0))
            bare_bars.0 (λ c before. source_left c (omega (arith, before)));
        gap = cut_left layout wide source row_now cut (layout.gutter + 2) (omega (arith, place)) ∙ source_left (layout.gutter + 2) (omega arith);
        bar_cells = λ c right before. subst (IsBarCell layout.decor) (sym (cut_left layout wide source row_now cut c before)) (source_bar_cells c right before);
        text = subst (λ cells. AreReplaced (placeholder_of layout.decor) wide (row_text cells) (row_text (drop layout.code row_now))) source_code cut.text;
        uncut = λ none. ap (drop layout.code) (cut.uncut none) ∙ source_code;
        free = λ free. cut.free (source_free free);
      }

-- What is seen of the rows of a line from which middles are cut out is seen of the line as it was.
use Rattle.snippet_strokes.proofs.Common.{◌≡◌, ◌∙◌, ℕ, ◌+◌, ◌<◌, ◌≤◌, Bool, true, false, List, length, take, drop, sym, ap, subst, inl, inr, arith}
use Rattle.snippet_strokes.proofs.Common.{cases_Bool, and_parts, get_or, get_or-take, take-take, length-take, nat_tests, SPACE, Cell}
use Rattle.snippet_strokes.proofs.Common.{Layout, space_cell, LineAnnotation, placeholder_of, IsBarCell, middles_replaced, squeezed, is_uncut}
use Rattle.snippet_strokes.proofs.Common.{false≢true, list_all}
use Rattle.std.specs.Prelude.{◌&&◌, ◌==◌}
use Rattle.snippet_strokes.proofs.CutLemmas.{AreReplaced-more, AreReplaced-weaker}
use Rattle.snippet_strokes.proofs.SeenRows.{AreSeen, HasNoBars, IsBeside, IsStrokeRow, are_plain, has_column, is_single, wide_entries}
use Rattle.snippet_strokes.proofs.SqueezedLemmas.{Line, few_squeezed, narrow_same, row_squeezed, squeezed_same}

module _ (layout : Layout) (room : ℕ) (place : layout.gutter + 3 ≤ layout.code) where
  -- left of the code its row is the same
  pub squeezed_left : (cut : List LineAnnotation) (source : List Cell) (c : ℕ) → c < layout.code
      → get_or (middles_replaced layout room cut source) c SPACE ≡ get_or source c SPACE
  squeezed_left cut source c left =
      sym (get_or-take layout.code (middles_replaced layout room cut source) c SPACE left)
      ∙ ap (λ cells. get_or cells c SPACE) (row_squeezed layout room cut source).left ∙ get_or-take layout.code source c SPACE left

  pub bare_squeezed : (cut : List LineAnnotation) (source : List Cell) → HasNoBars layout source
      → HasNoBars layout (middles_replaced layout room cut source)
  bare_squeezed cut source bare =
      let now = middles_replaced layout room cut source in
      let same = ap length (row_squeezed layout room cut source).left in (
        omega (arith, bare.0, same, length-take layout.code now, length-take layout.code source, place),
        λ c from to. subst (IsBarCell layout.decor) (sym (squeezed_left cut source c to)) (bare.1 c from to),
      )

  is_zero : (n : ℕ) → (n == 0) ≡ true → n ≡ 0
  is_zero n is = grind (arith, nat_tests)

  -- a line that is squeezed has a wide entry
  plain_whole : (es : List LineAnnotation) → are_plain room layout.decor es ≡ true → length (squeezed layout room es).1 ≡ 0
  plain_whole es plain =
      let parts = and_parts (list_all is_single es) (list_all has_column es && wide_entries room layout.decor es == 0) plain in
      narrow_same layout room es (is_zero (wide_entries room layout.decor es) (and_parts (list_all has_column es) _ parts.1).1)

  module _ (closes : Bool) (es : List LineAnnotation) (source : List Cell) (rows : List (List Cell)) where
    abbrev line : Line
    line = squeezed layout room es

    abbrev now : List Cell
    now = middles_replaced layout room line.1 source

    -- its source row begins as that of the line does, and is cut once at most for each wide entry
    beside_whole : (row : List Cell) → IsBeside layout (wide_entries room layout.decor line.0) now row
        → IsBeside layout (wide_entries room layout.decor es) source row
    beside_whole row seen =
        let cut = row_squeezed layout room line.1 source in
        let few = few_squeezed layout room es in
        let wide : ℕ = wide_entries room layout.decor es in
        let left : ℕ = wide_entries room layout.decor line.0 in
        record {
          front = seen.front ∙ front_same now source cut.left;
          gap = seen.gap ∙ squeezed_left line.1 source (space_cell layout) (omega (arith, place));
          bar_cells = seen.bar_cells;
          text = AreReplaced-weaker (placeholder_of layout.decor) (length line.1 + left) wide _ _ few
              (AreReplaced-more (placeholder_of layout.decor) (length line.1) left _ _ _ cut.text seen.text);
          uncut = λ none. seen.uncut (omega (arith, none, few)) ∙ ap (drop layout.code) (cut.uncut (omega (arith, none, few)));
          free = λ free. seen.free (cut.free free);
        }
      where
        front_same : (a b : List Cell) → take layout.code a ≡ take layout.code b → take (space_cell layout) a ≡ take (space_cell layout) b
        front_same a b same =
            let inside : space_cell layout ≤ layout.code = omega (arith, place) in
            sym (take-take (space_cell layout) layout.code a inside) ∙ ap (take (space_cell layout)) same
            ∙ take-take (space_cell layout) layout.code b inside

    -- a row of its strokes is one of the line's, where that isn't plain
    stroke_whole : are_plain room layout.decor es ≡ false → (last plain : Bool) (row : List Cell) → IsStrokeRow layout plain line.0 last row
        → IsStrokeRow layout (are_plain room layout.decor es) es last row
    stroke_whole other last plain row is = record {
      left = is.left;
      bar_cells = is.bar_cells;
      before = λ so. absurd (false≢true (sym other ∙ so));
      free = is.free;
    }

    pub seen_squeezed : AreSeen layout room line.0 closes now rows → AreSeen layout room es closes source rows
    seen_squeezed seen =
        elim (cases_Bool (length line.1 == 0)) [
          | inl whole ↦ subst (λ (l : Line). AreSeen layout room l.0 closes (middles_replaced layout room l.1 source) rows)
              (squeezed_same layout room es (is_zero (length line.1) whole)) seen
          | inr cut ↦
              let other : are_plain room layout.decor es ≡ false = not_plain cut in
              record {
                source = seen.source;
                below = seen.below;
                rows_are = seen.rows_are;
                beside = beside_whole seen.source seen.beside;
                strokes = record {
                  some = λ plain. absurd (false≢true (sym other ∙ plain));
                  marks = λ plain. absurd (false≢true (sym other ∙ plain));
                  labels = λ uncut. absurd (squeezed_cut cut uncut);
                  are = λ k within. stroke_whole other _ _ _ (seen.strokes.are k within);
                };
              }
        ]
      where
        not_plain : (length line.1 == 0) ≡ false → are_plain room layout.decor es ≡ false
        not_plain cut =
            elim (cases_Bool (are_plain room layout.decor es)) [
              | inl plain ↦ absurd (false≢true (sym cut ∙ ap (λ n. n == 0) (plain_whole es plain)))
              | inr other ↦ other
            ]

        squeezed_cut : (length line.1 == 0) ≡ false → is_uncut room layout es ≡ true → ⊥
        squeezed_cut cut uncut = false≢true (sym cut ∙ (and_parts (length line.1 == 0) _ uncut).0)

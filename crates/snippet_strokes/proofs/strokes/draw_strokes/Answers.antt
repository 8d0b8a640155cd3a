use Rattle.std.proofs.lemmas.Grind.{common_steps}
use Rattle.snippet_strokes.proofs.Common.{◌≡◌, ◌∙◌, ◌+◌, ◌-◌, ◌<◌, ◌≤◌, ◌^◌, List, ◌++◌, ◌∷◌, [], Bool, true, ℕ}
use Rattle.snippet_strokes.proofs.Common.{All, map, replicate, ap, sym, subst, refl, arith, length, on_ok_weaker, Layout, length_push}
use Rattle.snippet_strokes.proofs.Common.{All-permutation, length_permutation, LineAnnotation, PlacedEntry, painting_order, row_count, AreEnough, HasRows}
use Rattle.snippet_strokes.proofs.Common.{AreDrawable, Cell, shifted, ArePlaced, HasPlace, list_any, overlapped, is_wide_at, bare_row, separator_row, painted}
use Rattle.snippet_strokes.proofs.Common.{with_blocks}
use Rattle.snippet_strokes.proofs.CutWords.{cut_rows, cuts_of}
use Rattle.snippet_strokes.proofs.CutPairs.{entries_cut}
use Rattle.snippet_strokes.proofs.PaintOrder.{IsPermutation-painting_order}
use Rattle.snippet_strokes.proofs.PieceWrites.{labels_some, pieces_whole}
use Rattle.snippet_strokes.proofs.PositionLemmas.{looked_of_placed, row_count_some}
use Rattle.snippet_strokes.proofs.BegunLemmas.{rows_begun, rows_ready}
use Rattle.snippet_strokes.proofs.ReadyLemmas.{all_ready, ready_few, ready_places}
use Rattle.snippet_strokes.proofs.SplitRows.{enough_begun}
use Rattle.snippet_strokes.proofs.CellLemmas.{drawn_strokes}
use Rattle.snippet_strokes.proofs.EveryMark.{strokes_painted}
use Rattle.snippet_strokes.proofs.LineFromValue.{own_none, own_strokes, painted_added}
use Rattle.snippet_strokes.proofs.ShiftLemmas.{drawable_shifted}
use Rattle.snippet_strokes.proofs.SqueezedLemmas.{Line, drawable_squeezed, shifted_none}
use Rattle.snippet_strokes.proofs.Common.{append_assoc, middles_replaced, squeezed, stroke_rows}
use Rattle.snippet_labels.specs.Positions.{pieces_of}
use Rattle.snippet_strokes.proofs.strokes.draw_strokes.Goals as goal

-- the entries of the line, as they are drawn
abbrev line_of : Layout → ℕ → ℕ → List LineAnnotation → List LineAnnotation
line_of layout room dropped es = (squeezed layout room (map (shifted dropped) es)).0

can : (layout : Layout) (room dropped : ℕ) (es : List LineAnnotation) → AreDrawable layout es → AreDrawable layout (line_of layout room dropped es)
can layout room dropped es drawable = drawable_squeezed layout room (map (shifted dropped) es) (drawable_shifted layout dropped es drawable)

are_from : {layout : Layout} {placed : List PlacedEntry} (es : List LineAnnotation) → ArePlaced layout es placed → ArePlaced layout (map (shifted 0)
    es) placed
are_from {layout = layout} {placed = placed} es are = subst (λ xs. ArePlaced layout xs placed) (sym (shifted_none es)) are

pub row_count-count-requires : goal.row_count-count-requires
row_count-count-requires c =
    let placed = c.in_ok-placed.placed in
    let is_placed = (are_from _ c.in_ok-placed.ensures.placed) in
    record {
      low = subst (All (λ (e : PlacedEntry). e.position < 2 ^ 60)) (sym c.deref-2.ensures.value) c.in_ok-placed.ensures.low;
      few = subst (All (λ (e : PlacedEntry). length (pieces_of e) ≤ 2 ^ 60)) (sym c.deref-2.ensures.value)
          (ready_few c.args.layout placed.items (all_ready c.args.layout 0 (line_of c.args.layout c.args.place.room c.args.place.dropped
          c.args.entries.now) placed.items
          (can c.args.layout c.args.place.room c.args.place.dropped c.args.entries.now c.requires.entries) is_placed));
      whole = λ uncut. subst (All (λ (e : PlacedEntry). length (pieces_of e) ≡ 1)) (sym c.deref-2.ensures.value)
          (pieces_whole c.args.layout uncut (map (shifted 0) (line_of c.args.layout c.args.place.room c.args.place.dropped c.args.entries.now))
          placed.items is_placed);
    }

pub overlapping-requires : goal.overlapping-requires
overlapping-requires c =
    let placed = c.in_ok-placed.placed in
    let is_placed = (are_from _ c.in_ok-placed.ensures.placed) in
    record {
      columns = subst (All (λ (e : PlacedEntry). HasPlace e.entry)) (sym c.deref.ensures.value)
          (ready_places c.args.layout placed.items (all_ready c.args.layout 0 (line_of c.args.layout c.args.place.room c.args.place.dropped
          c.args.entries.now) placed.items
          (can c.args.layout c.args.place.room c.args.place.dropped c.args.entries.now c.requires.entries) is_placed));
      looked = subst (All (λ (e : PlacedEntry). e.looked < 2 ^ 63)) (sym c.deref.ensures.value) (λ k d within.
          omega (
            arith,
            looked_of_placed c.args.layout (map (shifted 0) (line_of c.args.layout c.args.place.room c.args.place.dropped c.args.entries.now))
                placed.items is_placed k d within,
            placed.ok.0,
            placed.small,
          ));
    }

-- so many rows are enough, once it is known that there is room for them
module _ (layout : Layout) (dropped : ℕ) (entries : List LineAnnotation) (row count : ℕ) (placed : List PlacedEntry) (old : List (List Cell)) (closes : Bool)
    (drawable : AreDrawable layout entries) (are : ArePlaced layout (map (shifted dropped) entries) placed)
    (count_is : count ≡ row_count placed) (last : length old ≡ row + 1) where
  some_rows : 0 < count
  some_rows = omega (arith, count_is, row_count_some placed)

  rows_long : length (old ++ replicate (count - 1) (separator_row layout.decor layout.gutter) ++ bare_row layout.decor layout.gutter closes ∷ [])
      ≡ length old + count
  rows_long = grind (arith, rows_begun, some_rows)

  enough_rows : length old + count ≤ 2 ^ 60
      → AreEnough layout row (length (old ++ replicate (count - 1) (separator_row layout.decor layout.gutter)
      ++ bare_row layout.decor layout.gutter closes ∷ []))
      placed
  enough_rows small =
      enough_begun layout dropped entries old _ (separator_row layout.decor layout.gutter) (bare_row layout.decor layout.gutter closes) drawable are
      count_is last refl (omega (arith, small, rows_long))

-- each entry has the rows that it needs
ready : (layout : Layout) (placed : List PlacedEntry) (es : List LineAnnotation) → ArePlaced layout es placed → (old : List (List Cell)) (row count : ℕ)
    → count ≡ row_count placed
    → length old ≡ row + 1 → All (HasRows (row + 1) (length old + count)) placed
ready layout placed es are old row count count_is last =
    let begun : List (List Cell) = old ++ replicate (count - 1) [] ++ [] ∷ [] in
    rows_ready placed old begun [] [] count (row + 1) (length old + count) (labels_some layout es placed are) count_is (sym last) refl
    (sym (rows_begun old begun [] [] count (omega (arith, count_is, row_count_some placed)) refl))

pub draw_rows-requires : goal.draw_rows-requires
draw_rows-requires c =
    let placed = c.in_ok-placed.placed.items in
    let is_placed = (are_from _ c.in_ok-placed.ensures.placed) in
    let es = map (shifted 0) (line_of c.args.layout c.args.place.room c.args.place.dropped c.args.entries.now) in
    let are = is_placed in
    let count : c.row_count-count.result ≡ row_count placed = c.row_count-count.ensures.value ∙ ap row_count c.deref-2.ensures.value in
    record {
      some = omega (arith, count, row_count_some placed);
      last = c.in_ok-placed.ensures.last;
      rows = ready c.args.layout placed es are c.placed_line.new.buffer c.args.place.row c.row_count-count.result count c.in_ok-placed.ensures.last;
      ready = all_ready c.args.layout 0 (line_of c.args.layout c.args.place.room c.args.place.dropped c.args.entries.now) placed (can c.args.layout
          c.args.place.room c.args.place.dropped c.args.entries.now c.requires.entries) are;
    }

-- there is no more known of entries than there are
pub with_blocks-kept-requires : goal.with_blocks-kept-requires
with_blocks-kept-requires c =
    let placed = c.in_ok-placed.placed.items in
    record {
      count = omega (
        arith,
        c.in_ok-overlapped.ensures.count,
        ap length c.deref.ensures.value,
        length_permutation placed (painting_order placed) (IsPermutation-painting_order placed),
        ap length (c.deref-3.ensures.value ∙ c.in_ok-draw_rows.ensures.order),
      );
    }

-- the entries stand in the order of painting, and no row is added or taken after those that are begun
pub cut_wide-requires : goal.cut_wide-requires
cut_wide-requires c =
    let placed = c.in_ok-placed.placed.items in
    let is_placed = (are_from _ c.in_ok-placed.ensures.placed) in
    let closes = c.args.place.closes in
    let count : c.row_count-count.result ≡ row_count placed = c.row_count-count.ensures.value ∙ ap row_count c.deref-2.ensures.value in
    let enough = enough_rows c.args.layout 0 (line_of c.args.layout c.args.place.room c.args.place.dropped c.args.entries.now) c.args.place.row
    c.row_count-count.result placed c.placed_line.new.buffer closes
    (can c.args.layout c.args.place.room c.args.place.dropped c.args.entries.now c.requires.entries) is_placed count c.in_ok-placed.ensures.last
    c.in_ok-draw_rows.ensures.small in
    let long = rows_long c.args.layout 0 (line_of c.args.layout c.args.place.room c.args.place.dropped c.args.entries.now) c.args.place.row
    c.row_count-count.result placed c.placed_line.new.buffer closes
    (can c.args.layout c.args.place.room c.args.place.dropped c.args.entries.now c.requires.entries) is_placed count c.in_ok-placed.ensures.last in
    let marked = c.in_ok-draw_rows.ensures.count ∙ sym long in
    let ordered = c.deref-4.ensures.value ∙ c.in_ok-draw_rows.ensures.order in
    record {
      columns = subst (All (λ (e : PlacedEntry). HasPlace e.entry)) (sym ordered)
          (All-permutation (λ (e : PlacedEntry). HasPlace e.entry) placed (painting_order placed) (IsPermutation-painting_order placed)
          (ready_places c.args.layout placed enough.ready));
      count = omega (
        arith,
        ap length c.deref-5.ensures.value,
        c.with_blocks-kept.ensures.count,
        ap length c.deref-3.ensures.value,
        ap length c.deref-4.ensures.value,
      );
      rows = omega (arith, marked, enough.marks);
      small = omega (arith, marked, enough.small);
    }

pub returns-then-is_empty : goal.returns-then-is_empty
returns-then-is_empty c =
    grind (arith, on_ok_weaker, append_assoc, own_none, c.args.entries.now, c.args.place, c.args.layout, c.close_below.result, c.close_below.ensures.added)

pub returns : goal.returns
returns c =
    let es = map (shifted 0) (line_of c.args.layout c.args.place.room c.args.place.dropped c.args.entries.now) in
    let layout = c.args.layout in
    let row = c.args.place.row in
    let placed = c.in_ok-placed.placed.items in
    let is_placed = (are_from _ c.in_ok-placed.ensures.placed) in
    let after = painting_order placed in
    let old = c.placed_line.new.buffer in
    let sep = separator_row layout.decor layout.gutter in
    let end = bare_row layout.decor layout.gutter c.args.place.closes in
    let count : c.row_count-count.result ≡ row_count placed = c.row_count-count.ensures.value ∙ ap row_count c.deref-2.ensures.value in
    let begun : List (List Cell) = old ++ replicate (c.row_count-count.result - 1) sep ++ end ∷ [] in
    let new = c.draw_rows.new.buffer in
    let are = is_placed in
    let closes = c.args.place.closes in
    let some : 0 < length c.args.entries.now = grind arith in
    let whole : length begun ≡ length old + c.row_count-count.result = rows_long layout 0 (line_of c.args.layout c.args.place.room
    c.args.place.dropped c.args.entries.now) row
    c.row_count-count.result placed old closes (can c.args.layout c.args.place.room c.args.place.dropped c.args.entries.now c.requires.entries) are
    count c.in_ok-placed.ensures.last in
    let rows : List (List Cell) = old ++ replicate (row_count placed - 1) sep ++ end ∷ [] in
    let begun_is : begun ≡ rows = ap (λ n. old ++ replicate (n - 1) sep ++ end ∷ []) count in
    let all : ℕ = length old + row_count placed in
    let long : length begun ≡ all = rows_begun old begun sep end (row_count placed) (row_count_some placed) begun_is in
    let new_is : new ≡ painted (drawn_strokes layout row (length begun) placed after) begun = c.in_ok-draw_rows.ensures.painted
    ∙ strokes_painted layout row (length old + c.row_count-count.result) placed after begun
    ∙ ap (λ n. painted (drawn_strokes layout row n placed after) begun) (sym whole) in
    let flags = c.with_blocks-kept.result.items in
    let final = c.cut_wide.new.buffer in
    let cut_to : List PlacedEntry → List Bool → List (List Cell) = λ ps fs. cut_rows layout.decor row (cuts_of layout c.args.place.room ps fs) new in
    let final_is : final ≡ cut_to c.deref-4.result.now c.deref-5.result.now → final ≡ cut_to after flags =
    grind (arith, common_steps, cut_to, after, c.deref-5.result.now, c.deref-4.ensures.value, c.in_ok-draw_rows.ensures.order, c.deref-5.ensures.value) in
    let last_row : (above : List (List Cell)) (source : List Cell) → old ≡ above ++ source ∷ [] → row ≡ length above = λ above source old_is.
    omega (arith, c.in_ok-placed.ensures.last, ap length old_is, length_push above source) in
    record {
      value = on_ok_weaker c.cut_wide.result (λ value text above given other given_is.
          let line : Line = squeezed layout c.args.place.room (map (shifted c.args.place.dropped) c.args.entries.now) in
          let source : List Cell = middles_replaced layout c.args.place.room line.1 given in
          let old_is = c.in_ok-placed.ensures.row above given given_is in
          let all_rows : length new ≡ all = c.in_ok-draw_rows.ensures.count ∙ sym whole ∙ long in
          let is_wide : PlacedEntry → Bool = is_wide_at c.args.place.room layout.decor in
          let flags_are : list_any is_wide placed ≡ true → flags ≡ with_blocks layout after (overlapped placed) = λ some_wide.
          let known = c.in_ok-overlapped.ensures.value (ap (λ (l : Layout). list_any (is_wide_at c.args.place.room l.decor) c.deref.result.now)
          c.layout.view_is
          ∙ ap (list_any is_wide) c.deref.ensures.value ∙ some_wide) ∙ ap overlapped c.deref.ensures.value in
          let order = c.deref-3.ensures.value ∙ c.in_ok-draw_rows.ensures.order in
          c.with_blocks-kept.ensures.value ∙ ap (λ es. with_blocks layout es c.in_ok-overlapped.overlapped.items) order ∙ ap (with_blocks layout
          after) known in
          painted_added layout c.args.place.room c.args.place.closes es placed flags above source old new final row are old_is
          (last_row above source old_is) all_rows
          (new_is ∙ ap (λ n. painted (drawn_strokes layout row n placed after) begun) long ∙ ap (painted (drawn_strokes layout row all placed after))
          begun_is)
          flags_are (final_is (value ∙ sym (entries_cut layout c.args.place.room row c.deref-4.result.now c.deref-5.result.now new)))
          ∙ ap (λ xs. above ++ stroke_rows layout c.args.place.room closes xs source)
          (shifted_none (line_of layout c.args.place.room c.args.place.dropped c.args.entries.now))
          ∙ ap (λ rows. above ++ rows)
          (sym (own_strokes layout c.args.place.room closes text c.args.place.dropped c.args.entries.now given other some)))
          c.cut_wide.ensures.value;
    }

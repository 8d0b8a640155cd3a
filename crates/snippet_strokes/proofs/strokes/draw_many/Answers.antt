use Rattle.std.proofs.lemmas.Grind.{common_steps}
use Rattle.snippet_strokes.proofs.Common.{ℕ, Bool, ◌≡◌, ◌+◌, ◌-◌, ◌<◌, ◌≤◌, ◌^◌, ◌∙◌, ◌++◌, ◌∷◌, [], List, All}
use Rattle.snippet_strokes.proofs.Common.{ap, arith, drop, length, replicate, subst, sym, on_ok_weaker, append_assoc, length-append, length-drop, flat_map}
use Rattle.snippet_strokes.proofs.Common.{Layout, IsReady, AreEnough, HasRows, PlacedEntry, Cell, separator_row, mark_of, painting_order, bare_row}
use Rattle.snippet_strokes.proofs.Common.{line_strokes, strokes_under_marks, tops_of, painted}
use Rattle.snippet_strokes.proofs.CellLemmas.{drawn_strokes, marks_of}
use Rattle.snippet_strokes.proofs.EveryMark.{every_mark, strokes_painted, under_marks_painted}
use Rattle.snippet_strokes.proofs.ReadyLemmas.{ready_bar_cells}
use Rattle.snippet_strokes.proofs.SplitRows.{begun_enough, begun_long, count_marks, enough_after, rows_lifted, meeting_painted, tops_count}
use Rattle.snippet_strokes.proofs.EntryBarLaws.{marks_painted}
use Rattle.snippet_strokes.proofs.strokes.draw_many.Goals as goal

pub draw_tops-requires : goal.draw_tops-requires
draw_tops-requires c = grind (arith, ready_bar_cells, c.requires.last, c.args.layout, c.deref.ensures.value, c.args.placed.now.items, c.requires.ready)

-- the rows that are begun below one for the source row are enough
module _ (layout : Layout) (closes : Bool) (row count : ℕ) (placed : List PlacedEntry) (old source begun : List (List Cell)) (some : 0 < count)
    (last : length old ≡ row + 1) (rows : All (HasRows (row + 1) (length old + count)) placed) (ready : All (IsReady layout) placed)
    (one : source ≡ [] ∷ [])
    (begins : begun ≡ source ++ replicate (count - 1) (separator_row layout.decor layout.gutter) ++ bare_row layout.decor layout.gutter closes ∷ []) where
  source_long : length source ≡ 0 + 1
  source_long = ap length one

  lifted : All (HasRows (0 + 1) (length source + count)) placed
  lifted = subst (λ n. All (HasRows 1 (n + count)) placed) (sym source_long) (rows_lifted row count placed old last rows)

  dense_long : length begun ≡ 1 + count
  dense_long = begun_long layout 0 count placed source begun (separator_row layout.decor layout.gutter) (bare_row layout.decor layout.gutter closes) some
      source_long lifted begins ∙ ap (λ n. n + count) source_long

  dense_enough : length begun ≤ 2 ^ 60 → AreEnough layout 0 (length begun) placed
  dense_enough small = grind (arith, common_steps, begun_enough, source_long)

pub draw_under_marks-requires : goal.draw_under_marks-requires
draw_under_marks-requires c =
    record {
      enough = subst (AreEnough c.args.layout 0 (length c.begin_rows.new.buffer)) (sym c.deref-2.ensures.value)
          (dense_enough c.args.layout c.args.place.closes c.args.place.row c.args.count c.args.placed.now.items c.args.buffer.now c.in_ok-rows.rows
          c.begin_rows.new.buffer c.requires.some c.requires.last c.requires.rows c.requires.ready c.in_ok-rows.ensures.source c.in_ok-begin_rows.ensures.added
          c.in_ok-begin_rows.ensures.small);
    }

pub draw_marks-requires : goal.draw_marks-requires
draw_marks-requires c = record { row = omega arith; columns = λ k d within. (c.requires.ready k d within).columns.near }

-- what is painted, and how many rows there are
module _ (layout : Layout) (closes : Bool) (row count : ℕ) (placed after : List PlacedEntry) (old source begun under marked : List (List Cell))
    (some : 0 < count) (last : length old ≡ row + 1) (rows : All (HasRows (row + 1) (length old + count)) placed) (ready : All (IsReady layout) placed)
    (one : source ≡ [] ∷ [])
    (begins : begun ≡ source ++ replicate (count - 1) (separator_row layout.decor layout.gutter) ++ bare_row layout.decor layout.gutter closes ∷ [])
    (small : length begun ≤ 2 ^ 60) (below : under ≡ painted (strokes_under_marks layout 0 (length begun) placed) begun) (same : length under ≡ length begun)
    (marks : marked ≡ painted (flat_map (mark_of layout 1) after) under) (order : after ≡ painting_order placed) where
  enough : AreEnough layout 0 (length begun) placed
  enough = dense_enough layout closes row count placed old source begun some last rows ready one begins small

  as_drawn : marked ≡ painted (marks_of layout 1 (painting_order placed)) under
  as_drawn = marks ∙ every_mark layout 1 after under ∙ ap (λ ps. painted (marks_of layout 1 ps) under) order

  pub all_painted : marked ≡ painted (drawn_strokes layout 0 (count + 1) placed (painting_order placed)) begun
  all_painted = grind (arith, common_steps, marks_painted, under_marks_painted, as_drawn, dense_long)

  pub all_long : length marked ≡ 1 + count
  all_long = count_marks under marked (enough_after begun under enough same) (painting_order placed) as_drawn ∙ same
      ∙ dense_long layout closes row count placed old source begun some last rows ready one begins

pub append_below_source-requires : goal.append_below_source-requires
append_below_source-requires c =
    let layout = c.args.layout in
    let closes = c.args.place.closes in
    let row = c.args.place.row in
    let count = c.args.count in
    let placed = c.args.placed.now.items in
    let old = c.args.buffer.now in
    let begun = c.begin_rows.new.buffer in
    let under = c.draw_under_marks.new.buffer in
    let marked = c.draw_marks.new.buffer in
    let below = c.in_ok-draw_under_marks.ensures.painted ∙ ap (λ ps. painted (strokes_under_marks layout 0 (length begun) ps) begun) c.deref-2.ensures.value in
    let long = all_long layout closes row count placed c.draw_marks.new.placed.items old c.in_ok-rows.rows begun under marked c.requires.some c.requires.last
    c.requires.rows c.requires.ready c.in_ok-rows.ensures.source c.in_ok-begin_rows.ensures.added c.in_ok-begin_rows.ensures.small below
    c.in_ok-draw_under_marks.ensures.count c.in_ok-draw_marks.ensures.painted c.in_ok-draw_marks.ensures.order in
    record { rows = omega (arith, long, c.requires.some) }

pub returns : goal.returns
returns c =
    let layout = c.args.layout in
    let closes = c.args.place.closes in
    let row = c.args.place.row in
    let count = c.args.count in
    let placed = c.args.placed.now.items in
    let old = c.args.buffer.now in
    let begun = c.begin_rows.new.buffer in
    let under = c.draw_under_marks.new.buffer in
    let marked = c.draw_marks.new.buffer in
    let topped = c.draw_tops.new.buffer in
    let new = c.append_below_source.new.buffer in
    let bare : List (List Cell) = replicate (count - 1) (separator_row layout.decor layout.gutter) ++ bare_row layout.decor layout.gutter closes ∷ [] in
    let below = c.in_ok-draw_under_marks.ensures.painted ∙ ap (λ ps. painted (strokes_under_marks layout 0 (length begun) ps) begun) c.deref-2.ensures.value in
    let drawn = all_painted layout closes row count placed c.draw_marks.new.placed.items old c.in_ok-rows.rows begun under marked c.requires.some
    c.requires.last
    c.requires.rows c.requires.ready c.in_ok-rows.ensures.source c.in_ok-begin_rows.ensures.added c.in_ok-begin_rows.ensures.small below
    c.in_ok-draw_under_marks.ensures.count c.in_ok-draw_marks.ensures.painted c.in_ok-draw_marks.ensures.order in
    let long = all_long layout closes row count placed c.draw_marks.new.placed.items old c.in_ok-rows.rows begun under marked c.requires.some c.requires.last
    c.requires.rows c.requires.ready c.in_ok-rows.ensures.source c.in_ok-begin_rows.ensures.added c.in_ok-begin_rows.ensures.small below
    c.in_ok-draw_under_marks.ensures.count c.in_ok-draw_marks.ensures.painted c.in_ok-draw_marks.ensures.order in
    let begun_is : begun ≡ [] ∷ bare = c.in_ok-begin_rows.ensures.added ∙ ap (λ rows. rows ++ replicate (count - 1) (separator_row layout.decor layout.gutter)
    ++ bare_row layout.decor layout.gutter closes ∷ []) c.in_ok-rows.ensures.source
    ∙ append_assoc ([] ∷ []) (replicate (count - 1) (separator_row layout.decor layout.gutter)) (bare_row layout.decor layout.gutter closes ∷ []) in
    let tops : topped ≡ painted (tops_of layout row placed) old =
    grind (arith, common_steps, layout, old, placed, row, c.in_ok-draw_tops.ensures.painted, c.deref.ensures.value, c.requires.last) in
    let whole : old ++ replicate (count - 1) (separator_row layout.decor layout.gutter) ++ bare_row layout.decor layout.gutter closes ∷ [] ≡ old ++ bare =
    append_assoc old (replicate (count - 1) (separator_row layout.decor layout.gutter)) (bare_row layout.decor layout.gutter closes ∷ []) in
    let Painted : List (List Cell) → Type 0 = λ rows. rows ≡ painted (line_strokes layout row (length old + count) placed (painting_order placed))
    (old ++ replicate (count - 1) (separator_row layout.decor layout.gutter) ++ bare_row layout.decor layout.gutter closes ∷ []) in
    let full : new ≡ topped ++ drop 1 marked → Painted new = λ added. meeting_painted layout row count placed (painting_order placed) old topped marked new bare
    c.requires.last tops (drawn ∙ ap (painted (drawn_strokes layout 0 (count + 1) placed (painting_order placed))) begun_is) added
    ∙ ap (painted (drawn_strokes layout row (length old + count) placed (painting_order placed))) (sym whole)
    ∙ sym (strokes_painted layout row (length old + count) placed (painting_order placed) (old ++ replicate (count - 1)
    (separator_row layout.decor layout.gutter) ++ bare_row layout.decor layout.gutter closes ∷ [])) in
    let topped_long : length topped ≡ length old = tops_count layout row placed old topped c.requires.last tops in
    let many : new ≡ topped ++ drop 1 marked → length new ≡ length old + count =
    grind (arith, common_steps, length-append, topped, marked, length-drop, long, topped_long) in
    record {
      order = on_ok_weaker c.append_below_source.result (λ _. c.in_ok-draw_marks.ensures.order) c.append_below_source.ensures.added;
      painted = on_ok_weaker c.append_below_source.result full c.append_below_source.ensures.added;
      small = grind (arith, common_steps, many, c.append_below_source.result, c.append_below_source.ensures.added, c.append_below_source.ensures.small);
      count = on_ok_weaker c.append_below_source.result many c.append_below_source.ensures.added;
    }

use Rattle.snippet_strokes.proofs.Common.{◌≡◌, ◌∙◌, ◌<◌, ◌^◌, All, ap, sym, subst, All-permutation, on_ok_weaker, PlacedEntry}
use Rattle.snippet_strokes.proofs.Common.{painting_order}
use Rattle.snippet_strokes.proofs.PaintOrder.{IsPermutation-painting_order, alone_ordered}
use Rattle.snippet_strokes.proofs.Common.{arith, common_steps}
use Rattle.snippet_strokes.proofs.marks.draw_marks.Goals as goal
use Rattle.snippet_strokes.proofs.marks.draw_marks.Goals.{then-len-gt1+in_ok-sort_for_painting, else-len-gt1}

pub paint_entries-requires-clause-columns : goal.paint_entries-requires-clause-columns
paint_entries-requires-clause-columns g c =
    let P : PlacedEntry → Type 0 = λ e. e.entry.end.display < 2 ^ 60 in
    let es = c.args.placed.now.items in
    let ordered : c.if-len-gt1.placed.items ≡ painting_order es = elim c.if-len-gt1.branch [
      | then-len-gt1+in_ok-sort_for_painting w ↦ grind (arith, w.placed-is, w.in_ok-sort_for_painting.ensures.order)
      | else-len-gt1 w ↦ ap (λ v. v.items) w.placed-is ∙ alone_ordered es (omega (arith, w.if-len-gt1.false, c.len.ensures, c.args.placed.now.ok.0))
    ] in
    subst (All P) (sym (c.deref.ensures.value ∙ ordered)) (All-permutation P es (painting_order es) (IsPermutation-painting_order es) c.requires.columns)

-- several are sorted, and one alone is in order
pub returns : goal.returns
returns g c =
    let es = c.args.placed.now.items in
    let ordered : c.if-len-gt1.placed.items ≡ painting_order es = elim c.if-len-gt1.branch [
      | then-len-gt1+in_ok-sort_for_painting w ↦ grind (arith, w.placed-is, w.in_ok-sort_for_painting.ensures.order)
      | else-len-gt1 w ↦ ap (λ v. v.items) w.placed-is ∙ alone_ordered es (omega (arith, w.if-len-gt1.false, c.len.ensures, c.args.placed.now.ok.0))
    ] in
    record {
      painted = grind (arith, common_steps, on_ok_weaker, c.deref.ensures.value, c.paint_entries.ensures.painted);
      order = on_ok_weaker c.paint_entries.result (λ painted. ordered) c.paint_entries.ensures.painted;
    }

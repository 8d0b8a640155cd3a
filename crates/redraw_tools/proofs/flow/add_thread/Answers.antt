use Rattle.std.proofs.Common.{subst, sym}
use Rattle.redraw_tools.specs.Fixes.{AddsNotes, remarks}
use Rattle.redraw_tools.proofs.FixLemmas.{notes-more, notes-none}
use Rattle.redraw_tools.proofs.GoingOn.{going-more, going-none}
use Rattle.redraw_tools.proofs.flow.add_thread.Goals as goal
use Rattle.redraw_tools.proofs.flow.add_thread.Goals.{then-hidden-gt0+in_ok-text+in_ok-add_note, else-hidden-gt0}

pub loop-index-init : goal.loop-index-init
loop-index-init c = (going-none c.args.told.now.spans.items, notes-none (remarks c.args.told.now.children))

pub loop-index-preserved : goal.loop-index-preserved
loop-index-preserved c =
    let (kept, notes) = c.loop-index.invariant in
    (going-more _ _ _ kept c.in_ok-add_step_at.ensures.kept, notes-more _ _ _ notes c.in_ok-add_step_at.ensures.notes)

pub returns-clause-notes : goal.returns-clause-notes
returns-clause-notes c =
    let old = remarks c.args.told.now.children in
    let notes : AddsNotes old (remarks c.loop-index.told.children) = c.loop-index.invariant.1 in
    elim c.if-hidden-gt0.branch [
      | then-hidden-gt0+in_ok-text+in_ok-add_note w ↦
          subst (λ told. AddsNotes old (remarks told.children)) (sym w.told-is) (notes-more _ _ _ notes w.in_ok-add_note.ensures.notes)
      | else-hidden-gt0 w ↦ subst (λ told. AddsNotes old (remarks told.children)) (sym w.told-is) notes
    ]

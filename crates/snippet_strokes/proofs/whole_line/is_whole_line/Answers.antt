use Rattle.snippet_strokes.proofs.Common.{◌∙◌, ap, nat_cmp, sym, ord_max, norm, LineAnnotation}
use Rattle.std.proofs.Common.{chars}
use Rattle.snippet_strokes.proofs.BlankLemmas.{bar_passed, start_passed}
use Rattle.snippet_strokes.proofs.whole_line.is_whole_line.Goals as goal
use Rattle.snippet_strokes.proofs.whole_line.is_whole_line.Goals.{in-MultilineLine, in-MultilineStart}

pub loop-entry-preserved : goal.loop-entry-preserved
loop-entry-preserved c =
    let text = norm (chars c.args.line.now) in
    let part = ap (λ (e : LineAnnotation). e.annotation_type) (sym c.entry-item.is) in
    elim c.match-entry.branch [
      | in-MultilineLine w ↦ bar_passed text c.args.entries.now _ c.loop-entry.last_start _ _ _ c.loop-entry-test.true (part ∙ w.in-MultilineLine.is)
          w.last_start-is c.loop-entry.invariant
      | in-MultilineStart w ↦ start_passed text c.args.entries.now _ c.loop-entry.last_start _ _ _ c.loop-entry-test.true (part ∙ w.in-MultilineStart.is)
          (w.last_start-is ∙ w.max-last_start.ensures
          ∙ ap (λ (e : LineAnnotation). ord_max nat_cmp c.loop-entry.last_start e.start.display) c.entry-item.is)
          c.loop-entry.invariant
    ]

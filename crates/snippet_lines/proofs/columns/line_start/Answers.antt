use Rattle.snippet_lines.proofs.Common.{refl, subst, sym, IsCharBoundary-start, IsCharBoundary}
use Rattle.snippet_lines.proofs.TextLinesLemmas.{found-border, found-on, found-past}
use Rattle.snippet_lines.proofs.columns.line_start.Goals as goal
use Rattle.snippet_lines.proofs.columns.line_start.Goals.{then-byte-eq10, else-byte-eq10}

pub loop-at-init : goal.loop-at-init
loop-at-init c = record { found = refl; border = IsCharBoundary-start c.args.source.now c.utf8.source }

pub loop-at-preserved : goal.loop-at-preserved
loop-at-preserved c =
    let text = c.args.source.now in
    let bytes = c.as_bytes-byte-items.result.now in
    let same = c.as_bytes-byte-items.ensures.value in
    let within = c.loop-at-test.true in
    let at = c.loop-at.at in
    let start = c.loop-at.start in
    let left = c.loop-at.left in
    let before = c.loop-at.invariant.found in
    elim c.if-byte-eq10.branch [
      | then-byte-eq10 w ↦ record {
        found = found-past text bytes at start left _ _ same within w.if-byte-eq10.true c.if-left-eq0.false w.start-is w.left-is before;
        border = found-border text bytes at _ c.utf8.source same within w.if-byte-eq10.true w.start-is;
      }
      | else-byte-eq10 w ↦ record {
        found = found-on text bytes at start left _ _ same within w.if-byte-eq10.false w.start-is w.left-is before;
        border = subst (IsCharBoundary text) (sym w.start-is) c.loop-at.invariant.border;
      }
    ]

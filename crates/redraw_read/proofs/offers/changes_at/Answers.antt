use Rattle.std.proofs.Common.{◌++◌, ◌+◌, ◌∙◌, List, Option, ap, append_assoc, drop, map, slice_get, sym}
use Rattle.redraw_report.specs.Report.{edited_of}
use Rattle.redraw_report.specs.View.{Edited}
use Rattle.redraw_read.specs.Placed.{edit_at, edits_at}
use Rattle.redraw_read.specs.declared.spot.Spot.{Spot}
use Rattle.redraw_read.proofs.Offered.{edits-next, looked-up}
use Rattle.redraw_read.proofs.offers.changes_at.Goals as goal

pub loop-index-preserved : goal.loop-index-preserved
loop-index-preserved c =
    let spots = c.args.spots.now in
    let edits = c.args.edits.now in
    let i = c.loop-index.index in
    let e = c.index-edits-index.result in
    let old = map edited_of c.loop-index.changes.items in
    let rest = edits_at (drop (i + 1) spots) (drop (i + 1) edits) in
    let there = looked-up spots i c.get.result c.get.ensures.lookup.3 in
    ap (λ (l : List Edited). l ++ rest) (c.in_ok-add_change.ensures.added ∙ ap (λ (o : Option Spot). old ++ edit_at o e) there)
    ∙ append_assoc old (edit_at (slice_get spots i) e) rest
    ∙ ap (λ (l : List Edited). old ++ l) (sym (edits-next spots edits i e c.loop-index-test.true c.index-edits-index.is))
    ∙ c.loop-index.invariant

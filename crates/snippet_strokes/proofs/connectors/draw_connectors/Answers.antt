use Rattle.snippet_strokes.proofs.Common.{◌≡◌, ◌∙◌, List, ℕ, ap, arith, length, take, All, take_all, All-take, Cell, Layout}
use Rattle.snippet_strokes.proofs.Common.{PlacedEntry, HasRows, connector_of, connectors_of, painted}
use Rattle.snippet_strokes.proofs.BarWrites.{DrawsFrom-connectors}
use Rattle.snippet_strokes.proofs.WriteLaws.{painted_more}
use Rattle.snippet_strokes.proofs.Common.{common_steps}
use Rattle.snippet_strokes.proofs.connectors.draw_connectors.Goals as goal

-- lines to bars add no row
count_kept : (layout : Layout) (row i : ℕ) (es : List PlacedEntry) (old mid : List (List Cell)) → mid ≡ painted (connectors_of layout row (take i es)) old
    → All (HasRows row (length old)) es → length mid ≡ length old
count_kept layout row i es old mid so_far rows =
    ap length so_far ∙ (DrawsFrom-connectors layout row (take i es) old (All-take (HasRows row (length old)) i es rows)).count

pub draw_connector-requires-clause-place : goal.draw_connector-requires-clause-place
draw_connector-requires-clause-place g c = grind (arith, common_steps, count_kept)

pub loop-entry-preserved : goal.loop-entry-preserved
loop-entry-preserved g c =
    c.in_ok-draw_connector.ensures.painted ∙ painted_more (connector_of c.args.layout c.args.row) c.args.placed.now c.loop-entry.entry-index
    c.entry-item.result (g.C.Canvas.rows c.args.buffer.now) (g.C.Canvas.rows c.loop-entry.buffer) c.loop-entry-test.true c.entry-item.is c.loop-entry.invariant

pub returns : goal.returns
returns g c = grind (arith, common_steps, take_all)

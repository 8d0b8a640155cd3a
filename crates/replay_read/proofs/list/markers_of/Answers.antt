use Rattle.std.proofs.Common.{map, subst, sym, take, ◌+◌}
use Rattle.std.specs.List.{AllZip}
use Rattle.std.specs.Prelude.{All}
use Rattle.std.proofs.lemmas.List.Elements.{All-push}
use Rattle.serde_json.specs.View.{view}
use Rattle.replay_read.proofs.Listing.{items_more}
use Rattle.replay_read.proofs.list.markers_of.Goals as goal

pub loop-index-preserved : goal.loop-index-preserved
loop-index-preserved g c =
    let values = c.deref-value-items.result.now in
    let i = c.loop-index.index in
    let said = subst (λ v. (g.T.ReadMarker.says c.args.ruler.now.source.now c.args.ruler.now.unit)
    (view v) c.in_ok-read.field-0) c.item.ensures.value c.in_ok-read.ensures.value in
    let more = items_more (g.T.ReadMarker.says c.args.ruler.now.source.now c.args.ruler.now.unit) values i c.value-item.result c.loop-index.items.items
    c.in_ok-read.field-0 c.loop-index-test.true c.value-item.is c.loop-index.invariant.0 said in
    let fit = All-push g.T.ReadMarker.fits c.loop-index.items.items c.in_ok-read.field-0 c.loop-index.invariant.1 c.in_ok-read.ensures.fits in (
      subst (AllZip (g.T.ReadMarker.says c.args.ruler.now.source.now c.args.ruler.now.unit) (map view (take (i + 1) values)))
          (sym c.in_ok-push.ensures.items) more,
      subst (All g.T.ReadMarker.fits) (sym c.in_ok-push.ensures.items) fit,
    )

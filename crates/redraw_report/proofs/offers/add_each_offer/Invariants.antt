use Rattle.std.proofs.Common.{◌≡◌, ◌++◌, map, take}
use Rattle.std.specs.List.{flat_map}
use Rattle.redraw_report.specs.Report.{offered}
use Rattle.redraw_report.specs.View.{part_view}
use Rattle.redraw_report.proofs.offers.add_each_offer.Given as goal

-- what was added so far
abbrev pub invariant-loop-offer : goal.invariant-loop-offer
invariant-loop-offer l =
    map part_view l.elements.items ≡ map part_view l.initial.elements.items ++ flat_map (offered l.shows_gone) (take l.offer-index l.offers)

use Rattle.std.proofs.Common.{◌≡◌, ℕ, [], IsTrue, arith, subst, sym, take}
use Rattle.std.specs.List.{slice_range}
use Rattle.std.specs.Str.{IsCharBoundary, trim}
use Rattle.std.proofs.lemmas.Grind.{common_steps}
use Rattle.redraw_read.specs.Placed.{IsLastStart}
use Rattle.redraw_read.proofs.Offered.{one_start, start_border}
use Rattle.redraw_read.proofs.offers.attribute_in.Goals as goal

pub returns-then-not-is_blank_from-clause-none : goal.returns-then-not-is_blank_from-clause-none
returns-then-not-is_blank_from-clause-none c none h =
    let text = c.args.text.now in
    let at = c.args.spot.now.start in
    let start = c.in-Some.line.start in
    let begins : IsLastStart (take at text) start = c.in-Some.ensures.begins in
    let same : start ≡ h.start = one_start (take at text) start h.start begins h.begins in
    let border : IsCharBoundary text start = start_border text at start c.utf8.text h.border.0 begins in
    let blank : trim (slice_range text start at) ≡ [] = subst (λ (n : ℕ). trim (slice_range text n at) ≡ []) (sym same) h.blank in
    let yes : IsTrue c.is_blank_from.result = c.is_blank_from.ensures.told c.in-Some.ensures.from border h.border blank in
    grind (arith, common_steps, yes)

use Rattle.std.proofs.Common.{◌∙◌, inl, inr, refl, subst}
use Rattle.redraw_run.specs.Readings.{IsChosenReading}
use Rattle.redraw_run.specs.declared.look.ReportRenderer.{ReportRenderer}
use Rattle.redraw_run.proofs.Chosen.{first_meant, first_tried, none_meant, one_more_tried, other_meant}
use Rattle.redraw_run.proofs.readings.choose.Goals as goal

pub returns-then-is_first-clause-chosen : goal.returns-then-is_first-clause-chosen
returns-then-is_first-clause-chosen g c =
    let look = c.rustc_look_for-look.result in
    let text = c.args.text.now in
    let tried = c.in_ok-is_first.ensures.is in
    let chosen = first_meant look text c.args.first tried.0 tried.1 tried.2 (tried.3 ∙ c.if-is_first.true) in
    let look_of = c.rustc_look_for-look.ensures.look in
    (look_of.0, subst (λ (r : ReportRenderer). IsChosenReading r text c.args.first) look_of.1 chosen)

pub returns-then-is_first-clause-read : goal.returns-then-is_first-clause-read
returns-then-is_first-clause-read g c = inl refl

pub loop-reading-init : goal.loop-reading-init
loop-reading-init g c =
    let tried = c.in_ok-is_first.ensures.is in
    first_tried c.rustc_look_for-look.result c.args.text.now c.args.first tried.0 tried.1 tried.2 (tried.3 ∙ c.if-is_first.false)

pub loop-reading-preserved : goal.loop-reading-preserved
loop-reading-preserved g c =
    let tried = c.in_ok-is_meant.ensures.is in
    one_more_tried c.rustc_look_for-look.result c.args.text.now c.args.first tried.0 c.loop-reading.invariant tried.2 (tried.3 ∙ c.if-is_meant.false)

pub returns-then-is_meant-clause-chosen : goal.returns-then-is_meant-clause-chosen
returns-then-is_meant-clause-chosen g c =
    let look = c.rustc_look_for-look.result in
    let text = c.args.text.now in
    let tried = c.in_ok-is_meant.ensures.is in
    let chosen = other_meant look text c.args.first c.in_ok-other.other tried.0 c.loop-reading.invariant tried.1 tried.2 (tried.3 ∙ c.if-is_meant.true) in
    let look_of = c.rustc_look_for-look.ensures.look in
    (look_of.0, subst (λ (r : ReportRenderer). IsChosenReading r text c.in_ok-other.other) look_of.1 chosen)

pub returns-then-is_meant-clause-read : goal.returns-then-is_meant-clause-read
returns-then-is_meant-clause-read g c = inr c.in_ok-other.ensures.read

pub returns-clause-chosen : goal.returns-clause-chosen
returns-clause-chosen g c =
    let look = c.rustc_look_for-look.result in
    let text = c.args.text.now in
    let chosen = none_meant look text c.args.first c.loop-reading.invariant in
    let look_of = c.rustc_look_for-look.ensures.look in
    (look_of.0, subst (λ (r : ReportRenderer). IsChosenReading r text c.args.first) look_of.1 chosen)

pub returns-clause-read : goal.returns-clause-read
returns-clause-read g c = inl refl

use Rattle.std.proofs.Common.{◌≡◌, ◌≤◌, ℕ, List, [], drop, take, ap, arith, length, subst}
use Rattle.std.proofs.lemmas.Grind.{common_steps}
use Rattle.std.proofs.lemmas.List.{length-take-le}
use Rattle.std.proofs.lemmas.Str.{IsCharBoundary-start, IsCharBoundary-end}
use Rattle.redraw_read.specs.Placed.{HasNoFeed, IsLastStart, IsLineIn}
use Rattle.redraw_read.proofs.Offered.{reaches, start_border}
use Rattle.redraw_read.proofs.offers.line_around.Goals as goal

pub returns-clause-to : goal.returns-clause-to
returns-clause-to c =
    let text = c.args.text.now in
    let at = c.args.at in
    let start = c.last_start-start.result in
    let front : c.in_ok-get.field-0.now ≡ take at text = grind (arith, common_steps) in
    let rest : c.in_ok-get-2.field-0.now ≡ drop start text = grind (arith, common_steps) in
    let within : at ≤ length text = omega (arith, c.in_ok-get.ensures.cases) in
    let from : start ≤ at = omega (arith, c.last_start-start.ensures.is.within, ap length front, length-take-le at text within) in
    reaches text at start c.first_line.result.now within from
    (subst (λ (l : List ℕ). HasNoFeed (drop start l)) front c.last_start-start.ensures.is.last)
    (subst (λ (l : List ℕ). IsLineIn l c.first_line.result.now []) rest c.first_line.ensures.is)

pub returns-in_err-get-clause-none : goal.returns-in_err-get-clause-none
returns-in_err-get-clause-none c none border = c.in_err-get.ensures.cases (omega arith) (IsCharBoundary-start c.args.text.now c.utf8.text) border

pub returns-in_err-get-2-clause-none : goal.returns-in_err-get-2-clause-none
returns-in_err-get-2-clause-none c none border =
    let text = c.args.text.now in
    let at = c.args.at in
    let start = c.last_start-start.result in
    let front : c.in_ok-get.field-0.now ≡ take at text = grind (arith, common_steps) in
    let within : at ≤ length text = omega (arith, c.in_ok-get.ensures.cases) in
    let begins : IsLastStart (take at text) start = subst (λ (l : List ℕ). IsLastStart l start) front c.last_start-start.ensures.is in
    c.in_err-get-2.ensures.cases (omega (arith, begins.within, length-take-le at text within)) (start_border text at start c.utf8.text within begins)
    (IsCharBoundary-end text)

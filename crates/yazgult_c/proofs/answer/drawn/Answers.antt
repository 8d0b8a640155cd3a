use Rattle.std.proofs.Common.{sym, subst}
use Rattle.yazgult_c.specs.AnswerBytes.{IsDrawn}
use Rattle.yazgult_c.proofs.Drawing.{drawn_is}
use Rattle.yazgult_c.proofs.answer.drawn.Goals as goal

pub returns : goal.returns
returns c =
    let r = c.args.request.now in
    let drawn = c.render_sheets.ensures in
    let made = c.renderer-renderer in
    let groups = c.deref in
    let sheets = c.deref-2 in
    let given = c.render_sheets.result in
    let same = drawn_is made.result groups.result.now sheets.result.now r given made.ensures.renderer groups.ensures.value sheets.ensures.value in
    let is = same c.requires.fits drawn.refused drawn.renders drawn.shows drawn.laws in
    record { drawn = subst (IsDrawn r) (sym c.answered.ensures.answer) is }

use Rattle.snippet_window.proofs.Common.{common_steps, ◌≡◌, ◌∙◌, ap, arith, min, take, drop, width_of, falling_short, window_left}
use Rattle.std.proofs.Common.{chars}
use Rattle.snippet_window.proofs.NearLemmas.{near_holds, right_is, width_left}
use Rattle.snippet_window.proofs.near.near_part.Goals as goal

pub part_reaching-requires-clause-width : goal.part_reaching-requires-clause-width
part_reaching-requires-clause-width c =
    grind (arith, common_steps, width_left, c.requires.width, c.after_fewer-skipped.ensures.width, c.after_fewer-skipped.ensures.rest)

pub returns-clause-holds : goal.returns-clause-holds
returns-clause-holds c =
    let margin = c.args.margin in
    let cs = chars c.args.line.now in
    let left : c.left-left.result ≡ window_left margin.computed_left cs = c.left-left.ensures.value ∙ ap (min margin.computed_left) c.requires.width in
    let skipped = c.after_fewer-skipped.ensures.width ∙ ap (λ n. width_of (take (falling_short n cs) cs)) left in
    let rest = c.after_fewer-skipped.ensures.rest ∙ ap (λ n. drop (falling_short n cs) cs) left in
    let right = right_is margin.term_width margin.computed_left margin.computed_right c.args.width c.right.result cs c.requires.width c.right.ensures.value in
    near_holds margin.term_width margin.computed_left margin.computed_right c.after_fewer-skipped.result.0 _ cs (chars c.after_fewer-skipped.result.1.now)
    (chars c.part_reaching.result.now) skipped rest (omega (arith, left, c.saturating_sub-columns.ensures, right)) c.part_reaching.ensures.value

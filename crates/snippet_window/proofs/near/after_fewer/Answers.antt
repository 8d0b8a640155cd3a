use Rattle.snippet_window.proofs.Common.{common_steps, ◌-◌, arith, fitting}
use Rattle.std.proofs.Common.{chars}
use Rattle.snippet_window.proofs.LineWindowLemmas.{cut_boundary, cut_back}
use Rattle.snippet_window.proofs.NearLemmas.{fitting_width, falling_short-some}
use Rattle.snippet_window.proofs.near.after_fewer.Goals as goal

pub range_from-requires : goal.range_from-requires
range_from-requires c _ =
    cut_boundary c.args.text.now (fitting (c.args.columns - 1) (chars c.args.text.now)) c.fitting_end-at.result.0 c.utf8.text c.fitting_end-at.ensures.bytes

pub returns-else-columns-eq0-clause-within : goal.returns-else-columns-eq0-clause-within
returns-else-columns-eq0-clause-within c =
    omega (arith, c.fitting_end-at.ensures.width, fitting_width (c.args.columns - 1) (chars c.args.text.now))

pub returns-else-columns-eq0-clause-near : goal.returns-else-columns-eq0-clause-near
returns-else-columns-eq0-clause-near c most =
    omega (arith, c.fitting_end-at.ensures.near (omega (arith, most)))

pub returns-else-columns-eq0-clause-rest : goal.returns-else-columns-eq0-clause-rest
returns-else-columns-eq0-clause-rest c =
    grind (arith, common_steps, c.range_from.ensures.value, cut_back, c.utf8.text, c.fitting_end-at.ensures.bytes, falling_short-some)

use Rattle.snippet_window.proofs.Common.{common_steps, arith, fitting}
use Rattle.std.proofs.Common.{chars}
use Rattle.snippet_window.proofs.LineWindowLemmas.{cut_boundary, cut_front}
use Rattle.snippet_window.proofs.window.within_columns.Goals as goal

pub range-requires-clause-end_boundary : goal.range-requires-clause-end_boundary
range-requires-clause-end_boundary c =
    cut_boundary c.args.text.now (fitting c.args.columns (chars c.args.text.now)) c.fitting_end-at.result.0 c.utf8.text c.fitting_end-at.ensures.bytes

pub returns : goal.returns
returns c = grind (arith, common_steps, c.range.ensures.value, cut_front, c.utf8.text, c.fitting_end-at.ensures.bytes, c.fitting_end-at.ensures.width)

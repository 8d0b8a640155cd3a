use Rattle.snippet_window.proofs.Common.{common_steps, arith, reaching}
use Rattle.std.proofs.Common.{chars}
use Rattle.snippet_window.proofs.LineWindowLemmas.{cut_boundary, cut_back}
use Rattle.snippet_window.proofs.window.after_columns.Goals as goal

pub range_from-requires : goal.range_from-requires
range_from-requires c _ =
    cut_boundary c.args.text.now (reaching c.args.columns (chars c.args.text.now)) c.reaching_end-at.result.0 c.utf8.text c.reaching_end-at.ensures.bytes

pub returns-clause-rest : goal.returns-clause-rest
returns-clause-rest c = grind (arith, common_steps, c.range_from.ensures.value, cut_back, c.utf8.text, c.reaching_end-at.ensures.bytes)

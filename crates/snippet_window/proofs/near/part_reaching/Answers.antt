use Rattle.snippet_window.proofs.Common.{common_steps, arith, ap, sym, width_of, reaching}
use Rattle.std.proofs.Common.{chars}
use Rattle.snippet_window.proofs.LineWindowLemmas.{cut_boundary, cut_front, reaching_whole}
use Rattle.snippet_window.proofs.near.part_reaching.Goals as goal

pub range-requires-clause-end_boundary : goal.range-requires-clause-end_boundary
range-requires-clause-end_boundary c =
    cut_boundary c.args.text.now (reaching c.args.columns (chars c.args.text.now)) c.reaching_end-at.result.0 c.utf8.text c.reaching_end-at.ensures.bytes

pub returns-then-width-columns-clause-value : goal.returns-then-width-columns-clause-value
returns-then-width-columns-clause-value c =
    sym (reaching_whole c.args.columns (chars c.args.text.now) (omega (arith, c.requires.width, c.if-width-columns.true)))

pub returns-clause-value : goal.returns-clause-value
returns-clause-value c = grind (arith, common_steps, c.range.ensures.value, cut_front, c.utf8.text, c.reaching_end-at.ensures.bytes)

pub returns-clause-near : goal.returns-clause-near
returns-clause-near c = omega (arith, ap width_of (returns-clause-value c), c.reaching_end-at.ensures.width, c.reaching_end-at.ensures.near)

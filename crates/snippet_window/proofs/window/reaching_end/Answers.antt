use Rattle.snippet_window.proofs.Common.{common_steps, arith}
use Rattle.snippet_window.proofs.LineWindowLemmas.{bytes_within, cut_boundary, none_reaching}
use Rattle.snippet_window.proofs.PlainFront.{bytes_front, plain_cut, reached_front, width_front}
use Rattle.snippet_window.proofs.window.reaching_end.Goals as goal

pub returns-then-columns-eq0 : goal.returns-then-columns-eq0
returns-then-columns-eq0 c = grind (arith, common_steps, none_reaching)

pub range_from-requires : goal.range_from-requires
range_from-requires c _ =
    let k = c.plain_start-plain.result in
    let text = c.args.text.now in
    cut_boundary text k k c.utf8.text (plain_cut text k c.plain_start-plain.ensures.inside c.plain_start-plain.ensures.plain)

pub returns : goal.returns
returns c =
    grind (
      arith,
      common_steps,
      c.plain_start-plain.ensures,
      c.walked_reaching-at,
      c.range_from.ensures.value,
      reached_front c.args.columns c.args.text.now c.plain_start-plain.result c.plain_start-plain.ensures.inside
          c.plain_start-plain.ensures.within c.plain_start-plain.ensures.plain,
      c.plain_start-plain.ensures.within,
      c.plain_start-plain.ensures.plain,
      c.walked_reaching-at.ensures.bytes,
      c.walked_reaching-at.ensures.width,
      bytes_front,
      width_front,
      c.walked_reaching-at.ensures.near,
    )

pub overflow_add-result : goal.overflow_add-result
overflow_add-result c = grind (arith, common_steps, bytes_within, c.range_from.utf8, c.range_from.ensures.value, c.walked_reaching-at.ensures.bytes)

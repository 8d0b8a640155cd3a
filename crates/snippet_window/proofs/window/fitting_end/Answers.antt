use Rattle.snippet_window.proofs.Common.{common_steps, arith, nat_tests, width_of-chars}
use Rattle.snippet_window.proofs.LineWindowLemmas.{bytes_within, cut_boundary, fitting_whole, none_fitting, whole_bytes}
use Rattle.snippet_window.proofs.PlainFront.{bytes_front, plain_chars, plain_cut, taken_front, width_front}
use Rattle.snippet_window.proofs.window.fitting_end.Goals as goal

pub returns-then-is_empty : goal.returns-then-is_empty
returns-then-is_empty c = grind (arith, common_steps, nat_tests, c.is_empty.ensures, c.if-is_empty.true, none_fitting, width_of-chars)

pub returns-in-Some : goal.returns-in-Some
returns-in-Some c = grind (arith, common_steps, c.in-Some.is, c.whole_width.ensures.value, c.whole_width.ensures.fits, whole_bytes, c.utf8.text, fitting_whole)

pub range_from-requires : goal.range_from-requires
range_from-requires c _ =
    let k = c.plain_start-plain.result in
    let text = c.args.text.now in
    cut_boundary text k k c.utf8.text (plain_cut text k c.plain_start-plain.ensures.inside c.plain_start-plain.ensures.plain)

pub returns-in-None : goal.returns-in-None
returns-in-None c =
    grind (
      arith,
      common_steps,
      c.plain_start-plain.ensures,
      c.walked_end-at,
      c.range_from.ensures.value,
      taken_front c.args.columns c.args.text.now c.plain_start-plain.result c.plain_start-plain.ensures.inside
          c.plain_start-plain.ensures.within c.plain_start-plain.ensures.plain,
      c.plain_start-plain.ensures.within,
      c.plain_start-plain.ensures.plain,
      c.walked_end-at.ensures.bytes,
      c.walked_end-at.ensures.width,
      c.walked_end-at.ensures.near,
      plain_chars c.args.text.now c.plain_start-plain.result c.plain_start-plain.ensures.plain,
      width_front,
      bytes_front,
    )

pub overflow_add-result : goal.overflow_add-result
overflow_add-result c = grind (arith, common_steps, bytes_within, c.range_from.utf8, c.range_from.ensures.value, c.walked_end-at.ensures.bytes)

pub overflow_add-result-in-None : goal.overflow_add-result-in-None
overflow_add-result-in-None c = omega (arith, c.walked_end-at.ensures.within, c.plain_start-plain.ensures.within, c.ranges.columns.fits)

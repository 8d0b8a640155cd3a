use Rattle.snippet_lines.proofs.Common.{◌≡◌, ◌≤◌, length, arith, decimal, length-decimal-le}
use Rattle.snippet_lines.proofs.NumberLemmas.{length-decimal_last, length-decimal_more}
use Rattle.snippet_lines.proofs.number.gutter_width.Goals as goal

pub overflow_add-width : goal.overflow_add-width
overflow_add-width c =
    let short : length (decimal c.args.number) ≤ 20 = length-decimal-le 20 c.args.number (omega arith) (omega arith) (omega arith) in
    omega arith

pub loop-rest-preserved : goal.loop-rest-preserved
loop-rest-preserved c =
    omega (arith, length-decimal_more c.loop-rest.rest (omega arith) (omega arith))

pub returns : goal.returns
returns c =
    let short : length (decimal c.args.number) ≤ 20 = length-decimal-le 20 c.args.number (omega arith) (omega arith) (omega arith) in
    let value : c.loop-rest.width ≡ length (decimal c.args.number) = omega (arith, length-decimal_last c.loop-rest.rest (omega arith) (omega arith)) in
    record { value = value; small = omega (arith, value, short) }

use Rattle.snippet_grid.proofs.Common.{common_steps, arith}
use Rattle.snippet_grid.proofs.CodeLemmas.{reset_plain, reset_styled}
use Rattle.snippet_grid.proofs.RunLemmas.{on_ok_value}
use Rattle.snippet_grid.proofs.codes.SheetCodes.push_reset.Goals as goal

pub returns-then-is_plain : goal.returns-then-is_plain
returns-then-is_plain c = grind (arith, common_steps, reset_plain, c.is_plain.ensures.value, c.if-is_plain.true)

pub returns : goal.returns
returns c = grind (arith, common_steps, reset_styled, c.is_plain.ensures.value, c.if-is_plain.false, on_ok_value, c.push_str.ensures.bytes)

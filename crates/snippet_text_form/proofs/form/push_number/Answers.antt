use Rattle.std.proofs.lemmas.Grind.{common_steps}
use Rattle.snippet_text_form.proofs.Common.{arith, on_ok_weaker}
use Rattle.snippet_grid.proofs.RunLemmas.{on_ok_value}
use Rattle.std.proofs.lemmas.Fmt.{decimal_digit}
use Rattle.snippet_text_form.proofs.form.push_number.Goals as goal

pub returns-then-number-lt10-clause-bytes : goal.returns-then-number-lt10-clause-bytes
returns-then-number-lt10-clause-bytes c = grind (arith, common_steps, decimal_digit, on_ok_weaker, on_ok_value)

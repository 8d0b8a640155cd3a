use Rattle.snippet_lines.proofs.Common.{rules}
use Rattle.snippet_lines.proofs.NumberLemmas.{repeat-one_space}
use Rattle.snippet_lines.proofs.number.number_text.Goals as goal

pub returns-in-Shown : goal.returns-in-Shown
returns-in-Shown c =
    rw c.in-Shown.is (search rules)

pub returns-in-Hidden : goal.returns-in-Hidden
returns-in-Hidden c = rw c.in-Hidden.is (rw (← repeat-one_space c.args.gutter) (search rules))

use Rattle.std.proofs.Common.{rules}
use Rattle.program.proofs.Numbers.{number_read}
use Rattle.program.proofs.number.number_of.Goals as goal

pub returns-in_default-clause-value : goal.returns-in_default-clause-value
returns-in_default-clause-value c = number_read c.args.argument.now c.ok.result (search rules)

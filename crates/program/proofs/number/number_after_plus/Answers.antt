use Rattle.std.proofs.Common.{rules}
use Rattle.std.specs.Str.Parse.{without_leading_plus}
use Rattle.program.proofs.Numbers.{number_read}
use Rattle.program.proofs.number.number_after_plus.Goals as goal

pub returns : goal.returns
returns c = record { value = number_read (without_leading_plus c.args.argument.now) c.ok.result (search rules) }

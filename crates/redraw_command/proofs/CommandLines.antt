-- What some command lines ask for.
use Rattle.std.proofs.Common.{◌≡◌, [], ap, true}
use Rattle.clap.proofs.OnLiterals.{clap_on_literals}
use Rattle.clap.specs.Faults.{fault_of, is_simple_and_free}
use Rattle.clap.specs.Simple.{App}
use Rattle.redraw_command.specs.Arguments.{IsRedraw}

-- what clap says of arguments it says of the arguments of this command
pub simple : (app : App) → IsRedraw app → is_simple_and_free app ≡ true
unfolding clap_on_literals
simple app is = ap is_simple_and_free is.is

-- no argument at all is wrong
pub no_arguments : (app : App) → IsRedraw app → fault_of app [] ≡ []
unfolding clap_on_literals
no_arguments app is = ap (λ (a : App). fault_of a []) is.is

-- What the arguments of a command line say.
use Rattle.std.specs.Prelude.{List, [], ◌∷◌, Option, Some, None, codes, bytes_eq, if◌then◌else◌}
use Rattle.std.specs.Borrow.{Bor}
use Rattle.std.specs.Option.{option_map}
pub use Rattle.program.specs.Arguments.{Argument, arguments_at}
use Rattle.tidy_run.specs.declared.arguments.TidyCommand.{TidyCommand}

-- what a command line asks for: LOG, where it is given, and FILE
pub record CommandLine : Type 0 where
  pub log : Option Argument
  pub file : Argument

-- what arguments ask for: `--log LOG FILE` or `FILE`. A first argument `--log` is always the option, and no other arguments are of the form
abbrev pub command_line_of : List Argument → Option CommandLine
command_line_of [] = None
command_line_of (file ∷ []) = if bytes_eq file (codes "--log") then None else Some record { log = None; file = file }
command_line_of (option ∷ log ∷ []) = None
command_line_of (option ∷ log ∷ file ∷ []) = if bytes_eq option (codes "--log") then Some record { log = Some log; file = file } else None
command_line_of (option ∷ log ∷ file ∷ more ∷ args) = None

-- the line that a command stands for
abbrev pub said : TidyCommand → CommandLine
said command =
    record { log = option_map (λ (w : Bor Argument). w.now) command.log; file = command.file.now }

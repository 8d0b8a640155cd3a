-- What the arguments of a command line say.
use Rattle.std.specs.Prelude.{◌≡◌, ℕ, ◌<◌, ◌≤◌, true, false, List, [], ◌∷◌, ◌++◌, Option, Some, None, fold, codes, length, drop, All, Contains}
use Rattle.std.specs.Borrow.{Bor}
use Rattle.std.specs.List.{flat_map}
use Rattle.std.specs.Option.{option_map, option_to_list}
use Rattle.program.specs.declared.options.Options.{Options}
pub use Rattle.program.specs.Arguments.{Argument, arguments_at}
use Rattle.program.specs.Numbers.{IsNumber, number_in}
use Rattle.snip_run.specs.declared.arguments.SnipCommand.{SnipCommand}
use Rattle.snip_run.specs.declared.arguments.Operands.{Operands}

-- an option as it is given: one argument, or `--width` and the argument after it
pub data Setting : Type 0 where
  Unicode : Setting
  Text : Setting
  Short : Setting
  Styled : Setting
  Width : (digits : Argument) → Setting

-- the arguments that give an option
abbrev pub arguments_of : Setting → List Argument
arguments_of Unicode = codes "--unicode" ∷ []
arguments_of Text = codes "--text" ∷ []
arguments_of Short = codes "--short" ∷ []
arguments_of Styled = codes "--styled" ∷ []
arguments_of (Width digits) = codes "--width" ∷ digits ∷ []

-- the arguments that no FILE is named by, since each begins an option
abbrev pub option_names : List Argument
option_names =
    codes "--unicode" ∷ codes "--text" ∷ codes "--short" ∷ codes "--styled" ∷ codes "--width" ∷ []

-- a width is given by a number
abbrev pub IsSound : Setting → Type 0
IsSound Unicode = Unit {0}
IsSound Text = Unit {0}
IsSound Short = Unit {0}
IsSound Styled = Unit {0}
IsSound (Width digits) = IsNumber digits

-- nothing is set
abbrev pub no_options : Options
no_options = record { unicode = false; text = false; short = false; styled = false; width = None }

-- these options with one more after them, which counts in place of an earlier one of its kind
abbrev pub options_with : Options → Setting → Options
options_with options Unicode = record options { unicode = true }
options_with options Text = record options { text = true }
options_with options Short = record options { short = true }
options_with options Styled = record options { styled = true }
options_with options (Width digits) = record options { width = Some (number_in digits) }

-- a command line, by its parts
pub record CommandLine : Type 0 where
  pub settings : List Setting
  pub file : Argument
  pub start : Argument
  pub end : Argument
  pub title : Argument
  pub label : Option Argument

-- the arguments after the options
abbrev pub operands_of : CommandLine → List Argument
operands_of line = line.file ∷ line.start ∷ line.end ∷ line.title ∷ option_to_list line.label

-- FILE is named by no option, and START and END are numbers
pub record HasOperands (line : CommandLine) : Type 0 where
  pub file : Contains option_names line.file → ⊥
  pub start : IsNumber line.start
  pub end : IsNumber line.end

-- the arguments are this line: options, each as it has to be, and the operands after them
pub record AreLine (args : List Argument) (line : CommandLine) : Type 0 where
  pub whole : args ≡ flat_map arguments_of line.settings ++ operands_of line
  pub settings : All IsSound line.settings
  pub operands : HasOperands line

-- the arguments are of the form
abbrev pub IsCommandLine : List Argument → Type 0
IsCommandLine args = (line : CommandLine) × AreLine args line

-- the arguments begin with one option, of this many arguments, which turns the old options into the new ones
pub record TakesOption (args : List (Bor Argument)) (old new : Options) (count : ℕ) : Type 0 where
  pub setting : Setting
  pub sound : IsSound setting
  pub begins : arguments_at args ≡ arguments_of setting ++ arguments_at (drop count args)
  pub some : 0 < count
  pub within : count ≤ length args
  pub options : new ≡ options_with old setting

-- a line of these operands and no options
abbrev pub line_without_options : Operands → CommandLine
line_without_options o =
    record {
      settings = [];
      file = o.file.now;
      start = o.start.now;
      end = o.end.now;
      title = o.title.now;
      label = option_map (λ (t : Bor Argument). t.now) o.label;
    }

-- the command is what the line says, where its options stand after those given first
pub record Says (first : Options) (line : CommandLine) (command : SnipCommand) : Type 0 where
  pub options : command.options ≡ fold options_with first line.settings
  pub file : command.file.now ≡ line.file
  pub start : command.start ≡ number_in line.start
  pub end : command.end ≡ number_in line.end
  pub title : command.title.now ≡ line.title
  pub label : option_map (λ (t : Bor Argument). t.now) command.label ≡ line.label

-- the command is what the arguments say
abbrev pub IsCommandOf : List Argument → SnipCommand → Type 0
IsCommandOf args command = (line : CommandLine) × AreLine args line × Says no_options line command

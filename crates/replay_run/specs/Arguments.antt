-- What the arguments of a command line ask for.
use Rattle.std.specs.Prelude.{◌≡◌, ◌⊎◌, ℕ, ◌%◌, ◌==◌, Bool, true, ◌&&◌, ◌||◌, List, [], ◌∷◌, Option, Some, None, Result, Ok, Err, codes, length}
use Rattle.std.specs.Prelude.{if◌then◌else◌, is_some, nat_lt, option_map, unwrap_or}
use Rattle.clap.specs.Faults.{fault_of}
use Rattle.clap.specs.Simple.{App, matches_of, new_shape}
use Rattle.clap.specs.Walk.{Row, Rule, all_of, first_of}
pub use Rattle.program.specs.Arguments.{Argument, arguments_at}
use Rattle.program.specs.CommandLine.{AsksToShow, files_rule, flag_rule, valued_rule, was_given}
use Rattle.program.specs.Inputs.{hyphen}
use Rattle.program.specs.Numbers.{number_of}
use Rattle.replay_run.specs.declared.command.ReplayCommand.{ReplayCommand}
use Rattle.replay_run.specs.declared.command.ReplayCommand.TheVariants.{Answer, Check, Repeat}

-- ---- what may be written, as clap reads it

-- the files: as many as there are, and standard input where there is none
abbrev pub inputs_rule : Rule
inputs_rule = record (files_rule (codes "files")) { defaults = hyphen ∷ [] }

-- the command: these options and files, beside help and a version. The program's name isn't among its arguments, and an option that is given
-- again counts as it is given last
abbrev pub replay_app : App
replay_app = record {
  top = record (new_shape (codes "replay")) {
    rules = flag_rule (codes "text") ∷ flag_rule (codes "keep-going") ∷ flag_rule (codes "check") ∷ valued_rule (codes "repeat")
        ∷ inputs_rule ∷ [];
    no_binary_name = true;
    has_version = true;
    args_override_self = true;
  };
  subs = [];
}

-- ---- what is asked for, by what clap finds

-- what is asked for: answers to the cases of inputs, as texts or not, and going on past lines that are no cases or not; a comparison of
-- files, each of expected answers with the next one's cases; or that each case of inputs is drawn so many times
pub data Task : Type 0 where
  Answers : (texts keep_going : Bool) → (inputs : List Argument) → Task
  Checks : (files : List Argument) → Task
  Repeats : (times : ℕ) → (inputs : List Argument) → Task

-- the files that were named, in order
abbrev pub files_in : List Row → List Argument
files_in found = unwrap_or (all_of (codes "files") found) []

-- one pair or more
abbrev pub are_pairs : List Argument → Bool
are_pairs files = nat_lt 0 (length files) && length files % 2 == 0

-- what is asked for where `--check` is given: the files are pairs, and no option of another kind is given
abbrev pub asked_to_check : Bool → Bool → Option Argument → List Argument → Option Task
asked_to_check texts keep_going repeat files =
    if texts || keep_going || is_some repeat then None else (if are_pairs files then Some (Checks files) else None)

-- what is asked for by this argument after `--repeat`: it is a number, and no option of another kind is given
abbrev pub asked_to_repeat : Bool → Bool → Argument → List Argument → Option Task
asked_to_repeat texts keep_going argument inputs =
    if texts || keep_going then None else option_map (λ times. Repeats times inputs) (number_of argument)

-- what is asked for where `--check` isn't given, by the argument after `--repeat`, if that is
abbrev pub asked_to_draw : Bool → Bool → Option Argument → List Argument → Option Task
asked_to_draw texts keep_going None inputs = Some (Answers texts keep_going inputs)
asked_to_draw texts keep_going (Some argument) inputs = asked_to_repeat texts keep_going argument inputs

-- what is asked for, if something is
abbrev pub asked : List Row → Option Task
asked found =
    let texts = was_given (codes "text") found in
    let keep_going = was_given (codes "keep-going") found in
    let repeat = first_of (codes "repeat") found in
    if was_given (codes "check") found then asked_to_check texts keep_going repeat (files_in found)
    else asked_to_draw texts keep_going repeat (files_in found)

-- the arguments ask for this: clap finds nothing wrong with them, and what it finds asks for it
abbrev pub AsksFor : List Argument → Task → Type 0
AsksFor args task = (fault_of replay_app args ≡ []) × (asked (matches_of replay_app args) ≡ Some task)

-- the arguments are of the form
abbrev pub IsCommandLine : List Argument → Type 0
IsCommandLine args = ((task : Task) × AsksFor args task) ⊎ AsksToShow replay_app args

-- what a command does, by its arguments
abbrev pub task_of : ReplayCommand → Task
task_of (Answer texts keep_going inputs) = Answers texts keep_going (arguments_at inputs.now)
task_of (Check files) = Checks (arguments_at files.now)
task_of (Repeat times inputs) = Repeats times (arguments_at inputs.now)

-- the same where it may be that none is asked for
abbrev pub task_in : {E : Type 0} → Result ReplayCommand E → Option Task
task_in (Ok command) = Some (task_of command)
task_in (Err error) = None

-- What may stand in a command line, as clap reads it, and what is asked for by what clap finds.
use Rattle.std.specs.Prelude.{◌⊎◌, Bool, false, List, Some, codes, bytes_eq}
use Rattle.std.specs.Option.{option_map_or}
use Rattle.clap.specs.Faults.{fault_of}
use Rattle.clap.specs.Kinds.{IsAmong}
use Rattle.clap.specs.Lexer.{usize_max}
use Rattle.clap.specs.Simple.{App, new_rule}
use Rattle.clap.specs.Walk.{Row, Rule, first_of}
use Rattle.clap.specs.declared.builder.action.ArgAction.TheVariants.{Append, Set, SetTrue}
use Rattle.clap.specs.declared.error.kind.ErrorKind.TheVariants.{DisplayHelp, DisplayVersion}
use Rattle.program.specs.Arguments.{Argument}

-- an option that stands alone: two hyphens and this name
abbrev pub flag_rule : Argument → Rule
flag_rule name = record (new_rule name) { long = Some name; action = Some SetTrue }

-- an option that has a value after it
abbrev pub valued_rule : Argument → Rule
valued_rule name = record (new_rule name) { long = Some name; action = Some Set; value_names = 1 }

-- the files, which are found by this name: as many as there are
abbrev pub files_rule : Argument → Rule
files_rule name = record (new_rule name) {
  action = Some Append;
  range = Some (record { start_inclusive = 0; end_inclusive = usize_max });
  value_names = 1;
}

-- an option that stands alone was given, by what is found
abbrev pub was_given : Argument → List Row → Bool
was_given name found = option_map_or (λ value. bytes_eq value (codes "true")) (first_of name found) false

-- the arguments ask for the help or the version of a command: that is what ends clap's reading
abbrev pub AsksToShow : App → List Argument → Type 0
AsksToShow app args = IsAmong DisplayHelp (fault_of app args) ⊎ IsAmong DisplayVersion (fault_of app args)

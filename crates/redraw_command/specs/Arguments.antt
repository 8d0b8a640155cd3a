-- What the arguments of a command line ask for.
use Rattle.std.specs.Prelude.{◌≡◌, ◌≢◌, Bool, true, ◌&&◌, ◌||◌, List, [], ◌∷◌, Option, Some, None, codes}
use Rattle.std.specs.Prelude.{if◌then◌else◌, bytes_eq, not, option_map}
use Rattle.std.specs.Borrow.{Bor}
use Rattle.std.specs.Option.{option_and_then}
use Rattle.clap.specs.Faults.{fault_of}
use Rattle.clap.specs.Kinds.{IsAmong}
use Rattle.clap.specs.Simple.{App, matches_of, new_app, on_top, with_rule}
use Rattle.clap.specs.Walk.{Row, Rule, all_of, first_of}
use Rattle.clap.specs.declared.builder.value_parser.ValueParser.{ValueParser}
use Rattle.clap.specs.declared.builder.value_parser.ValueParser.TheVariants.{Names, NonEmptyString, Unsigned}
use Rattle.clap.specs.declared.error.kind.ErrorKind.{ErrorKind}
use Rattle.clap.specs.declared.error.kind.ErrorKind.TheVariants.{DisplayHelp, DisplayVersion}
pub use Rattle.program.specs.Arguments.{Argument, arguments_at}
pub use Rattle.program.specs.CommandLine.{AsksToShow}
use Rattle.program.specs.CommandLine.{files_rule, flag_rule, valued_rule, was_given}
use Rattle.program.specs.Numbers.{number_after_plus}
use Rattle.redraw_report.specs.declared.diagnostic.Unit.{Unit}
use Rattle.redraw_report.specs.declared.diagnostic.Unit.TheVariants.{Utf16, CodePoints, Bytes, Display}
use Rattle.redraw_command.specs.declared.choice.Choice.{Choice}
use Rattle.redraw_command.specs.declared.choice.OutputForm.{OutputForm}
use Rattle.redraw_command.specs.declared.choice.OutputForm.TheVariants.{Report, Workflow, Verify}
use Rattle.redraw_command.specs.declared.choice.Least.{Least}
use Rattle.redraw_command.specs.declared.choice.Least.TheVariants as least
use Rattle.redraw_command.specs.declared.terminal.Look.{Look}
use Rattle.redraw_command.specs.declared.terminal.Markup.{Markup}
use Rattle.redraw_command.specs.declared.terminal.Markup.TheVariants as markup
use Rattle.redraw_command.specs.declared.terminal.When.{When}
use Rattle.redraw_command.specs.declared.terminal.When.TheVariants.{Auto, Always, Never}
use Rattle.redraw_command.specs.declared.arguments.RedrawRequest.{RedrawRequest}

-- ---- what may be written, as clap reads it

-- an option that has a value after it, which has to be such a one
abbrev pub parsed_rule : Argument → ValueParser → Rule
parsed_rule name parser = record (valued_rule name) { parser = Some parser }

-- the options that say in which form reports are written, and that stand alone
abbrev pub form_rules : List Rule
form_rules =
    flag_rule (codes "unicode") ∷ flag_rule (codes "text") ∷ flag_rule (codes "short") ∷ flag_rule (codes "fit")
    ∷ flag_rule (codes "github") ∷ flag_rule (codes "html") ∷ flag_rule (codes "markdown") ∷ flag_rule (codes "verify") ∷ []

-- the other options that stand alone
abbrev pub flag_rules : List Rule
flag_rules =
    flag_rule (codes "styled") ∷ flag_rule (codes "links") ∷ flag_rule (codes "links-auto") ∷ flag_rule (codes "duplicates")
    ∷ flag_rule (codes "quiet") ∷ flag_rule (codes "confined") ∷ flag_rule (codes "unconfined") ∷ flag_rule (codes "lines") ∷ []

-- the words that may stand after `--color`, after `--level` and after `--columns`
abbrev pub color_words : List Argument
color_words = codes "auto" ∷ codes "always" ∷ codes "never" ∷ []

abbrev pub level_words : List Argument
level_words = codes "error" ∷ codes "warning" ∷ codes "note" ∷ []

abbrev pub column_words : List Argument
column_words = codes "utf16" ∷ codes "chars" ∷ codes "bytes" ∷ codes "display" ∷ []

-- the options that have a value after them and say how reports look, where these are the words for one of them
abbrev pub look_rules : (colors : Bor (List (Bor Argument))) → List Rule
look_rules colors =
    parsed_rule (codes "color") (Names colors) ∷ parsed_rule (codes "width") (Unsigned 0 18446744073709551615)
    ∷ parsed_rule (codes "root") NonEmptyString ∷ []

-- those that say what is drawn, where these are the words for two of them
abbrev pub choice_rules : (levels columns : Bor (List (Bor Argument))) → List Rule
choice_rules levels columns =
    parsed_rule (codes "level") (Names levels) ∷ parsed_rule (codes "path") NonEmptyString ∷ parsed_rule (codes "columns") (Names columns) ∷ []

-- a command with more options
abbrev pub with_rules : App → List Rule → App
with_rules app [] = app
with_rules app (rule ∷ rules) = with_rules (with_rule app rule) rules

-- the command before its options, beside help and a version. The program's name isn't among its arguments, and an option that is given
-- again counts as it is given last
abbrev pub bare_app : App
bare_app = on_top (λ s. record s { no_binary_name = true; has_version = true; args_override_self = true }) (new_app (codes "redraw"))

-- the command, where these are the words for three of its options
abbrev pub redraw_app : (colors levels columns : Bor (List (Bor Argument))) → App
redraw_app colors levels columns =
    with_rule (with_rules (with_rules (with_rules (with_rules bare_app form_rules) flag_rules) (look_rules colors)) (choice_rules levels columns))
    (files_rule (codes "inputs"))

-- that command. Where in memory the words for three of its options stand is left open
pub record IsRedraw (app : App) : Type 0 where
  pub colors : Bor (List (Bor Argument))
  pub levels : Bor (List (Bor Argument))
  pub columns : Bor (List (Bor Argument))
  pub color_words : arguments_at colors.now ≡ color_words
  pub level_words : arguments_at levels.now ≡ level_words
  pub column_words : arguments_at columns.now ≡ column_words
  pub is : app ≡ redraw_app colors levels columns

-- a word as the command has it: before `--` the option `--links=auto` is `--links-auto`, since `--links` has no value
abbrev pub spelled_word : (is_option : Bool) → Argument → Argument
spelled_word is_option word = if is_option && bytes_eq word (codes "--links=auto") then codes "--links-auto" else word

-- the words of a command line as the command has them, where it may have options still
abbrev pub spelled : (is_option : Bool) → List Argument → List Argument
spelled is_option [] = []
spelled is_option (word ∷ words) =
    let still = is_option && not (bytes_eq word (codes "--")) in
    spelled_word still word ∷ spelled still words

-- ---- what is asked for, by what clap finds

-- when colours are written where `--color` isn't given: always with `--styled`, else on a terminal that shows them
abbrev pub otherwise : Bool → When
otherwise is_styled = if is_styled then Always else Auto

-- when colours are written, by the argument after `--color`, if that is given
abbrev pub when_of : Option Argument → Bool → When
when_of None is_styled = otherwise is_styled
when_of (Some argument) is_styled =
    if bytes_eq argument (codes "always") then Always else (if bytes_eq argument (codes "never") then Never else otherwise is_styled)

-- the least level that is drawn, by the argument after `--level`, if that is given
abbrev pub least_of : Option Argument → Least
least_of None = least.Any
least_of (Some argument) =
    if bytes_eq argument (codes "error") then least.Error else (if bytes_eq argument (codes "warning") then least.Warning else least.Any)

-- what columns count, by the argument after `--columns`
abbrev pub unit_of : Argument → Option Unit
unit_of argument =
    if bytes_eq argument (codes "utf16") then Some Utf16
    else if bytes_eq argument (codes "chars") then Some CodePoints
    else if bytes_eq argument (codes "bytes") then Some Bytes
    else if bytes_eq argument (codes "display") then Some Display
    else None

-- the form of what is drawn
abbrev pub form_of : (is_verify is_github : Bool) → OutputForm
form_of is_verify is_github = if is_verify then Verify else (if is_github then Workflow else Report)

-- the markup that all is written in: of reports alone, and HTML where Markdown is asked for too
abbrev pub markup_of : (is_html is_markdown is_report : Bool) → Markup
markup_of is_html is_markdown is_report =
    if is_html && is_report then markup.Html else (if is_markdown && is_report then markup.Markdown else markup.Bare)

-- the argument that a reference leads to, if there is one
abbrev pub argument_at : Option (Bor Argument) → Option Argument
argument_at argument = option_map (λ (w : Bor Argument). w.now) argument

-- how reports are to look, by what is found
abbrev pub look_of : List Row → Look
look_of found = record {
  unicode = was_given (codes "unicode") found;
  text = was_given (codes "text") found;
  short = was_given (codes "short") found;
  fit = was_given (codes "fit") found;
  markup = markup_of (was_given (codes "html") found) (was_given (codes "markdown") found)
      (not (was_given (codes "github") found || was_given (codes "verify") found));
  github = was_given (codes "github") found;
  colors = when_of (first_of (codes "color") found) (was_given (codes "styled") found);
  links = was_given (codes "links") found;
  links_auto = was_given (codes "links-auto") found;
  width = option_and_then number_after_plus (first_of (codes "width") found);
}

-- which findings are read and drawn, and in which form, by what is found
pub record IsChoiceOf (found : List Row) (c : Choice) : Type 0 where
  pub form : c.form ≡ form_of (was_given (codes "verify") found) (was_given (codes "github") found)
  pub least : c.least ≡ least_of (first_of (codes "level") found)
  pub path : argument_at c.path ≡ first_of (codes "path") found
  pub duplicates : c.has_duplicates ≡ was_given (codes "duplicates") found
  pub quiet : c.is_quiet ≡ was_given (codes "quiet") found
  pub lines : c.reads_lines ≡ was_given (codes "lines") found
  pub columns : c.columns ≡ option_and_then unit_of (first_of (codes "columns") found)

-- the names of files, if there are some
abbrev pub names_at : Option (Bor (List (Bor Argument))) → Option (List Argument)
names_at names = option_map (λ (ns : Bor (List (Bor Argument))). arguments_at ns.now) names

-- what is asked for, by what is found. No files but those below the folder are read for lines of rustc and cargo where that is asked for,
-- and for SARIF logs unless that is lifted
pub record IsRequestOf (found : List Row) (r : RedrawRequest) : Type 0 where
  pub look : r.look ≡ look_of found
  pub root : argument_at r.root ≡ first_of (codes "root") found
  pub confined_lines : r.confines_lines ≡ was_given (codes "confined") found
  pub confined_logs : r.confines_logs ≡ (was_given (codes "confined") found || not (was_given (codes "unconfined") found))
  pub choice : IsChoiceOf found r.choice
  pub inputs : names_at r.inputs ≡ all_of (codes "inputs") found

-- the arguments ask for this: clap finds nothing wrong with them, and what it finds asks for it
pub record AsksFor (app : App) (args : List Argument) (r : RedrawRequest) : Type 0 where
  pub clean : fault_of app args ≡ []
  pub is : IsRequestOf (matches_of app args) r

-- the arguments are wrong: something other than these ends clap's reading
pub record AreWrong (app : App) (args : List Argument) : Type 0 where
  pub kind : ErrorKind
  pub found : IsAmong kind (fault_of app args)
  pub no_help : kind ≢ DisplayHelp
  pub no_version : kind ≢ DisplayVersion

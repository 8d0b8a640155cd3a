-- What a command line has replay do, and what is read for it.
use Rattle.std.specs.Prelude.{◌⊎◌, Bool, true, false, List, if◌then◌else◌}
use Rattle.program.specs.Inputs.{IsNamed}
use Rattle.replay_run.specs.Arguments.{Answers, AsksFor, Checks, Task, Argument, arguments_at}
use Rattle.replay_run.specs.declared.command.ReplayCommand.{ReplayCommand}
use Rattle.replay_run.specs.declared.command.ReplayCommand.TheVariants.{Answer, Check, Repeat}
use Rattle.replay_run.specs.declared.lines.AnswerForm.{AnswerForm}
use Rattle.replay_run.specs.declared.lines.AnswerForm.TheVariants.{Json, Texts}
use Rattle.replay_run.specs.declared.lines.Way.{Way}

-- ---- what is asked for

-- whether answers of this form are texts, and the form of answers that are texts or not
abbrev pub are_texts : AnswerForm → Bool
are_texts Json = false
are_texts Texts = true

abbrev pub form_asked : Bool → AnswerForm
form_asked texts = if texts then Texts else Json

-- how lines are answered as texts or not, and past lines that are no cases or not
abbrev pub way_of : Bool → Bool → Way
way_of texts keep_going = record { form = form_asked texts; keep_going = keep_going }

-- answers of this kind to the cases of these inputs
abbrev pub answers : Way → List Argument → Task
answers way names = Answers (are_texts way.form) way.keep_going names

-- the arguments ask for that
abbrev pub AsksAnswers : List Argument → Way → List Argument → Type 0
AsksAnswers args way names = AsksFor args (answers way names)

-- the arguments ask for a comparison of these files
abbrev pub AsksComparison : List Argument → List Argument → Type 0
AsksComparison args files = AsksFor args (Checks files)

-- the arguments ask for a comparison of some files
abbrev pub Compares : List Argument → Type 0
Compares args = (files : List Argument) × AsksComparison args files

-- P holds of the files that the command compares, if it does
abbrev pub IfComparison : ReplayCommand → (List Argument → Type 0) → Type 0
IfComparison (Answer texts keep_going inputs) P = Unit {0}
IfComparison (Check files) P = P (arguments_at files.now)
IfComparison (Repeat times inputs) P = Unit {0}

-- the command compares files
abbrev pub IsComparison : ReplayCommand → Type 0
IsComparison (Answer texts keep_going inputs) = ⊥
IsComparison (Check files) = Unit {0}
IsComparison (Repeat times inputs) = ⊥

-- P holds of the kind of the answers and of the inputs whose cases the command answers, if it does
abbrev pub IfAnswers : ReplayCommand → (Way → List Argument → Type 0) → Type 0
IfAnswers (Answer texts keep_going inputs) P = P (way_of texts keep_going) (arguments_at inputs.now)
IfAnswers (Check files) P = Unit {0}
IfAnswers (Repeat times inputs) P = Unit {0}

-- ---- what is read

-- an input, by the argument that names it
pub record NamedInput (File Standard : Type 0) : Type 0 where
  pub name : Argument
  pub source : File ⊎ Standard
  pub is : IsNamed name source

-- What a run does about its inputs, and how it ends.
use Rattle.std.specs.Prelude.{◌≡◌, ◌⊎◌, ℕ, Bool, false, List, Option, Result, Ok, Err, String}
use Rattle.std.specs.Global.{Global}
use Rattle.std.specs.declared.io.Error.{Error}
use Rattle.output_stream.specs.Standing.{Adds, BreaksOff, Standing}
use Rattle.clap.specs.Simple.{App}
use Rattle.redraw_command.specs.Tally.{no_tally, tally_status}
use Rattle.redraw_command.specs.Told.{Tells, TellsMemory, TellsOfArguments}
use Rattle.redraw_command.specs.Arguments.{AreWrong, AsksFor, AsksToShow, IsRedraw, Argument, argument_at}
use Rattle.redraw_command.specs.Choice.{shown_from}
use Rattle.redraw_command.specs.Files.{folder_of}
use Rattle.redraw_command.specs.declared.choice.Choice.{Choice}
use Rattle.redraw_command.specs.declared.stop.Stop.{Stop}
use Rattle.redraw_command.specs.declared.stop.Stop.TheVariants.{Memory, Unwritable, Unreadable, Utf16}
use Rattle.redraw_command.specs.declared.terminal.Surroundings.{Surroundings}
use Rattle.redraw_command.specs.declared.arguments.RedrawRequest.{RedrawRequest}
use Rattle.redraw_run.specs.declared.page.ListedFile.{ListedFile}
use Rattle.redraw_run.specs.Deeds.{State}
use Rattle.redraw_run.specs.HtmlDocument.{html_end, html_start}
use Rattle.redraw_run.specs.Inputs.{AreCut, AreDrawn, asked_names}
use Rattle.redraw_run.specs.ReadLines.{IsTextPrinted, SumsUp}
use Rattle.redraw_run.specs.ReportLook.{looks}
use Rattle.redraw_run.specs.declared.look.ReportRenderer.{ReportRenderer}

-- how an input ends, by what came of its lines: it is known, or not; or output couldn't be written, and nothing is told; or one message
-- tells why it couldn't be read
abbrev pub EndsInput : Result Bool Stop → Result Bool Error → (old new : Standing) → Type 0
EndsInput (Ok is_known) result old new = (result ≡ Ok is_known) × (new ≡ old)
EndsInput (Err Memory) result old new = (result ≡ Ok false) × Tells old new
EndsInput (Err (Unwritable error)) result old new = (result ≡ Err error) × (new ≡ old)
EndsInput (Err (Unreadable error)) result old new = (result ≡ Ok false) × Tells old new
EndsInput (Err Utf16) result old new = (result ≡ Ok false) × Tells old new

-- the same is known, but this of standard output
abbrev pub with_out : State → Standing → State
with_out a out = record a { out = out }

-- inputs are gone through: in HTML after what a document begins with, and before what it ends with, which names these files
pub record AreInputsPrinted (File Standard : Type 0) (held : File ⊎ Standard → Option (List ℕ)) (names : List (List ℕ)) (is_whole : Bool) (a b : State)
    : Type 0 where
  pub opened : Standing
  pub opens : Adds a.out opened (html_start a.renderer.markup)
  pub last : State
  pub drawn : AreDrawn File Standard held names is_whole (with_out a opened) last
  pub files : List (String Global × ListedFile)
  pub closes : Adds last.out b.out (html_end a.renderer.markup last.tally files)
  pub is : b ≡ with_out last b.out

-- output couldn't be written where a document begins
pub record IsCutAtFirst (a b : State) : Type 0 where
  pub opens : BreaksOff a.out b.out (html_start a.renderer.markup)
  pub is : b ≡ with_out a b.out

-- or where inputs were gone through
pub record IsCutWithin (File Standard : Type 0) (held : File ⊎ Standard → Option (List ℕ)) (names : List (List ℕ)) (a b : State) : Type 0 where
  pub opened : Standing
  pub opens : Adds a.out opened (html_start a.renderer.markup)
  pub drawn : AreCut File Standard held names (with_out a opened) b

-- or where a document ends, or there was no memory for its end
pub record IsCutAtLast (File Standard : Type 0) (held : File ⊎ Standard → Option (List ℕ)) (names : List (List ℕ)) (a b : State) : Type 0 where
  pub opened : Standing
  pub opens : Adds a.out opened (html_start a.renderer.markup)
  pub is_whole : Bool
  pub last : State
  pub drawn : AreDrawn File Standard held names is_whole (with_out a opened) last
  pub files : List (String Global × ListedFile)
  pub closes : BreaksOff last.out b.out (html_end a.renderer.markup last.tally files) ⊎ (b.out ≡ last.out)
  pub is : b ≡ with_out last b.out

-- inputs are gone through up to where output couldn't be written
abbrev pub ArePartlyPrinted : {File Standard : Type 0} → (File ⊎ Standard → Option (List ℕ)) → List (List ℕ) → State → State → Type 0
ArePartlyPrinted {File} {Standard} held names a b =
    IsCutAtFirst a b ⊎ IsCutWithin File Standard held names a b ⊎ IsCutAtLast File Standard held names a b

-- a run goes through all of its inputs; then one message sums up what was done, unless that isn't wanted or there is nothing to tell; and
-- the status is the one of what was counted
pub record Finishes (File Standard : Type 0) (held : File ⊎ Standard → Option (List ℕ)) (names : List (List ℕ)) (a : State)
    (out err : Standing) (status : ℕ) : Type 0 where
  pub is_whole : Bool
  pub end : State
  pub drawn : AreInputsPrinted File Standard held names is_whole a end
  pub printed : out ≡ end.out
  pub sum : SumsUp a.choice.is_quiet end.tally end.err err
  pub ends : status ≡ tally_status a.choice.form end.tally is_whole

-- a run ends where standard output can't be written: one message may tell why, and the status is 2
pub record EndsCut (File Standard : Type 0) (held : File ⊎ Standard → Option (List ℕ)) (names : List (List ℕ)) (a : State)
    (out err : Standing) (status : ℕ) : Type 0 where
  pub end : State
  pub drawn : ArePartlyPrinted held names a end
  pub printed : out ≡ end.out
  pub told : (err ≡ end.err) ⊎ Tells end.err err
  pub ends : status ≡ 2

-- a run doesn't begin, since there is no memory: that is told, and the status is 2
pub record IsUnbegun (old_out old_err out err : Standing) (status : ℕ) : Type 0 where
  pub unprinted : out ≡ old_out
  pub told : TellsMemory old_err err
  pub ends : status ≡ 2

-- what a run does about the inputs of these names, and what it ends with
abbrev pub Runs : {File Standard : Type 0} → (File ⊎ Standard → Option (List ℕ)) → List (List ℕ) → State → (out err : Standing) → ℕ → Type 0
Runs {File} {Standard} held names a out err status =
    Finishes File Standard held names a out err status ⊎ EndsCut File Standard held names a out err status

-- nothing is done yet, where reports look so, these are drawn, and both streams hold this
abbrev pub nothing_begun : ReportRenderer → Choice → Standing → Standing → State
nothing_begun r c out err = record { renderer = r; choice = c; tally = no_tally; out = out; err = err }

-- what a run draws, and in which form: what is asked for, its paths shown from the folder that is given or that it runs in
pub record IsChoiceIn (request : RedrawRequest) (around : Surroundings) (c : Choice) : Type 0 where
  pub folder : argument_at c.folder ≡ shown_from request.choice.form (folder_of (argument_at request.root) (argument_at around.folder))
  pub rest : c ≡ record request.choice { folder = c.folder }

-- a run draws what is asked for, or there is no memory to begin
abbrev pub Draws : {File Standard : Type 0} → (File ⊎ Standard → Option (List ℕ)) → RedrawRequest → Surroundings
    → (old_out old_err out err : Standing) → ℕ → Type 0
Draws held request around old_out old_err out err status =
    ((c : Choice) × IsChoiceIn request around c
    × Runs held (asked_names request.inputs) (nothing_begun (looks request.look around) c old_out old_err) out err status)
    ⊎ IsUnbegun old_out old_err out err status

-- the arguments ask for the help or the version: a text is printed, and nothing is told
pub record ShowsHelp (app : App) (args : List Argument) (old_out old_err out err : Standing) (status : ℕ) : Type 0 where
  pub asked : AsksToShow app args
  pub printed : IsTextPrinted old_out out status
  pub untold : err ≡ old_err

-- the arguments are wrong: that is told, nothing is printed, and the status is 2
pub record Misuses (app : App) (args : List Argument) (old_out old_err out err : Standing) (status : ℕ) : Type 0 where
  pub wrong : AreWrong app args
  pub unprinted : out ≡ old_out
  pub told : TellsOfArguments old_err err
  pub ends : status ≡ 2

-- the arguments ask for inputs: these are drawn
pub record DrawsAsked (File Standard : Type 0) (held : File ⊎ Standard → Option (List ℕ)) (app : App) (args : List Argument) (around : Surroundings)
    (old_out old_err out err : Standing) (status : ℕ) : Type 0 where
  pub request : RedrawRequest
  pub asked : AsksFor app args request
  pub draws : Draws held request around old_out old_err out err status

-- what a run answers, by what its arguments ask for: one of these, or there is no memory to begin
abbrev pub AnswersBy : {File Standard : Type 0} → (File ⊎ Standard → Option (List ℕ)) → App → List Argument → Surroundings
    → (old_out old_err out err : Standing) → ℕ → Type 0
AnswersBy {File} {Standard} held app args around old_out old_err out err status =
    ShowsHelp app args old_out old_err out err status
    ⊎ Misuses app args old_out old_err out err status
    ⊎ DrawsAsked File Standard held app args around old_out old_err out err status
    ⊎ IsUnbegun old_out old_err out err status

-- what becomes of a run whose arguments are read as those of this program: help is shown, wrong arguments are told, what was asked for is
-- drawn, or nothing is begun
abbrev pub Answers : {File Standard : Type 0} → (File ⊎ Standard → Option (List ℕ)) → List Argument → Surroundings
    → (old_out old_err out err : Standing) → ℕ → Type 0
Answers held args around old_out old_err out err status =
    (app : App) × IsRedraw app × AnswersBy held app args around old_out old_err out err status

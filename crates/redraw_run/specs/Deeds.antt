-- What a run does on its way: what both streams are given, and what is counted.
use Rattle.std.specs.Prelude.{◌≡◌, ℕ, ◌⊎◌, Bool, true, List, [], ◌∷◌, ◌++◌, Some, Result, Ok, Err}
use Rattle.std.specs.List.{flat_map}
use Rattle.annotate_snippets.specs.declared.renderer.error.RenderError.{RenderError}
use Rattle.output_stream.specs.Standing.{Adds, BreaksOff, Gets, Standing}
use Rattle.program.specs.Stream.{ended_line}
use Rattle.redraw_command.specs.Choice.{is_sum}
use Rattle.redraw_command.specs.Tally.{one_more, tallied, with_compared}
use Rattle.redraw_command.specs.Told.{IsMessage}
use Rattle.redraw_command.specs.Workflow.{command}
use Rattle.redraw_command.specs.declared.choice.Choice.{Choice}
use Rattle.redraw_command.specs.declared.choice.OutputForm.TheVariants.{Report, Workflow, Verify}
use Rattle.redraw_command.specs.declared.stop.Stop.{Stop}
use Rattle.redraw_command.specs.declared.stop.Stop.TheVariants.{Memory, Unwritable, Unreadable, Utf16}
use Rattle.redraw_command.specs.declared.tally.Tally.{Tally}
use Rattle.redraw_read.specs.declared.sources.File.{File}
use Rattle.redraw_report.specs.declared.diagnostic.Diagnostic.{Diagnostic}
use Rattle.redraw_run.specs.DrawnFinding.{RefusesFinding, ShowsPlaced, ending_after}
use Rattle.redraw_run.specs.Handed.{handed}
use Rattle.redraw_run.specs.Readings.{IsComparison}
use Rattle.redraw_run.specs.declared.draw.Drawing.{Drawing}
use Rattle.redraw_run.specs.declared.look.ReportRenderer.{ReportRenderer}

-- what is known of a run at a time: how reports look and which are drawn, what was counted, and what is known
-- of both streams
pub record State : Type 0 where
  pub renderer : ReportRenderer
  pub choice : Choice
  pub tally : Tally
  pub out : Standing
  pub err : Standing

-- the same of what is drawn from, with what is known of both streams
abbrev pub standing : {S : Type 0} → Drawing S → Standing → Standing → State
standing d out err = record { renderer = d.renderer; choice = d.choice; tally = d.tally; out = out; err = err }

-- one thing that is done: a finding is drawn as a report, or written as a command, or its report is compared with the text that rustc has
-- of it, and this is shown of that; a line is handed on; a message is told; the report of a finding is refused; a part of the input is left
-- out; a finding that was drawn before isn't again; or cargo says that the build failed
pub data Deed : Type 0 where
  Drawn : (finding : Diagnostic) (text : List ℕ) → Deed
  Commanded : (finding : Diagnostic) (line : List ℕ) → Deed
  Compared : (finding : Diagnostic) (is_same : Bool) (shown : List ℕ) → Deed
  HandedOn : (line : List ℕ) → Deed
  Told : (message : List ℕ) → Deed
  Refused : (finding : Diagnostic) (why : RenderError) → Deed
  LeftOut : Deed
  Repeated : Deed
  BuildFailed : Deed

-- when that is done: a report shows the finding in the renderer's settings, its places looked for in some files, in HTML in its article, or
-- is refused for this reason; a command is that of the finding; a report is compared as it is drawn as rustc draws it; each where it is asked for; and what is
-- told is a message
abbrev pub IsDeed : ReportRenderer → Choice → Deed → Type 0
IsDeed r c (Drawn d text) = (c.form ≡ Report) × (files : List File) × ShowsPlaced r files d text
IsDeed r c (Commanded d line) = (c.form ≡ Workflow) × (command d ≡ Some line)
IsDeed r c (Compared d is_same shown) = (c.form ≡ Verify) × IsComparison d is_same
IsDeed r c (HandedOn line) = Unit {0}
IsDeed r c (Told line) = IsMessage line
IsDeed r c (Refused d why) = (c.form ≡ Report) × (files : List File) × RefusesFinding r files d why
IsDeed r c LeftOut = Unit {0}
IsDeed r c Repeated = Unit {0}
IsDeed r c BuildFailed = Unit {0}

abbrev pub AreDeeds : ReportRenderer → Choice → List Deed → Type 0
AreDeeds r c [] = Unit {0}
AreDeeds r c (deed ∷ deeds) = IsDeed r c deed × AreDeeds r c deeds

-- what standard output is given by it
abbrev pub printed : ReportRenderer → Deed → List ℕ
printed r (Drawn d text) = text ++ (ending_after r.settings.short_message d.severity ++ 10 ∷ [])
printed r (Commanded d line) = line ++ 10 ∷ []
printed r (Compared d is_same shown) = shown
printed r (HandedOn line) = handed r.markup r.is_workflow line
printed r (Told line) = []
printed r (Refused d why) = []
printed r LeftOut = []
printed r Repeated = []
printed r BuildFailed = []

-- what standard error is given by it
abbrev pub told : Deed → List ℕ
told (Drawn d text) = []
told (Commanded d line) = []
told (Compared d is_same shown) = []
told (HandedOn line) = []
told (Told line) = ended_line line
told (Refused d why) = []
told LeftOut = []
told Repeated = []
told BuildFailed = []

-- the tally with one more that is left out
abbrev pub one_left_out : Tally → Tally
one_left_out t = record t { wrong = one_more t.wrong }

-- the tally with one more that was drawn before
abbrev pub repeated : Tally → Tally
repeated t = record t { duplicates = one_more t.duplicates }

-- the tally after it. How many files there are is counted apart
abbrev pub tally_after : Tally → Deed → Tally
tally_after t (Drawn d text) = tallied t d.severity (is_sum d)
tally_after t (Commanded d line) = tallied t d.severity (is_sum d)
tally_after t (Compared d is_same shown) = with_compared t is_same
tally_after t (HandedOn line) = t
tally_after t (Told line) = t
tally_after t (Refused d why) = one_left_out t
tally_after t LeftOut = one_left_out t
tally_after t Repeated = repeated t
tally_after t BuildFailed = record t { has_failed = true }

-- the tally after several
abbrev pub tally_by : Tally → List Deed → Tally
tally_by t [] = t
tally_by t (deed ∷ deeds) = tally_by (tally_after t deed) deeds

-- a tally with this many files
abbrev pub with_files : Tally → ℕ → Tally
with_files t files = record t { files = files }

-- from one time to another some things are done, in order, of this kind (Are) by what is asked for: standard output is given what these
-- give, all of it and nothing else; standard error the same, or, only where a write to it failed, a first part of it; and the tally is
-- the one after them
pub record Does (Are : Choice → List Deed → Type 0) (a b : State) : Type 0 where
  pub deeds : List Deed
  pub are : AreDeeds a.renderer a.choice deeds
  pub fit : Are a.choice deeds
  pub out : Adds a.out b.out (flat_map (printed a.renderer) deeds)
  pub err : Gets a.err b.err (flat_map told deeds)
  pub tally : b.tally ≡ with_files (tally_by a.tally deeds) b.tally.files
  pub renderer : b.renderer ≡ a.renderer
  pub choice : b.choice ≡ a.choice

-- several messages are told
abbrev pub AreTold : List (List ℕ) → Type 0
AreTold [] = Unit {0}
AreTold (line ∷ lines) = IsMessage line × AreTold lines

-- standard error is given some messages, and nothing else: all of them, or, only where a write failed, a first part
pub record TellsAll (old new : Standing) : Type 0 where
  pub lines : List (List ℕ)
  pub told : AreTold lines
  pub given : Gets old new (flat_map (λ line. ended_line line) lines)

-- output couldn't be written
abbrev pub IsUnwritable : Stop → Type 0
IsUnwritable Memory = ⊥
IsUnwritable (Unwritable error) = Unit {0}
IsUnwritable (Unreadable error) = ⊥
IsUnwritable Utf16 = ⊥

-- some bytes are written: all of them, or, only where a write failed, a first part
abbrev pub Writes : {T : Type 0} → Result T Stop → Standing → Standing → List ℕ → Type 0
Writes (Ok done) old new bytes = Adds old new bytes
Writes (Err stop) old new bytes = IsUnwritable stop × BreaksOff old new bytes

-- a part of some things of a kind is done: nothing of them, or the first of them, which may be all
pub record IsPartOfDeeds (Are : Choice → List Deed → Type 0) (c : Choice) (deeds : List Deed) : Type 0 where
  pub is : (deeds ≡ []) ⊎ ((rest : List Deed) × Are c (deeds ++ rest))

-- things of a kind are done up to where a write to standard output failed: that is given a first part of what they give
pub record IsCutShort (Are : Choice → List Deed → Type 0) (a b : State) : Type 0 where
  pub deeds : List Deed
  pub are : AreDeeds a.renderer a.choice deeds
  pub fit : Are a.choice deeds
  pub out : BreaksOff a.out b.out (flat_map (printed a.renderer) deeds)
  pub err : Gets a.err b.err (flat_map told deeds)

-- things of a kind are done up to where it stops for this reason: no memory, or output that can't be written
abbrev pub Stops : Stop → (Choice → List Deed → Type 0) → State → State → Type 0
Stops Memory Are a b = Does Are a b
Stops (Unwritable error) Are a b = IsCutShort Are a b
Stops (Unreadable error) Are a b = ⊥
Stops Utf16 Are a b = ⊥

-- things of a kind are done, be it to the end or up to where it stops
abbrev pub Happens : {T : Type 0} → Result T Stop → (Choice → List Deed → Type 0) → State → State → Type 0
Happens (Ok done) Are a b = Does Are a b
Happens (Err stop) Are a b = Stops stop (IsPartOfDeeds Are) a b

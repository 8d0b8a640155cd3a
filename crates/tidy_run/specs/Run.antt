-- How a run ends, and what it writes.
use Rattle.std.specs.Prelude.{◌≡◌, ◌≢◌, ℕ, List, [], ◌∷◌, Option, Some, None, MatchOption, codes}
use Rattle.std.specs.List.{AllZip}
use Rattle.std.specs.Option.{option_to_list}
use Rattle.annotate_snippets.specs.declared.renderer.style.Stylesheet.{Stylesheet}
use Rattle.annotate_snippets.specs.declared.snippet.Group.{Group}
use Rattle.annotate_snippets.specs.Fits.{TextFits}
use Rattle.annotate_snippets.specs.Laws.Forms.{HasLaws}
use Rattle.annotate_snippets.specs.Forms.{TextsShown}
use Rattle.annotate_snippets.specs.Settings.{plain_settings, styled_settings}
use Rattle.program.specs.Ending.{End, Ends, printing, telling}
use Rattle.program.specs.Message.{cannot}
use Rattle.program.specs.Source.{IsSource}
use Rattle.program.specs.Stream.{Output, Silent, Whole, CutShort}
use Rattle.tidy_run.specs.Report.{IsReportOf, Told, tidy_settings}
use Rattle.tidy_run.specs.Arguments.{CommandLine, Argument, command_line_of}
use Rattle.tidy_run.specs.declared.run.TidyFailure.{TidyFailure}
use Rattle.tidy_run.specs.declared.run.TidyFailure.TheVariants.{Unreadable, Unwritable, Memory}
use Rattle.tidy_run.specs.declared.run.WriteOutcome.{WriteOutcome}
use Rattle.tidy_run.specs.declared.run.WriteOutcome.TheVariants as written

-- the sheets under which a report is drawn: that of standard output, which is plain where there is no LOG; and that of LOG
abbrev pub sheets_for : Option Argument → List Stylesheet
sheets_for None = plain_settings.stylesheet ∷ []
sheets_for (Some log) = styled_settings.stylesheet ∷ plain_settings.stylesheet ∷ []

-- the texts show, one under each of these sheets, a report that tells this of a file, and have its laws
pub record ShowsTold (path source : List ℕ) (told : List Told) (sheets : List Stylesheet) (texts : List (List ℕ)) : Type 0 where
  pub groups : List Group
  pub report : IsReportOf path source told groups
  pub shows : TextsShown tidy_settings groups sheets texts
  pub laws : AllZip (HasLaws tidy_settings groups) sheets texts

-- the texts that are written where this is told of a file: none where nothing is, else those that show it
abbrev pub AreTextsOf : List ℕ → List ℕ → List Told → List Stylesheet → List (List ℕ) → Type 0
AreTextsOf path source [] sheets texts = texts ≡ []
AreTextsOf path source (t ∷ ts) sheets texts = ShowsTold path source (t ∷ ts) sheets texts

-- the file holds this source, which can be looked through, and so can its name be shown
pub record Reads (line : CommandLine) (file : Option (List ℕ)) (source : List ℕ) : Type 0 where
  pub file_is : file ≡ Some source
  pub source_is : IsSource source
  pub name_fits : TextFits line.file

-- something is told of the source, and these texts show it: the one for standard output and, with LOG, the one for that
pub record IsReport (line : CommandLine) (file : Option (List ℕ)) (tells : List ℕ → List Told) (shown : List ℕ) (logged : Option (List ℕ)) : Type 0 where
  pub source : List ℕ
  pub reads : Reads line file source
  pub told : tells source ≢ []
  pub shows : ShowsTold line.file source (tells source) (sheets_for line.log) (shown ∷ option_to_list logged)

-- there is no report, for this reason: FILE of this name holds no source that can be looked through, or memory is refused
abbrev pub TidyFails : CommandLine → Option (List ℕ) → TidyFailure → Type 0
TidyFails line file (Unreadable name) = (name.now ≡ line.file) × ((source : List ℕ) → Reads line file source → ⊥)
TidyFails line file (Unwritable name) = ⊥
TidyFails line file Memory = Unit {0}

-- what is told where LOG can't be written: that, by its name, or that there was no memory for that
abbrev pub Unlogs : CommandLine → TidyFailure → Type 0
Unlogs line (Unreadable name) = ⊥
Unlogs line (Unwritable name) = line.log ≡ Some name.now
Unlogs line Memory = Unit {0}

-- how the arguments are to be written
abbrev pub tidy_usage : List ℕ
tidy_usage = codes "usage: tidy [--log LOG] FILE"

-- what is told of a failure
abbrev pub tidy_message : TidyFailure → List ℕ
tidy_message (Unreadable name) = cannot (codes "tidy") (codes "read") name.now
tidy_message (Unwritable name) = cannot (codes "tidy") (codes "write") name.now
tidy_message Memory = codes "tidy: out of memory"

-- the ways in which a run ends: nothing is told; the report is printed, once it is in LOG where that is given; it couldn't be printed; it
-- couldn't be written to LOG; there is none, for this reason; or the arguments aren't of the form
pub data TidyWay : Type 0 where
  Clean : TidyWay
  Found : (shown : List ℕ) (logged : Option (List ℕ)) → TidyWay
  Unprinted : (shown : List ℕ) (logged : Option (List ℕ)) → TidyWay
  Unlogged : (shown plain : List ℕ) (failure : TidyFailure) → TidyWay
  Failed : (failure : TidyFailure) → TidyWay
  BadUsage : TidyWay

-- whether a run for a line may end so, over what FILE holds and by what rules tell of a source
abbrev pub MayTidy : CommandLine → Option (List ℕ) → (List ℕ → List Told) → TidyWay → Type 0
MayTidy line file tells Clean = (source : List ℕ) × Reads line file source × (tells source ≡ [])
MayTidy line file tells (Found shown logged) = IsReport line file tells shown logged
MayTidy line file tells (Unprinted shown logged) = IsReport line file tells shown logged
MayTidy line file tells (Unlogged shown plain failure) = IsReport line file tells shown (Some plain) × Unlogs line failure
MayTidy line file tells (Failed failure) = TidyFails line file failure
MayTidy line file tells BadUsage = ⊥

-- the same of a run for these arguments, which is misused where they aren't of the form
abbrev pub MayTidyFor : List Argument → Option (List ℕ) → (List ℕ → List Told) → TidyWay → Type 0
MayTidyFor args file tells way = MatchOption (command_line_of args) (way ≡ BadUsage) (λ line. MayTidy line file tells way)

-- the end that it is then
abbrev pub tidy_end : TidyWay → End
tidy_end Clean = printing Silent 0
tidy_end (Found shown logged) = printing (Whole shown) 1
tidy_end (Unprinted shown logged) = printing (CutShort shown) 2
tidy_end (Unlogged shown plain failure) = telling (tidy_message failure) 2
tidy_end (Failed failure) = telling (tidy_message failure) 2
tidy_end BadUsage = telling tidy_usage 2

-- what LOG is given where its text is written, which there is none of without LOG
abbrev pub all_logged : Option (List ℕ) → Output
all_logged None = Silent
all_logged (Some plain) = Whole plain

-- what LOG is given then
abbrev pub log_of : TidyWay → Output
log_of Clean = Silent
log_of (Found shown logged) = all_logged logged
log_of (Unprinted shown logged) = all_logged logged
log_of (Unlogged shown plain failure) = CutShort plain
log_of (Failed failure) = Silent
log_of BadUsage = Silent

-- a run of these arguments ends with this status, and gives the two streams what they are given, and LOG too
pub record TidyEnds (args : List Argument) (file : Option (List ℕ)) (tells : List ℕ → List Told) (status : ℕ) (Out Err Log : Output → Type 0) : Type 0 where
  pub ends : Ends (MayTidyFor args file tells) tidy_end status Out Err
  pub log : Log (log_of ends.way)

-- what is written of texts: the first goes to standard output, and with LOG the second to that, all of it
abbrev pub AreGiven : Option Argument → (List ℕ → Type 0) → (Output → Type 0) → List (List ℕ) → Type 0
AreGiven log Printed Log [] = ⊥
AreGiven None Printed Log (shown ∷ []) = Printed shown × Log Silent
AreGiven None Printed Log (shown ∷ plain ∷ texts) = ⊥
AreGiven (Some log) Printed Log (shown ∷ []) = ⊥
AreGiven (Some log) Printed Log (shown ∷ plain ∷ []) = Printed shown × Log (Whole plain)
AreGiven (Some log) Printed Log (shown ∷ plain ∷ more ∷ texts) = ⊥

-- the same where the second couldn't be written to LOG of this name: the first isn't printed
abbrev pub AreKept : Option Argument → Argument → (Output → Type 0) → (Output → Type 0) → List (List ℕ) → Type 0
AreKept log name Out Log [] = ⊥
AreKept log name Out Log (shown ∷ []) = ⊥
AreKept log name Out Log (shown ∷ plain ∷ []) = (log ≡ Some name) × Out Silent × Log (CutShort plain)
AreKept log name Out Log (shown ∷ plain ∷ more ∷ texts) = ⊥

-- what became of texts: there are none; all are written, LOG's first; what is for LOG of this name couldn't be written; or what is for
-- standard output couldn't be printed
abbrev pub Becomes : WriteOutcome → Option Argument → List (List ℕ) → (Output → Type 0) → (Output → Type 0) → Type 0
Becomes written.Nothing log texts Out Log = (texts ≡ []) × Out Silent × Log Silent
Becomes written.All log texts Out Log = AreGiven log (λ shown. Out (Whole shown)) Log texts
Becomes written.Unprinted log texts Out Log = AreGiven log (λ shown. Out (CutShort shown)) Log texts
Becomes (written.Unlogged name) log texts Out Log = AreKept log name.now Out Log texts

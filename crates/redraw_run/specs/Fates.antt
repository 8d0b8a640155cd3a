-- What becomes of a finding, of a value of JSON, of a piece and of an input: which things are done about it, in their order. Each of these
-- kinds of things is told by what is asked for.
use Rattle.std.specs.Prelude.{◌≡◌, ◌≢◌, ◌⊎◌, ℕ, Bool, true, false, List, [], ◌∷◌, ◌++◌, Option, Some, None, is_some, codes, length, unwrap_or}
use Rattle.std.specs.Str.{IsUtf8}
use Rattle.json_lines.specs.Cut.{without_results}
use Rattle.json_lines.specs.Field.{flag_field, text_field}
use Rattle.json_lines.specs.Lenient.{list_at}
use Rattle.serde_json.specs.Data.{Data, array, null}
use Rattle.serde_json.specs.Find.{get}
use Rattle.serde_json.specs.Read.{read}
use Rattle.serde_json.specs.View.{items_of}
use Rattle.redraw_command.specs.Arguments.{argument_at}
use Rattle.redraw_command.specs.Choice.{IsTaken}
use Rattle.redraw_command.specs.Shortened.{IsShownOf}
use Rattle.redraw_command.specs.Line.{begins_document, begins_object, begins_utf16, mark}
use Rattle.redraw_command.specs.Workflow.{command}
use Rattle.redraw_command.specs.declared.choice.Choice.{Choice}
use Rattle.redraw_command.specs.declared.choice.OutputForm.TheVariants.{Report, Workflow, Verify}
use Rattle.redraw_command.specs.declared.stop.Stop.{Stop}
use Rattle.redraw_command.specs.declared.stop.Stop.TheVariants.{Memory, Unwritable, Unreadable, Utf16}
use Rattle.redraw_read.specs.Rustc.{IsPackagedAs, IsReadAs}
use Rattle.redraw_report.specs.declared.diagnostic.Diagnostic.{Diagnostic}
use Rattle.redraw_report.specs.declared.diagnostic.Unit.TheVariants.{Bytes}
use Rattle.redraw_run.specs.Deeds.{State, Deed, Drawn, Commanded, Compared, HandedOn, Told, Refused, LeftOut, Repeated, BuildFailed, Does, IsCutShort}
use Rattle.redraw_run.specs.Deeds.{IsPartOfDeeds}
use Rattle.redraw_run.specs.FindingLines.{AreOfFinding}
use Rattle.redraw_run.specs.Logged.{AreFiles, IsFindingOf, document_in, items_in, results_of}
use Rattle.redraw_run.specs.Marked.{IsToldIn}
use Rattle.redraw_run.specs.declared.kind.Kind.{Kind}
use Rattle.redraw_run.specs.declared.kind.Kind.TheVariants as kind
use Rattle.redraw_tools.specs.declared.log.LogForm.{LogForm}
use Rattle.redraw_tools.specs.declared.log.LogForm.TheVariants as form

-- two kinds of things are done, one after the other
pub record Then (First Next : Choice → List Deed → Type 0) (c : Choice) (deeds : List Deed) : Type 0 where
  pub before : List Deed
  pub after : List Deed
  pub split : deeds ≡ before ++ after
  pub first : First c before
  pub next : Next c after

-- nothing is done
abbrev pub AreNone : Choice → List Deed → Type 0
AreNone c deeds = deeds ≡ []

-- about some things, in their order, what is done about each
abbrev pub Each : {X : Type 0} → (X → Choice → List Deed → Type 0) → List X → Choice → List Deed → Type 0
Each Are [] = AreNone
Each Are (x ∷ xs) = Then (Are x) (Each Are xs)

-- messages are told, and nothing else is done
abbrev pub AreMessages : Choice → List Deed → Type 0
AreMessages c [] = Unit {0}
AreMessages c (Told line ∷ deeds) = AreMessages c deeds
AreMessages c (_ ∷ deeds) = ⊥

-- a part of the input is left out
abbrev pub LeavesOut : Choice → List Deed → Type 0
LeavesOut c deeds = deeds ≡ LeftOut ∷ []

-- one message is told
abbrev pub IsTelling : Choice → List Deed → Type 0
IsTelling c deeds = (line : List ℕ) × (deeds ≡ Told line ∷ [])

-- something wrong is left out, and one message says so
abbrev pub IsWrong : Choice → List Deed → Type 0
IsWrong c deeds = (line : List ℕ) × (deeds ≡ LeftOut ∷ Told line ∷ [])

-- a line is handed on as it is, and nothing else is done
abbrev pub IsHandedOn : List ℕ → Choice → List Deed → Type 0
IsHandedOn line c deeds = deeds ≡ HandedOn line ∷ []

-- a finding that was drawn before isn't drawn again, where that isn't asked for
abbrev pub IsRepeated : Choice → List Deed → Type 0
IsRepeated c deeds = (c.has_duplicates ≡ false) × (deeds ≡ Repeated ∷ [])

-- the build failed, as cargo says, or as an error that can't be read tells, and nothing else is done
abbrev pub IsFailed : Choice → List Deed → Type 0
IsFailed c deeds = deeds ≡ BuildFailed ∷ []

-- a finding is shown as a report: after messages on its files and its places it is drawn, once; or its report is refused, and one message
-- says why
abbrev pub IsShown : Diagnostic → Choice → List Deed → Type 0
IsShown d c [] = ⊥
IsShown d c (Told line ∷ deeds) = IsShown d c deeds
IsShown d c (Drawn finding text ∷ deeds) = (finding ≡ d) × (deeds ≡ [])
IsShown d c (Refused finding why ∷ deeds) = (finding ≡ d) × ((line : List ℕ) × (deeds ≡ Told line ∷ []))
IsShown d c (_ ∷ deeds) = ⊥

-- a finding is written as its command, once; or it has none, and nothing is done
abbrev pub IsWritten : Diagnostic → Choice → List Deed → Type 0
IsWritten d c deeds = ((line : List ℕ) × (deeds ≡ Commanded d line ∷ [])) ⊎ ((command d ≡ None) × (deeds ≡ []))

-- the report of a finding is compared with the text that rustc has of it; or there is no such text, and nothing is done
abbrev pub IsCompared : Diagnostic → Choice → List Deed → Type 0
IsCompared d c deeds = ((is_same : Bool) × (shown : List ℕ) × (deeds ≡ Compared d is_same shown ∷ [])) ⊎ (deeds ≡ [])

-- what becomes of a finding that is to be drawn, by the form that is asked for
abbrev pub IsDrawing : Diagnostic → Choice → List Deed → Type 0
IsDrawing d c deeds =
    ((c.form ≡ Report) × IsShown d c deeds) ⊎ ((c.form ≡ Workflow) × IsWritten d c deeds) ⊎ ((c.form ≡ Verify) × IsCompared d c deeds)

-- what becomes of a finding that is asked for: it is drawn; or nothing is, where it was drawn before and isn't to be drawn again
abbrev pub IsChosen : Diagnostic → Choice → List Deed → Type 0
IsChosen d c deeds = IsRepeated c deeds ⊎ IsDrawing d c deeds

-- what becomes of a finding: nothing of one that isn't asked for
abbrev pub IsTaking : Diagnostic → Choice → List Deed → Type 0
IsTaking d c deeds = ((IsTaken c d → ⊥) × (deeds ≡ [])) ⊎ (IsTaken c d × IsChosen d c deeds)

-- what becomes of a finding that is read: this of it with its paths as they are shown from the folder
abbrev pub IsTakingRead : Diagnostic → Choice → List Deed → Type 0
IsTakingRead read c deeds = (d : Diagnostic) × IsShownOf (argument_at c.folder) read d × IsTaking d c deeds

-- what becomes of what is to report a finding of a kind: it can't be read, and is left out; or this becomes of such a one, which is read
abbrev pub IsReportedAs : (Diagnostic → Type 0) → Choice → List Deed → Type 0
IsReportedAs Is c deeds = IsWrong c deeds ⊎ ((read : Diagnostic) × Is read × IsTakingRead read c deeds)

-- what becomes of an error of rustc that can't be read: it is left out, one message says so, and the run fails
abbrev pub IsErrorLost : Choice → List Deed → Type 0
IsErrorLost = Then IsWrong IsFailed

-- what becomes of a diagnostic of rustc: that of an error that can't be read, else that of what is to report a finding of a kind
abbrev pub IsDiagnosed : (Diagnostic → Type 0) → Choice → List Deed → Type 0
IsDiagnosed Is c deeds = IsErrorLost c deeds ⊎ IsReportedAs Is c deeds

-- what becomes of a result of a log's run: after messages on what is wrong with it, this becomes of the finding that it reports, or it is
-- left out
abbrev pub IsFound : LogForm → (run result : Data) → Choice → List Deed → Type 0
IsFound form run result c deeds =
    LeavesOut c deeds ⊎ ((read : Diagnostic) × IsFindingOf form c.columns run result read × IsTakingRead read c deeds)

abbrev pub IsResult : LogForm → (run result : Data) → Choice → List Deed → Type 0
IsResult form run result = Then AreMessages (IsFound form run result)

-- what becomes of a run of a log: after messages on what is wrong with it, this becomes of its results, in their order
abbrev pub IsLogRun : LogForm → Data → Choice → List Deed → Type 0
IsLogRun form run = Then AreMessages (Each (IsResult form run) (results_of form run))

-- what becomes of the runs of a log, in their order
abbrev pub AreRuns : LogForm → List Data → Choice → List Deed → Type 0
AreRuns form = Each (IsLogRun form)

-- what becomes of a log of SARIF: its runs are no list, and it is left out; or this becomes of its runs
abbrev pub IsLog : Data → Choice → List Deed → Type 0
IsLog d c deeds = IsWrong c deeds ⊎ AreRuns form.Sarif (list_at (codes "runs") d) c deeds

-- a value has a field of this name
abbrev pub Has : List ℕ → Data → Type 0
Has name d = is_some (get name d) ≡ true

-- a value has none of this name
abbrev pub Lacks : List ℕ → Data → Type 0
Lacks name d = is_some (get name d) ≡ false

-- a value is a diagnostic of rustc, by its fields
abbrev pub IsRustc : Data → Type 0
IsRustc d = Has (codes "message") d × Has (codes "spans") d

-- cargo says in a message that the build failed
abbrev pub IsFailure : List ℕ → Data → Type 0
IsFailure reason d = (reason ≡ codes "build-finished") × (flag_field (codes "success") d ≡ Some false)

-- what a message with a reason is, as cargo writes them: one with a diagnostic of rustc, the last one of a build that failed, or another
abbrev pub IsCargoKind : List ℕ → Data → Kind → Type 0
IsCargoKind reason d kind.Rustc = ⊥
IsCargoKind reason d kind.Cargo = reason ≡ codes "compiler-message"
IsCargoKind reason d kind.Failed = IsFailure reason d
IsCargoKind reason d kind.Other = (reason ≢ codes "compiler-message") × (IsFailure reason d → ⊥)
IsCargoKind reason d kind.Sarif = ⊥
IsCargoKind reason d kind.Lsp = ⊥
IsCargoKind reason d kind.LspNotification = ⊥

-- a value is diagnostics of a document
abbrev pub HasDiagnostics : Data → Type 0
HasDiagnostics d = Has (codes "uri") d × Has (codes "diagnostics") d

-- a value is a notification that has such
abbrev pub IsNotification : Data → Type 0
IsNotification d = text_field (codes "method") d ≡ Some (codes "textDocument/publishDiagnostics")

-- what a value is of the Language Server Protocol
abbrev pub IsLspKind : Data → Option Kind → Type 0
IsLspKind d (Some kind.Rustc) = ⊥
IsLspKind d (Some kind.Cargo) = ⊥
IsLspKind d (Some kind.Failed) = ⊥
IsLspKind d (Some kind.Other) = ⊥
IsLspKind d (Some kind.Sarif) = ⊥
IsLspKind d (Some kind.Lsp) = HasDiagnostics d
IsLspKind d (Some kind.LspNotification) = (HasDiagnostics d → ⊥) × IsNotification d
IsLspKind d None = (HasDiagnostics d → ⊥) × (IsNotification d → ⊥)

-- the same of one that is no message of rustc
abbrev pub IsOfLsp : Data → Option Kind → Type 0
IsOfLsp d found = (IsRustc d → ⊥) × Lacks (codes "$message_type") d × IsLspKind d found

-- what a value without a reason is, and that isn't a log: a diagnostic of rustc, another message of it, or nothing that is known
abbrev pub IsRustcKind : Data → Option Kind → Type 0
IsRustcKind d (Some kind.Rustc) = IsRustc d
IsRustcKind d (Some kind.Cargo) = ⊥
IsRustcKind d (Some kind.Failed) = ⊥
IsRustcKind d (Some kind.Other) = (IsRustc d → ⊥) × Has (codes "$message_type") d
IsRustcKind d (Some kind.Sarif) = ⊥
IsRustcKind d (Some kind.Lsp) = IsOfLsp d (Some kind.Lsp)
IsRustcKind d (Some kind.LspNotification) = IsOfLsp d (Some kind.LspNotification)
IsRustcKind d None = IsOfLsp d None

-- what a value that isn't a log is, by its reason
abbrev pub IsMessageKind : Option (List ℕ) → Data → Option Kind → Type 0
IsMessageKind None d found = IsRustcKind d found
IsMessageKind (Some reason) d None = ⊥
IsMessageKind (Some reason) d (Some known) = IsCargoKind reason d known

-- what a value of JSON is, by its fields; none where it is of no form that is known
abbrev pub IsOfKind : Data → Option Kind → Type 0
IsOfKind d found =
    (Has (codes "runs") d × (found ≡ Some kind.Sarif))
    ⊎ (Lacks (codes "runs") d × IsMessageKind (text_field (codes "reason") d) d found)

-- what becomes of a value of a kind that is known: a diagnostic, alone or in a message of cargo, is what it is read as; the last message
-- of cargo says that the build failed; any other message says nothing; and a log has runs
abbrev pub IsKnown : Kind → Data → Choice → List Deed → Type 0
IsKnown kind.Rustc d = IsDiagnosed (IsReadAs d)
IsKnown kind.Cargo d = IsDiagnosed (IsPackagedAs d)
IsKnown kind.Failed d = IsFailed
IsKnown kind.Other d = AreNone
IsKnown kind.Sarif d = IsLog d
IsKnown kind.Lsp d = IsLogRun form.Lsp d
IsKnown kind.LspNotification d = IsLogRun form.Lsp (document_in d)

-- what becomes of a value of no form that is known, which is this piece: it is left out as wrong, or handed on
abbrev pub IsUnknown : List ℕ → Choice → List Deed → Type 0
IsUnknown piece c deeds = IsWrong c deeds ⊎ IsHandedOn piece c deeds

-- what becomes of a value of this kind, which is this piece
abbrev pub IsOfFound : List ℕ → Data → Option Kind → Choice → List Deed → Type 0
IsOfFound piece d None c deeds = IsUnknown piece c deeds
IsOfFound piece d (Some known) c deeds = IsKnown known d c deeds

-- what becomes of a value of JSON, which is this piece
abbrev pub IsValue : List ℕ → Data → Choice → List Deed → Type 0
IsValue piece d c deeds = (found : Option Kind) × IsOfKind d found × IsOfFound piece d found c deeds

-- what may end a line
abbrev pub IsLineEnd : List ℕ → Type 0
IsLineEnd end = (end ≡ []) ⊎ (end ≡ 10 ∷ []) ⊎ (end ≡ 13 ∷ []) ⊎ (end ≡ 13 ∷ 10 ∷ [])

-- a text is this without its end
pub record IsWithoutEnd (text rest : List ℕ) : Type 0 where
  pub end : List ℕ
  pub ends : IsLineEnd end
  pub split : text ≡ rest ++ end

-- a text is a value of JSON, or is none
pub record Reads (text : List ℕ) (found : Option Data) : Type 0 where
  pub json : List ℕ
  pub cut : IsWithoutEnd text json
  pub reads : read json ≡ found

-- a piece has this text, after the mark of the order of bytes if it has that
abbrev pub IsTextOf : List ℕ → List ℕ → Type 0
IsTextOf piece text = (piece ≡ text) ⊎ (piece ≡ mark ++ text)

-- a value stands in a text: a part of it is read as the value. What can't be read there is null
abbrev pub StandsIn : List ℕ → Data → Type 0
StandsIn text d = (d ≡ null) ⊎ ((before part after : List ℕ) × (text ≡ before ++ part ++ after) × Reads part (Some d))

abbrev pub AllStand : List ℕ → List Data → Type 0
AllStand text [] = Unit {0}
AllStand text (d ∷ ds) = StandsIn text d × AllStand text ds

-- what becomes of a run of a long log, this piece, of which the results were let go: so many values stand in the piece, and this becomes of
-- each, in their order, as of a result of the run
abbrev pub AreStanding : List ℕ → ℕ → Data → Choice → List Deed → Type 0
AreStanding piece count run c deeds =
    (results : List Data) × (length results ≡ count) × AllStand piece results × Each (IsResult form.Sarif run) results c deeds

-- the same, after messages on what is wrong with the run
abbrev pub IsCutRun : List ℕ → ℕ → Data → Choice → List Deed → Type 0
IsCutRun piece count run = Then AreMessages (AreStanding piece count run)

-- what becomes of a run of such a log: this of it without its results, of as many values as it has results
abbrev pub IsLongRun : List ℕ → Data → Choice → List Deed → Type 0
IsLongRun piece run = IsCutRun piece (length (list_at (codes "results") run)) (without_results run)

-- what becomes of such a log, which is this value: it has a list of runs, and this becomes of each, in their order
abbrev pub IsCutLog : List ℕ → Data → Choice → List Deed → Type 0
IsCutLog piece d c deeds =
    (runs : List Data) × (get (codes "runs") d ≡ Some (array (items_of runs))) × Each (IsLongRun piece) runs c deeds

-- what becomes of a piece that begins as an object does: one that isn't UTF-8 is left out as wrong, one that isn't JSON is handed on, and of
-- a value becomes what becomes of that, or of a long log
abbrev pub IsObject : List ℕ → List ℕ → Choice → List Deed → Type 0
IsObject piece text c deeds =
    ((IsUtf8 text → ⊥) × IsWrong c deeds)
    ⊎ (Reads text None × IsHandedOn piece c deeds)
    ⊎ ((d : Data) × Reads text (Some d) × IsValue piece d c deeds)
    ⊎ ((d : Data) × Reads text (Some d) × IsCutLog piece d c deeds)

-- what becomes of a finding that some lines tell of, where lines of compilers are read too
abbrev pub IsTold : List ℕ → Choice → List Deed → Type 0
IsTold lines c deeds =
    (c.reads_lines ≡ true) × ((read : Diagnostic) × IsToldIn (unwrap_or c.columns Bytes) lines read × IsTakingRead read c deeds)

-- what becomes of lines that tell of a finding: they are handed on, or this becomes of it
abbrev pub IsFindingOrText : List ℕ → Choice → List Deed → Type 0
IsFindingOrText lines c deeds = IsHandedOn lines c deeds ⊎ IsTold lines c deeds

-- what becomes of ESLint's log: this of the messages of its files
abbrev pub IsEslintLog : Data → Choice → List Deed → Type 0
IsEslintLog d c deeds = AreFiles (items_in d) × AreRuns form.Eslint (items_in d) c deeds

-- what becomes of a list of this value, which is this piece: it is handed on, or is ESLint's log
abbrev pub IsList : List ℕ → Data → Choice → List Deed → Type 0
IsList piece d c deeds = IsHandedOn piece c deeds ⊎ IsEslintLog d c deeds

-- what becomes of a piece with this text: one that doesn't begin as an object does is handed on, unless it tells of a finding, or is ESLint's
-- log
abbrev pub IsPieceWith : List ℕ → List ℕ → Choice → List Deed → Type 0
IsPieceWith piece text c deeds =
    ((begins_object text ≡ false) × IsHandedOn piece c deeds)
    ⊎ ((begins_object text ≡ true) × IsObject piece text c deeds)
    ⊎ (AreOfFinding text × IsTold piece c deeds)
    ⊎ ((begins_document text ≡ true) × ((d : Data) × Reads text (Some d) × IsEslintLog d c deeds))

-- what becomes of a piece
abbrev pub IsFateOfPiece : List ℕ → Choice → List Deed → Type 0
IsFateOfPiece piece c deeds = (text : List ℕ) × IsTextOf piece text × IsPieceWith piece text c deeds

-- what becomes of the end of an input: one message may tell that nothing in it was of a form that is known
abbrev pub IsEnd : Choice → List Deed → Type 0
IsEnd c deeds = (deeds ≡ []) ⊎ IsTelling c deeds

-- what becomes of an input of these pieces: of each, in their order, and then of its end
abbrev pub IsInput : List (List ℕ) → Choice → List Deed → Type 0
IsInput pieces = Then (Each IsFateOfPiece pieces) IsEnd

-- what becomes of pieces of an input that stops: of all of them; or of those before the last one, and a part of what becomes of that
abbrev pub IsHalted : List (List ℕ) → Choice → List Deed → Type 0
IsHalted pieces c deeds =
    Each IsFateOfPiece pieces c deeds
    ⊎ ((before : List (List ℕ)) × (piece : List ℕ) × (pieces ≡ before ++ piece ∷ [])
    × Then (Each IsFateOfPiece before) (IsPartOfDeeds (IsFateOfPiece piece)) c deeds)

-- an input is written in UTF-16, as the first bytes of its first line tell, and nothing else of it was read
abbrev pub IsOfUtf16 : List (List ℕ) → Type 0
IsOfUtf16 pieces = (line : List ℕ) × (pieces ≡ line ∷ []) × (begins_utf16 line ≡ true)

-- what becomes of an input that stops for this reason, of which these pieces were read: where no more of it could be read, of all of them;
-- and nothing where it is written in UTF-16
abbrev pub Halts : Stop → List (List ℕ) → State → State → Type 0
Halts Memory pieces a b = Does (IsHalted pieces) a b
Halts (Unwritable error) pieces a b = IsCutShort (IsHalted pieces) a b
Halts (Unreadable error) pieces a b = Does (Each IsFateOfPiece pieces) a b
Halts Utf16 pieces a b = IsOfUtf16 pieces × Does AreNone a b

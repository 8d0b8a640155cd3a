-- What a log is made of, be it SARIF, ESLint's or of a language server, and what a result of it reports.
use Rattle.std.specs.Prelude.{◌≡◌, List, [], ◌∷◌, Option, Some, codes, is_some, true, unwrap_or}
use Rattle.serde_json.specs.Data.{Data}
use Rattle.serde_json.specs.Find.{as_array, get}
use Rattle.json_lines.specs.Lenient.{list_at, values}
use Rattle.redraw_report.specs.declared.diagnostic.Diagnostic.{Diagnostic}
use Rattle.redraw_report.specs.declared.diagnostic.Unit.{Unit}
use Rattle.redraw_tools.specs.Eslint as eslint
use Rattle.redraw_tools.specs.Found.{found_view}
use Rattle.redraw_tools.specs.Lsp as lsp
use Rattle.redraw_tools.specs.Result.{IsResultOf}
use Rattle.redraw_tools.specs.Units.{run_unit}
use Rattle.redraw_tools.specs.declared.log.LogForm.{LogForm}
use Rattle.redraw_tools.specs.declared.log.LogForm.TheVariants as form

-- the results of a run of a log: those of a run of SARIF, the messages about a file, the diagnostics of a document
abbrev pub results_of : LogForm → Data → List Data
results_of form.Sarif run = list_at (codes "results") run
results_of form.Eslint run = list_at (codes "messages") run
results_of form.Lsp run = list_at (codes "diagnostics") run

-- this finding is what a result of a run reports. The columns of SARIF count what is asked for, else what the run says
abbrev pub IsFindingOf : LogForm → Option Unit → (run result : Data) → Diagnostic → Type 0
IsFindingOf form.Sarif columns run result d = IsResultOf run (run_unit columns run) result d
IsFindingOf form.Eslint columns run result d = Some (found_view d) ≡ eslint.finding_in run result
IsFindingOf form.Lsp columns run result d = Some (found_view d) ≡ lsp.finding_in run result

-- a file of ESLint's log has a path and messages
abbrev pub HasMessages : Data → Type 0
HasMessages file = (is_some (get (codes "filePath") file) ≡ true) × (is_some (get (codes "messages") file) ≡ true)

-- some values are the files of ESLint's log, as the first of them tells
abbrev pub AreFiles : List Data → Type 0
AreFiles [] = ⊥
AreFiles (file ∷ files) = HasMessages file

-- the values that a list has
abbrev pub items_in : Data → List Data
items_in d = values (as_array d)

-- the document of a notification: its parameters, else itself
abbrev pub document_in : Data → Data
document_in d = unwrap_or (get (codes "params") d) d

-- What the results of a log report, be it SARIF, ESLint's or of a language server.
use Rattle.std.specs.Prelude.{◌≡◌, List, MatchOption, None, Option, codes, option_map}
use Rattle.serde_json.specs.Data.{Data}
use Rattle.serde_json.specs.Find.{as_object}
use Rattle.serde_json.specs.View.{view}
use Rattle.json_lines.specs.Lenient.{list_at}
use Rattle.redraw_report.specs.declared.diagnostic.Diagnostic.{Diagnostic}
use Rattle.redraw_tools.specs.Eslint as eslint
use Rattle.redraw_tools.specs.Found.{found_view}
use Rattle.redraw_tools.specs.Lsp as lsp
use Rattle.redraw_tools.specs.Result.{IsResultOf}
use Rattle.redraw_tools.specs.Units.{run_unit}
use Rattle.redraw_report.specs.declared.diagnostic.Unit.{Unit}
use Rattle.redraw_tools.specs.declared.log.LogForm.{LogForm}
use Rattle.redraw_tools.specs.declared.log.LogForm.TheVariants as form
use Rattle.redraw_tools.specs.declared.log.LogRun.{LogRun}
use Rattle.redraw_tools.specs.declared.log.LogRun.TheVariants.{Sarif, Eslint, Lsp}

-- a run is one of a log of this form, and has this value; the columns of a run of SARIF count what is asked for, else what it says itself
abbrev pub IsRunOf : LogForm → Option Unit → Data → LogRun → Type 0
IsRunOf form.Sarif columns d (Sarif run) = (view run.node.value.now ≡ d) × (run.unit ≡ run_unit columns d)
IsRunOf form.Eslint columns d (Eslint file) = view file.value.now ≡ d
IsRunOf form.Lsp columns d (Lsp document) = view document.value.now ≡ d
IsRunOf form columns d run = ⊥

-- the results of a run: those of a SARIF log's run, the messages about a file, the diagnostics of a document
abbrev pub results_in : LogRun → List Data
results_in (Sarif run) = list_at (codes "results") (view run.node.value.now)
results_in (Eslint file) = list_at (codes "messages") (view file.value.now)
results_in (Lsp document) = list_at (codes "diagnostics") (view document.value.now)

-- this is what a result of a run reports
abbrev pub IsReportedBy : LogRun → Data → Option Diagnostic → Type 0
IsReportedBy (Sarif run) d found = MatchOption found (as_object d ≡ None) (IsResultOf (view run.node.value.now) run.unit d)
IsReportedBy (Eslint file) d found = option_map found_view found ≡ eslint.finding_in (view file.value.now) d
IsReportedBy (Lsp document) d found = option_map found_view found ≡ lsp.finding_in (view document.value.now) d

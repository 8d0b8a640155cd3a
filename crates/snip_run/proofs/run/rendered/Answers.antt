use Rattle.std.proofs.Common.{◌≡◌, ◌∷◌, [], ℕ, List, IfOk, None, Some, alloc_error, string_bytes, subst}
use Rattle.std.proofs.lemmas.Result.{IfOk-weaker}
use Rattle.annotate_snippets.specs.declared.renderer.Renderer.{Renderer}
use Rattle.annotate_snippets.specs.declared.renderer.RenderError.TheVariants.{Memory}
use Rattle.annotate_snippets.specs.declared.snippet.Group.{Group}
use Rattle.annotate_snippets.proofs.ReportLemmas.{IfOk-both, IfOk-map_err}
use Rattle.annotate_snippets.specs.Fault.{first_refusal}
use Rattle.annotate_snippets.specs.Fits.{ReportFits}
use Rattle.annotate_snippets.specs.Laws.Forms.{HasLaws}
use Rattle.annotate_snippets.specs.Forms.{ShowsReport}
use Rattle.snip_run.specs.declared.arguments.SnipCommand.{SnipCommand}
use Rattle.snip_run.specs.Report.{IsReportFor, RefusesCommand, ShowsCommand}
use Rattle.snip_run.proofs.Reporting.{allowed_and, ok_had, refused_or_want}
use Rattle.snip_run.proofs.run.rendered.Goals as goal

pub returns : goal.returns
returns c =
    let command : SnipCommand = c.args.command.now in
    let source : List ℕ = c.args.source.now in
    let group : Group = c.in_ok-group.group in
    let given : (P : Group → Type 0) → IfOk c.report_of.result P → P group = λ P holds.
    ok_had P c.map_err.result group c.in_ok-group.was (IfOk-map_err P _ c.report_of.result c.map_err.result holds c.map_err.ensures.cases) in
    let report = given (λ g. IsReportFor command source (g ∷ [])) c.report_of.ensures.report in
    let fits = given (λ g. ReportFits (g ∷ [])) c.report_of.ensures.fits in
    let made : Renderer = c.renderer_of.result in
    let settings = c.renderer_of.ensures.settings in
    let Shows : List ℕ → Type 0 = ShowsReport made (group ∷ []) made.stylesheet in
    let Laws : List ℕ → Type 0 = HasLaws made (group ∷ []) made.stylesheet in
    record {
      shows = IfOk-weaker c.render.result
          (λ text. (first_refusal made (group ∷ []) ≡ None) × (Shows (string_bytes text) × Laws (string_bytes text)))
          (λ text. ShowsCommand command source (string_bytes text))
          (λ text shown. record {
            groups = group ∷ [];
            report = report;
            allowed = subst (λ (r : Renderer). first_refusal r (group ∷ []) ≡ None) settings shown.0;
            shows =
                subst (λ (r : Renderer). ShowsReport r (group ∷ []) r.stylesheet (string_bytes text)) settings shown.1.0;
            laws = subst (λ (r : Renderer). HasLaws r (group ∷ []) r.stylesheet (string_bytes text)) settings shown.1.1;
          }) (allowed_and _ (first_refusal made (group ∷ [])) c.render.result c.render.ensures.refused
          (IfOk-both (λ text. Shows (string_bytes text)) (λ text. Laws (string_bytes text)) c.render.result c.render.ensures.shows c.render.ensures.laws));
      refused = refused_or_want (RefusesCommand command source) (first_refusal made (group ∷ [])) c.render.result (Memory alloc_error)
          c.render.ensures.refused
          (λ none. c.render.ensures.renders record { faultless = none; fits = fits })
          (λ refusal is. record {
            groups = group ∷ [];
            report = report;
            refused = subst (λ (r : Renderer). first_refusal r (group ∷ []) ≡ Some refusal) settings is;
          });
    }

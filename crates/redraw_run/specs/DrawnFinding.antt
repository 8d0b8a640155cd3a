-- What is drawn of a finding, and what is written of it.
use Rattle.std.specs.Prelude.{◌≡◌, ◌||◌, not, ◌⊎◌, ℕ, Bool, List, [], ◌∷◌, ◌++◌, Option, Some, None, alloc_error, map, if◌then◌else◌}
use Rattle.annotate_snippets.specs.Laws.Forms.{HasLaws}
use Rattle.annotate_snippets.specs.Forms.{ShowsReport}
use Rattle.annotate_snippets.specs.Fault.{first_refusal, refusal_in}
use Rattle.annotate_snippets.specs.Article.{IsReportArticle}
use Rattle.annotate_snippets.specs.Markdown.{HasMarkdownLaws, IsReportMarkdown}
use Rattle.annotate_snippets.specs.declared.renderer.Renderer.{Renderer}
use Rattle.annotate_snippets.specs.declared.renderer.error.RenderError.{RenderError}
use Rattle.annotate_snippets.specs.declared.renderer.error.RenderError.TheVariants.{Memory}
use Rattle.annotate_snippets.specs.declared.renderer.form.Form.TheVariants.{Graphic}
use Rattle.annotate_snippets.specs.declared.snippet.Group.{Group}
use Rattle.output_stream.specs.Standing.{Adds, Standing}
use Rattle.redraw_command.specs.Choice.{is_sum}
use Rattle.redraw_command.specs.Look.{is_html}
use Rattle.redraw_command.specs.Tally.{one_more, tallied, with_compared}
use Rattle.redraw_command.specs.Workflow.{command}
use Rattle.redraw_command.specs.declared.choice.OutputForm.{OutputForm}
use Rattle.redraw_command.specs.declared.choice.OutputForm.TheVariants.{Report, Workflow, Verify}
use Rattle.redraw_command.specs.declared.tally.Tally.{Tally}
use Rattle.redraw_command.specs.declared.terminal.Markup.{Markup}
use Rattle.redraw_command.specs.declared.terminal.Markup.TheVariants.{Bare, Html, Markdown}
use Rattle.redraw_read.specs.Placed.{IsFindingOf, home_of}
use Rattle.redraw_read.specs.declared.sources.File.{File}
use Rattle.redraw_report.specs.Links.{HasSafeLinks}
use Rattle.redraw_report.specs.Report.{report_of}
use Rattle.redraw_report.specs.View.{section_view}
use Rattle.redraw_report.specs.declared.diagnostic.Diagnostic.{Diagnostic}
use Rattle.redraw_report.specs.declared.diagnostic.Severity.{Severity}
use Rattle.redraw_report.specs.declared.diagnostic.Severity.TheVariants.{Error, Warning, Info, Note, Help, Plain}
use Rattle.redraw_report.specs.declared.finding.Finding.{Finding}
use Rattle.redraw_run.specs.Article.{IsPlaced}
use Rattle.redraw_run.specs.declared.look.ReportRenderer.{ReportRenderer}

-- a text shows a report in a renderer's settings, in a markup: in HTML as what stands in an article, and without markup under the
-- renderer's sheet
abbrev pub ShowsAs : Markup → Renderer → List Group → List ℕ → Type 0
ShowsAs Html r groups text = IsReportArticle r groups text
ShowsAs Markdown r groups text = IsReportMarkdown r groups text
ShowsAs Bare r groups text = ShowsReport r groups r.stylesheet text

-- and has the laws of that, which an article says itself
abbrev pub HasLawsAs : Markup → Renderer → List Group → List ℕ → Type 0
HasLawsAs Html r groups text = IsReportArticle r groups text
HasLawsAs Markdown r groups text = HasMarkdownLaws r groups text
HasLawsAs Bare r groups text = HasLaws r groups r.stylesheet text

-- why a report gives no text: the first reason in order
abbrev pub refusal_by : ReportRenderer → List Group → Option RenderError
refusal_by r groups = if is_html r.markup then refusal_in Graphic groups else first_refusal r.settings groups

-- whether a form has room for the lines that edits take out: the text form would read them as an edit of their own
abbrev pub has_room : ReportRenderer → Bool
has_room r = is_html r.markup || not r.settings.no_graphics

-- the text shows the report of the finding that the diagnostic reports, its places looked for in these files; and it has the laws of
-- that report's text. The report leads nowhere but to addresses that may be links, and by these laws the text links to what the report
-- leads to: so whatever a log says, inside the code of a link stands such an address
pub record ShowsFinding (r : ReportRenderer) (files : List File) (d : Diagnostic) (text : List ℕ) : Type 0 where
  pub finding : Finding
  pub is : IsFindingOf record { files = files; home = home_of d.homes.items; is_short = r.settings.short_message } d finding
  pub groups : List Group
  pub told : map section_view groups ≡ report_of (has_room r) finding
  pub safe : HasSafeLinks groups
  pub shows : ShowsAs r.markup r.settings groups text
  pub laws : HasLawsAs r.markup r.settings groups text

-- a text is what is printed of one that shows the finding: in HTML its article
pub record ShowsPlaced (r : ReportRenderer) (files : List File) (d : Diagnostic) (text : List ℕ) : Type 0 where
  pub inner : List ℕ
  pub shows : ShowsFinding r files d inner
  pub is : IsPlaced r.markup d inner text

-- the library refuses for this reason, the first in order, the report of the finding that the diagnostic reports, its places looked for
-- in these files
pub record RefusesFinding (r : ReportRenderer) (files : List File) (d : Diagnostic) (why : RenderError) : Type 0 where
  pub finding : Finding
  pub is : IsFindingOf record { files = files; home = home_of d.homes.items; is_short = r.settings.short_message } d finding
  pub groups : List Group
  pub told : map section_view groups ≡ report_of (has_room r) finding
  pub refused : refusal_by r groups ≡ Some why

-- for some reason
abbrev pub Refuses : ReportRenderer → List File → Diagnostic → Type 0
Refuses r files d = (why : RenderError) × RefusesFinding r files d why

-- there is no text of the finding: its report is refused for this reason, or memory was
abbrev pub IsUndrawn : ReportRenderer → List File → Diagnostic → RenderError → Type 0
IsUndrawn r files d why = RefusesFinding r files d why ⊎ (why ≡ Memory alloc_error)

-- the same of a report
abbrev pub IsRefusalOf : ReportRenderer → List Group → RenderError → Type 0
IsRefusalOf r groups why = (refusal_by r groups ≡ Some why) ⊎ (why ≡ Memory alloc_error)

-- what stands after a report: an empty line, but nothing in the short form, and nothing after a text without a level
abbrev pub ending_after : Bool → Severity → List ℕ
ending_after short Error = if short then [] else 10 ∷ []
ending_after short Warning = if short then [] else 10 ∷ []
ending_after short Info = if short then [] else 10 ∷ []
ending_after short Note = if short then [] else 10 ∷ []
ending_after short Help = if short then [] else 10 ∷ []
ending_after short Plain = []

-- a diagnostic is counted as one that is drawn: by its level, unless it only sums up others. Only how many files there are is left open
abbrev pub IsCounted : Diagnostic → Tally → Tally → Type 0
IsCounted d old new = new ≡ record (tallied old d.severity (is_sum d)) { files = new.files }

-- a part of the input is counted as left out
abbrev pub IsLeftOut : Tally → Tally → Type 0
IsLeftOut old new = new ≡ record old { wrong = one_more old.wrong }

-- a text of a finding is printed: to what a writer held it is added, in HTML in its article, and what stands after it
pub record IsPrintedAs (r : ReportRenderer) (d : Diagnostic) (text : List ℕ) (old new : Standing) : Type 0 where
  pub placed : List ℕ
  pub is : IsPlaced r.markup d text placed
  pub written : Adds old new (placed ++ (ending_after r.settings.short_message d.severity ++ 10 ∷ []))

-- a finding is drawn as a report: a text that shows it is printed, and it is counted
pub record IsDrawn (r : ReportRenderer) (files : List File) (d : Diagnostic) (old new : Standing) (before after : Tally) : Type 0 where
  pub text : List ℕ
  pub shows : ShowsFinding r files d text
  pub printed : IsPrintedAs r d text old new
  pub counted : IsCounted d before after

-- a finding is written as a command: to what a writer held, its command is added, as a line, and the finding is counted
pub record IsCommanded (d : Diagnostic) (old new : Standing) (before after : Tally) : Type 0 where
  pub line : List ℕ
  pub is : command d ≡ Some line
  pub written : Adds old new (line ++ 10 ∷ [])
  pub counted : IsCounted d before after

-- the report of a finding is compared: to what a writer held, what is shown of that is added, and the finding is counted as compared
pub record IsComparedTo (old new : Standing) (before after : Tally) : Type 0 where
  pub is_same : Bool
  pub shown : List ℕ
  pub written : Adds old new shown
  pub counted : after ≡ with_compared before is_same

-- what becomes of a finding, by the form that is asked for. As a report it is drawn, or refused: then nothing is written (Same), and
-- it is counted as left out. As a command it is written, or it has none: then nothing is written, and nothing counted. Or its report is
-- compared, or there is no text to compare it with: then nothing is written, and nothing counted
abbrev pub DrawsFinding : OutputForm → ReportRenderer → List File → Diagnostic → Standing → Standing → Type 0 → Tally → Tally → Type 0
DrawsFinding Report r files d old new Same before after = IsDrawn r files d old new before after ⊎ (Refuses r files d × Same × IsLeftOut before after)
DrawsFinding Workflow r files d old new Same before after = IsCommanded d old new before after ⊎ ((command d ≡ None) × Same × (after ≡ before))
DrawsFinding Verify r files d old new Same before after = IsComparedTo old new before after ⊎ (Same × (after ≡ before))

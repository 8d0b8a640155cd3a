-- The article of a report in a page.
use Rattle.std.specs.Prelude.{◌≡◌, ℕ, List, [], ◌∷◌, ◌++◌, Option, None, Some, codes, if◌then◌else◌, option_map, string_bytes}
use Rattle.redraw_command.specs.Choice.{is_sum}
use Rattle.redraw_command.specs.Workflow.{first_primary}
use Rattle.redraw_command.specs.declared.terminal.Markup.{Markup}
use Rattle.redraw_command.specs.declared.terminal.Markup.TheVariants.{Bare, Html, Markdown}
use Rattle.redraw_run.specs.Id.{digest, file_class, report_id}
use Rattle.redraw_run.specs.Page.{Takes}
use Rattle.redraw_run.specs.declared.counts.Kind.{Kind}
use Rattle.redraw_run.specs.declared.counts.Kind.TheVariants as kinds
use Rattle.redraw_run.specs.declared.id.ReportId.{ReportId}
use Rattle.redraw_run.specs.declared.page.Page.{Page}
use Rattle.redraw_report.specs.declared.diagnostic.Diagnostic.{Diagnostic}
use Rattle.redraw_report.specs.declared.diagnostic.FileSpan.{FileSpan}
use Rattle.redraw_report.specs.declared.diagnostic.Severity.{Severity}
use Rattle.redraw_report.specs.declared.diagnostic.Severity.TheVariants.{Error, Warning, Info, Note, Help, Plain}

-- the class of an article, by how severe what it reports is
abbrev pub class_of : Severity → List ℕ
class_of Error = codes "error"
class_of Warning = codes "warning"
class_of Info = codes "info"
class_of Note = codes "note"
class_of Help = codes "help"
class_of Plain = codes "plain"

-- and that of its file, if there is one
abbrev pub class_in : Option (List ℕ) → List ℕ
class_in None = []
class_in (Some name) = 32 ∷ file_class name

-- the file that a report lies in: that of its first primary place
abbrev pub file_among : List FileSpan → Option (List ℕ)
file_among spans = option_map (λ (s : FileSpan). string_bytes s.file) (first_primary spans)

abbrev pub file_of : Diagnostic → Option (List ℕ)
file_of d = file_among d.spans.items

-- what a report counts as: what only sums up others doesn't count, nor does a text without a level
abbrev pub level_kind : Severity → Kind
level_kind Error = kinds.Error
level_kind Warning = kinds.Warning
level_kind Info = kinds.Other
level_kind Note = kinds.Other
level_kind Help = kinds.Other
level_kind Plain = kinds.Uncounted

abbrev pub kind_of : Diagnostic → Kind
kind_of d = if is_sum d then kinds.Uncounted else level_kind d.severity

-- an article with this in it, and a link to itself
abbrev pub article : Severity → Option (List ℕ) → ReportId → List ℕ → List ℕ
article severity file id inner =
    codes "<article class=\"" ++ class_of severity ++ class_in file ++ codes "\" id=\"" ++ report_id id.digest id.number
    ++ codes "\">\n<a href=\"#" ++ report_id id.digest id.number ++ codes "\" aria-label=\"Link to this report\">#</a>\n" ++ inner ++ codes "\n</article>"

-- a text is the article of a finding with this in it, which is taken into a page by it
pub record IsArticleIn (old new : Page) (d : Diagnostic) (inner text : List ℕ) : Type 0 where
  pub id : ReportId
  pub takes : Takes inner (file_of d) (kind_of d) id old new
  pub is : text ≡ article d.severity (file_of d) id inner

-- a text is such an article, by an id that has the digest of what stands in it. Which of those with this digest it is, is left open here
pub record IsArticle (d : Diagnostic) (inner text : List ℕ) : Type 0 where
  pub id : ReportId
  pub digest_is : id.digest ≡ digest inner
  pub is : text ≡ article d.severity (file_of d) id inner

-- what is printed of a finding's text: where HTML is written, its article, else the text itself
abbrev pub IsPlaced : Markup → Diagnostic → List ℕ → List ℕ → Type 0
IsPlaced Html d inner text = IsArticle d inner text
IsPlaced Markdown d inner text = text ≡ inner
IsPlaced Bare d inner text = text ≡ inner

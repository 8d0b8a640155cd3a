-- What becomes of a case.
use Rattle.std.specs.Prelude.{◌≡◌, ◌||◌, ℕ, Bool, true, false, List, [], ◌∷◌, Option, Some, codes, if◌then◌else◌, map, string_bytes}
use Rattle.serde_json.specs.Data.{Data}
use Rattle.serde_json.specs.Read.{read}
use Rattle.annotate_snippets.specs.Article.{IsReportArticle}
use Rattle.annotate_snippets.specs.Fault.{first_refusal, refusal_in}
use Rattle.annotate_snippets.specs.WithLaws.{TextsWithLaws}
use Rattle.annotate_snippets.specs.Refusal.{refusal_text}
use Rattle.annotate_snippets.specs.Html.{HasHtmlLaws, IsReportHtml}
use Rattle.annotate_snippets.specs.Markdown.{HasMarkdownLaws, IsReportMarkdown}
use Rattle.annotate_snippets.specs.declared.renderer.form.Form.TheVariants.{Graphic}
use Rattle.annotate_snippets.specs.declared.renderer.RenderError.{RenderError}
use Rattle.annotate_snippets.specs.declared.renderer.RenderError.TheVariants.{NoGroup, NoTitle, SpanReversed, SpanPastEnd, SpanOffBoundary, PatchesOverlap}
use Rattle.annotate_snippets.specs.declared.renderer.RenderError.TheVariants.{LineNumberTooLarge, Memory}
use Rattle.replay_answer.specs.Case.{IsCaseOf}
use Rattle.replay_answer.specs.declared.case.Case.{Case}
use Rattle.replay_answer.specs.declared.outcome.Outcome.{Outcome}
use Rattle.replay_answer.specs.declared.outcome.Outcome.TheVariants.{Texts, Refused}

-- the name of a refusal
abbrev pub refusal_name : RenderError → List ℕ
refusal_name NoGroup = codes "NoGroup"
refusal_name NoTitle = codes "NoTitle"
refusal_name (SpanReversed group element marker) = codes "SpanReversed"
refusal_name (SpanPastEnd group element marker) = codes "SpanPastEnd"
refusal_name (SpanOffBoundary group element marker) = codes "SpanOffBoundary"
refusal_name (PatchesOverlap group element first second) = codes "PatchesOverlap"
refusal_name (LineNumberTooLarge group element) = codes "LineNumberTooLarge"
refusal_name (Memory refused) = codes "Memory"

-- the refusal of a case, where there is one: the first of its report in the form that is set, or, as HTML, in the graphic form
abbrev pub refusal_of_case : Case → Option RenderError
refusal_of_case case = if case.html || case.html_page then refusal_in Graphic case.groups.items else first_refusal case.renderer case.groups.items

-- one text, the report of a case as HTML in its settings, with its laws
abbrev pub IsHtmlOf : Case → List (List ℕ) → Type 0
IsHtmlOf case texts =
    (text : List ℕ) × (texts ≡ text ∷ []) × IsReportHtml case.renderer case.groups.items text × HasHtmlLaws case.renderer case.groups.items text

-- one text, the report of a case as what stands in an article of a page, in its settings, with its laws
abbrev pub IsPageOf : Case → List (List ℕ) → Type 0
IsPageOf case texts = (text : List ℕ) × (texts ≡ text ∷ []) × IsReportArticle case.renderer case.groups.items text

-- one text, the report of a case in Markdown in its settings, with its laws
abbrev pub IsMarkdownOf : Case → List (List ℕ) → Type 0
IsMarkdownOf case texts =
    (text : List ℕ) × (texts ≡ text ∷ []) × IsReportMarkdown case.renderer case.groups.items text × HasMarkdownLaws case.renderer case.groups.items text

-- the texts of a case, by whether HTML, whether an article of a page, and whether Markdown is asked for
abbrev pub AreTextsAs : Bool → Bool → Bool → Case → List (List ℕ) → Type 0
AreTextsAs true page markdown case texts = IsHtmlOf case texts
AreTextsAs false true markdown case texts = IsPageOf case texts
AreTextsAs false false true case texts = IsMarkdownOf case texts
AreTextsAs false false false case texts = TextsWithLaws case.renderer case.groups.items case.sheets.items texts

-- the texts of a case show its report, in its settings and one under each of its sheets, each with its laws; or there is one, its HTML, its
-- article of a page or its Markdown
abbrev pub AreTextsOf : Case → List (List ℕ) → Type 0
AreTextsOf case texts = AreTextsAs case.html case.html_page case.markdown case texts

-- a case becomes its texts, or the first refusal of its report, with the words of that refusal
abbrev pub IsOutcomeOf : Case → Outcome → Type 0
IsOutcomeOf case (Texts texts) = AreTextsOf case (map string_bytes texts.items)
IsOutcomeOf case (Refused refusal words span) = (refusal_of_case case ≡ Some refusal) × (string_bytes words ≡ refusal_text refusal)

-- a line describes this case, and this became of it
pub record Becomes (line : List ℕ) (case : Case) (outcome : Outcome) : Type 0 where
  pub described : Data
  pub reads : read line ≡ Some described
  pub case_is : IsCaseOf described case
  pub became : IsOutcomeOf case outcome

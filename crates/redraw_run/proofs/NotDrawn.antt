-- What isn't drawn: what is written of small findings by wrong bodies contradicts what `draw_report` is to write of them.
use Rattle.std.proofs.Common.{◌≡◌, ◌++◌, ◌∙◌, ℕ, Bool, true, false, List, [], ◌∷◌, Option, None, Some, ap, ap₂, arith, codes, drop, inl, inr, length}
use Rattle.std.proofs.Common.{length-append}
use Rattle.std.proofs.Common.{if◌then◌else◌, map, refl, subst}
use Rattle.std.specs.Cow.{cow_str_bytes}
use Rattle.std.specs.List.{flat_map}
use Rattle.std.specs.Option.{option_map, option_to_list}
use Rattle.std.specs.Str.{chars}
use Rattle.snippet_model.specs.Heading.{heading_of_title}
use Rattle.snippet_model.specs.declared.level.Level.{Level}
use Rattle.snippet_model.specs.declared.snippet.Group.{Group}
use Rattle.snippet_model.specs.declared.snippet.Title.{Title}
use Rattle.snippet_style.specs.Stylesheet.{plain_sheet}
use Rattle.snippet_text.specs.Normalized.{norm}
use Rattle.snippet_text_form.specs.Form.{FormPiece, form_bytes}
use Rattle.snippet_text_form.specs.HeadingForm.{heading_form}
use Rattle.snippet_text_form.specs.declared.heading.HeadingKind.TheVariants as kind
use Rattle.annotate_snippets.specs.ElementContext.{drawn_elements, file_of_group}
use Rattle.annotate_snippets.specs.Settings.{plain_settings}
use Rattle.annotate_snippets.specs.TextForm.{elements_form, group_form, text_form}
use Rattle.annotate_snippets.specs.declared.renderer.Renderer.{Renderer}
use Rattle.annotate_snippets.proofs.AsSetLemmas.{unset-shows}
use Rattle.output_stream.specs.Standing.{Standing}
use Rattle.redraw_command.specs.Workflow.{command}
use Rattle.redraw_command.specs.declared.choice.Choice.{Choice}
use Rattle.redraw_command.specs.declared.choice.OutputForm.TheVariants.{Report}
use Rattle.redraw_command.specs.declared.tally.Tally.{Tally}
use Rattle.redraw_command.specs.declared.terminal.Markup.TheVariants.{Bare}
use Rattle.redraw_read.specs.declared.sources.File.{File}
use Rattle.redraw_report.specs.Report.{headed_of, is_bare, level_of, marked_parts, remark_section, section_of, sections_from, with_message}
use Rattle.redraw_report.specs.View.{Headed, Section, headed_view, section_view}
use Rattle.redraw_report.specs.declared.diagnostic.Diagnostic.{Diagnostic}
use Rattle.redraw_report.specs.declared.diagnostic.Severity.TheVariants.{Error}
use Rattle.redraw_report.specs.declared.finding.Finding.{Finding}
use Rattle.redraw_report.specs.declared.finding.Remark.{Remark}
use Rattle.redraw_run.specs.Deeds.{Commanded, IsDeed}
use Rattle.redraw_run.specs.DrawnFinding.{DrawsFinding, ShowsFinding, ending_after}
use Rattle.redraw_run.specs.declared.look.ReportRenderer.{ReportRenderer}

-- the byte before the last is the same at the end of equal texts
before_last : (xs ys : List ℕ) (a b c d : ℕ) → xs ++ a ∷ b ∷ [] ≡ ys ++ c ∷ d ∷ [] → a ≡ c
before_last [] [] a b c d same = cc
before_last [] (y ∷ ys) a b c d same = absurd (omega (arith, ap length same, length-append ys (c ∷ d ∷ [])))
before_last (x ∷ xs) [] a b c d same = absurd (omega (arith, ap length same, length-append xs (a ∷ b ∷ [])))
before_last (x ∷ xs) (y ∷ ys) a b c d same = before_last xs ys a b c d (ap (drop 1) same)

-- standard output that holds this
abbrev holding : List ℕ → Standing
holding held = record { held = Some held; has_failed = false }

-- no empty line after a report: it ends with a line feed alone, here `error: e`
pub no_line_after : (r : ReportRenderer) (files : List File) (d : Diagnostic) (before after : Tally) → r.settings.short_message ≡ false → d.severity ≡ Error
    → DrawsFinding Report r files d (holding []) (holding (codes "error: " ++ 101 ∷ 10 ∷ []))
    (Some (codes "error: " ++ 101 ∷ 10 ∷ []) ≡ Some []) before after → ⊥
no_line_after r files d before after long severity (inr same) = let never = same.1 in cc
no_line_after r files d before after long severity (inl drawn) =
    let placed : List ℕ = drawn.printed.placed in
    let ends : codes "error: " ++ 101 ∷ 10 ∷ [] ≡ placed ++ 10 ∷ 10 ∷ [] = drawn.printed.written.added
    ∙ ap₂ (λ short s. placed ++ (ending_after short s ++ 10 ∷ [])) long severity in
    let byte : ◌≡◌ {A = ℕ} 101 10 = before_last (codes "error: ") placed 101 10 10 10 ends in
    absurd (omega (arith, byte))

-- ---- nothing printed

-- the plain settings, with the text form
abbrev pub speaking : Renderer
speaking = record plain_settings { no_graphics = true }

-- the first of some groups has this title
abbrev BeginsTitled : Headed → List Section → Type 0
BeginsTitled h sections = (first : Section) × (rest : List Section) × (sections ≡ first ∷ rest) × (first.title ≡ Some h)

by_remark : (gone : Bool) (h : Headed) (s : Section) (r : Remark) (rs : List Remark) (bare : Bool) → is_bare r ≡ bare → s.title ≡ Some h
    → BeginsTitled h (sections_from gone (with_message s r) rs) → BeginsTitled h (sections_from gone s (r ∷ rs))
by_remark gone h s r rs true e is (first, rest, split, titled) = (
  first,
  rest,
  ap (λ (b : Bool). if b then sections_from gone (with_message s r) rs else s ∷ sections_from gone (remark_section gone r) rs) e ∙ split,
  titled,
)
by_remark gone h s r rs false e is below = (
  s,
  sections_from gone (remark_section gone r) rs,
  ap (λ (b : Bool). if b then sections_from gone (with_message s r) rs else s ∷ sections_from gone (remark_section gone r) rs) e,
  is,
)

-- the group that a report begins with has the title of the finding
begins_titled : (gone : Bool) (h : Headed) (s : Section) (rs : List Remark) → s.title ≡ Some h → BeginsTitled h (sections_from gone s rs)
begins_titled gone h s [] is = (s, [], refl, is)
begins_titled gone h s (r ∷ rs) is = by_remark gone h s r rs (is_bare r) refl is (begins_titled gone h (with_message s r) rs is)

-- what the text form of a title begins with, and what comes after it
abbrev titled_text : Level → Title → List FormPiece → List FormPiece → List ℕ
titled_text level t more rest =
    form_bytes plain_sheet (((heading_form false kind.Title (record {
      level = level;
      id = t.id;
      text = cow_str_bytes t.text;
      allows_styling = t.allows_styling;
    }) ++ []) ++ more) ++ rest)

-- it isn't empty where the level is `error`
never_empty : (t : Title) (more rest : List FormPiece) → [] ≡ titled_text (level_of Error) t more rest → ⊥
unfolding heading_form norm chars lib.Utf8.encode
never_empty t more rest none = cc

by_title : (g : Group) (gs : List Group) (f : Finding) (o : Option Title) → g.title ≡ o → option_map headed_view o ≡ Some (headed_of f) → f.severity ≡ Error
    → [] ≡ form_bytes plain_sheet (text_form speaking (g ∷ gs)) → ⊥
by_title g gs f None is named error none = absurd (cc named)
by_title g gs f (Some t) is named error none =
    let more : List FormPiece = elements_form speaking (file_of_group (g ∷ gs) g) None (drawn_elements g) in
    let rest : List FormPiece = flat_map (group_form speaking (g ∷ gs)) gs in
    let same : headed_view t ≡ headed_of f = cc in
    let level : t.level ≡ level_of Error = ap (λ (h : Headed). h.level) same ∙ ap level_of error in
    let titled : [] ≡ titled_text t.level t more rest = subst (λ (o : Option Title). [] ≡ form_bytes plain_sheet
    ((flat_map (λ title. heading_form false kind.Title (heading_of_title title)) (option_to_list o) ++ more) ++ rest)) is none in
    never_empty t more rest (subst (λ (l : Level). [] ≡ titled_text l t more rest) level titled)

by_groups : (f : Finding) (groups : List Group) (first : Section) (rest : List Section) → map section_view groups ≡ first ∷ rest
    → first.title ≡ Some (headed_of f) → f.severity ≡ Error → [] ≡ form_bytes plain_sheet (text_form speaking groups) → ⊥
by_groups f [] first rest shown titled error none = absurd (cc shown)
by_groups f (g ∷ gs) first rest shown titled error none =
    let same : section_view g ≡ first = cc in
    by_title g gs f g.title refl (ap (λ (s : Section). s.title) same ∙ titled) error none

-- no text at all for an error that is drawn, here in the text form
pub nothing_drawn : (files : List File) (d : Diagnostic) → d.severity ≡ Error
    → ShowsFinding record { settings = speaking; markup = Bare; is_workflow = false } files d [] → ⊥
nothing_drawn files d error shown =
    let f : Finding = shown.finding in
    let (first, rest, split, titled) = begins_titled false (headed_of f) (section_of (headed_of f) (marked_parts f.marks.items)) f.remarks.items refl in
    by_groups f shown.groups first rest (shown.told ∙ split) titled (shown.is.severity ∙ error)
    (unset-shows _ _ _ _ shown.shows refl).are.0

-- ---- another command

-- the command of another finding, or any other line than the finding's own command
pub other_command : (r : ReportRenderer) (c : Choice) (d : Diagnostic) (line other : List ℕ) → command d ≡ Some line → (line ≡ other → ⊥)
    → IsDeed r c (Commanded d other) → ⊥
other_command r c d line other is differ deed = differ (cc (is, deed.1))

-- a command for a finding that has none, as one without a level
pub needless_command : (r : ReportRenderer) (c : Choice) (d : Diagnostic) (line : List ℕ) → command d ≡ None → IsDeed r c (Commanded d line) → ⊥
needless_command r c d line none deed = absurd (cc (none, deed.1))

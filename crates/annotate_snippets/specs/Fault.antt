-- The faults of a report, in the order in which they are looked for.
use Rattle.std.specs.Prelude.{◌≡◌, ℕ, ◌+◌, List, [], ◌∷◌, ◌++◌, Option, Some, None, is_none, length, map, nat_le, if◌then◌else◌}
use Rattle.std.specs.Option.{option_map, option_or, option_to_list}
use Rattle.std.specs.Cow.{cow_str_bytes}
use Rattle.std.specs.declared.ops.Range.{Range}
pub use Rattle.snippet_suggest.specs.Given.{added_lines}
use Rattle.snippet_style.specs.Bounds.{max_usize}
use Rattle.snippet_model.specs.declared.snippet.Group.{Group}
use Rattle.snippet_model.specs.declared.snippet.Patch.{Patch}
use Rattle.snippet_model.specs.declared.snippet.Element.{Element}
use Rattle.snippet_model.specs.declared.snippet.Element.TheVariants.{Message, Cause, Suggestion, Origin, Padding}
use Rattle.snippet_model.specs.Fits.{ReportFits}
use Rattle.snippet_lines.specs.Lines.{source_lines}
use Rattle.snippet_lines.specs.Span.{span_fault}
use Rattle.snippet_lines.specs.declared.span.SpanFault.{SpanFault}
use Rattle.snippet_lines.specs.declared.span.SpanFault.TheVariants.{Reversed, PastEnd, OffBoundary}
use Rattle.snippet_splice.specs.Edits.{edit_of}
use Rattle.snippet_splice.specs.Overlap.{first_overlap}
use Rattle.annotate_snippets.specs.declared.renderer.Renderer.{Renderer}
use Rattle.annotate_snippets.specs.declared.renderer.error.RenderError.{RenderError}
use Rattle.annotate_snippets.specs.declared.renderer.error.RenderError.TheVariants.{NoGroup, NoTitle, SpanReversed, SpanPastEnd, SpanOffBoundary}
use Rattle.annotate_snippets.specs.declared.renderer.error.RenderError.TheVariants.{PatchesOverlap, LineNumberTooLarge}
use Rattle.annotate_snippets.specs.declared.renderer.form.Form.{Form}
use Rattle.annotate_snippets.specs.declared.renderer.form.Form.TheVariants.{Graphic, Short, Text}

-- the refusal that names a fault of this marker
abbrev pub refusal_of : ℕ → ℕ → ℕ → SpanFault → RenderError
refusal_of group element marker Reversed = SpanReversed group element marker
refusal_of group element marker PastEnd = SpanPastEnd group element marker
refusal_of group element marker OffBoundary = SpanOffBoundary group element marker

-- the refusals of a marker's span: one, or none
abbrev pub span_faults : ℕ → ℕ → List ℕ → ℕ → Range ℕ → List RenderError
span_faults group element source marker span =
    option_to_list (option_map (refusal_of group element marker) (span_fault source span.start span.end))

-- the refusals of some things, numbered from n on, where f gives those of one
abbrev pub faults_from : {X : Type 0} → (ℕ → X → List RenderError) → ℕ → List X → List RenderError
faults_from f n [] = []
faults_from f n (x ∷ xs) = f n x ++ faults_from f (n + 1) xs

-- the refusal of a snippet for which this number has to fit: one, or none
abbrev pub number_faults : ℕ → ℕ → ℕ → List RenderError
number_faults group element number =
    if nat_le number max_usize then [] else LineNumberTooLarge group element ∷ []

-- the number after that of a source's last line
abbrev pub number_after_lines : ℕ → List ℕ → ℕ
number_after_lines line_start source = line_start + length (source_lines source)

-- the refusal of patches of which two overlap, which names the first such pair: one, or none
abbrev pub overlap_faults : ℕ → ℕ → List Patch → List RenderError
overlap_faults group element patches =
    option_to_list (option_map (λ pair. PatchesOverlap group element pair.0 pair.1) (first_overlap (map edit_of patches)))

-- the refusals of an element: those of its spans in order, then that of patches that overlap, then that of its line numbers
abbrev pub element_faults : ℕ → ℕ → Element → List RenderError
element_faults group element (Cause snippet) =
    faults_from (λ n a. span_faults group element (cow_str_bytes snippet.source.text) n a.span) 0 snippet.markers.items
    ++ number_faults group element (number_after_lines snippet.line_start (cow_str_bytes snippet.source.text))
element_faults group element (Suggestion snippet) =
    faults_from (λ n p. span_faults group element (cow_str_bytes snippet.source.text) n p.span) 0 snippet.markers.items
    ++ overlap_faults group element snippet.markers.items
    ++ number_faults group element (number_after_lines snippet.line_start (cow_str_bytes snippet.source.text) + added_lines snippet.markers.items)
element_faults group element (Message message) = []
element_faults group element (Origin origin) = []
element_faults group element (Padding padding) = []

-- the refusals of a group's elements
abbrev pub group_faults : ℕ → Group → List RenderError
group_faults group g = faults_from (element_faults group) 0 g.elements.items

-- the first of some refusals
abbrev pub first_of : List RenderError → Option RenderError
first_of [] = None
first_of (fault ∷ faults) = Some fault

-- the refusal of a report for what it holds, where there is one: the first in order
unfoldable pub first_fault : List Group → Option RenderError
first_fault groups = first_of (faults_from group_faults 0 groups)

-- the form that a renderer is set to: `no_graphics` is looked at first, then `short_message`
abbrev pub form_of : Renderer → Form
form_of r = if r.no_graphics then Text else if r.short_message then Short else Graphic

-- the refusal of a report that has no title for the short form: no group, or a first group without a title
abbrev pub missing_title : Form → List Group → Option RenderError
missing_title Graphic groups = None
missing_title Text groups = None
missing_title Short [] = Some NoGroup
missing_title Short (g ∷ gs) = if is_none g.title then Some NoTitle else None

-- the refusal of a report in a form, where there is one: that of a missing title first, then the first for what it holds, which is
-- the same in each form
abbrev pub refusal_in : Form → List Group → Option RenderError
refusal_in form groups = option_or (missing_title form groups) (first_fault groups)

-- the refusal in the form that the renderer is set to
abbrev pub first_refusal : Renderer → List Group → Option RenderError
first_refusal r groups = refusal_in (form_of r) groups

-- a report is within bounds: no refusal stands, and each of its texts fits
pub record IsWithinBounds (r : Renderer) (groups : List Group) : Type 0 where
  pub faultless : first_refusal r groups ≡ None
  pub fits : ReportFits groups

-- What isn't refused: why wrong bodies give no text for small findings and inputs contradicts what a reason is.
use Rattle.std.proofs.Common.{◌&&◌, ◌≡◌, ◌∙◌, ◌++◌, ℕ, Bool, false, true, List, [], ◌∷◌, Option, None, Some, ap, ap₂, map, refl, sym}
use Rattle.std.specs.List.{AllZip}
use Rattle.std.specs.Option.{option_or}
use Rattle.std.specs.Prelude.{Err, if◌then◌else◌}
use Rattle.annotate_snippets.specs.Fault.{element_faults, faults_from, first_fault, first_of, first_refusal, form_of, refusal_in}
use Rattle.annotate_snippets.specs.declared.renderer.Renderer.{Renderer}
use Rattle.annotate_snippets.specs.declared.renderer.error.RenderError.{RenderError}
use Rattle.annotate_snippets.specs.declared.renderer.form.Form.{Form}
use Rattle.annotate_snippets.specs.declared.renderer.form.Form.TheVariants.{Graphic}
use Rattle.annotate_snippets.specs.declared.snippet.Element.{Element}
use Rattle.annotate_snippets.specs.declared.snippet.Group.{Group}
use Rattle.redraw_command.specs.Line.{begins_utf16}
use Rattle.redraw_command.specs.Look.{is_html}
use Rattle.redraw_command.specs.declared.stop.Stop.TheVariants.{Utf16}
use Rattle.redraw_read.specs.declared.sources.File.{File}
use Rattle.redraw_report.specs.Report.{headed_of, marked_parts, section_of, sections_from}
use Rattle.redraw_report.specs.View.{Section, part_view, section_view}
use Rattle.redraw_report.specs.declared.diagnostic.Diagnostic.{Diagnostic}
use Rattle.redraw_report.specs.declared.finding.Finding.{Finding}
use Rattle.redraw_report.specs.declared.finding.MarkedSpan.{MarkedSpan}
use Rattle.redraw_report.specs.declared.finding.Remark.{Remark}
use Rattle.redraw_run.specs.Deeds.{Happens, State}
use Rattle.redraw_run.specs.DrawnFinding.{RefusesFinding, has_room, refusal_by}
use Rattle.redraw_run.specs.Fates.{Halts, IsFateOfPiece}
use Rattle.redraw_run.specs.declared.look.ReportRenderer.{ReportRenderer}

-- ---- a finding without places and children

none_zipped : {X Y : Type 0} (R : X → Y → Type 0) (xs : List X) (ys : List Y) → xs ≡ [] → AllZip R xs ys → ys ≡ []
none_zipped R [] [] none h = refl
none_zipped R [] (y ∷ ys) none h = absurd h
none_zipped R (x ∷ xs) ys none h = cc none

no_elements : (es : List Element) → map part_view es ≡ [] → es ≡ []
no_elements [] none = refl
no_elements (e ∷ es) none = cc none

-- a group without elements has no fault
faultless : (g : Group) → g.elements.items ≡ [] → first_fault (g ∷ []) ≡ None
unfolding first_fault
faultless g none = ap (λ (es : List Element). first_of (faults_from (element_faults 0) 0 es ++ [])) none

-- the graphic form's refusals are those of HTML
refusal_as : (html : Bool) (r : Renderer) (groups : List Group) → form_of r ≡ Graphic
    → (if html then refusal_in Graphic groups else first_refusal r groups) ≡ refusal_in Graphic groups
refusal_as true r groups graphic = refl
refusal_as false r groups graphic = ap (λ (form : Form). refusal_in form groups) graphic

unrefused : (r : ReportRenderer) (groups : List Group) (why : RenderError) → form_of r.settings ≡ Graphic → first_fault groups ≡ None
    → refusal_by r groups ≡ Some why → ⊥
unrefused r groups why graphic none refused =
    let never : refusal_by r groups ≡ None = refusal_as (is_html r.markup) r.settings groups graphic ∙ ap (λ (o : Option RenderError). option_or None o) none in
    cc (never, refused)

by_groups : (r : ReportRenderer) (groups : List Group) (section : Section) (why : RenderError) → form_of r.settings ≡ Graphic
    → map section_view groups ≡ section ∷ []
    → section.parts ≡ [] → refusal_by r groups ≡ Some why → ⊥
by_groups r [] section why graphic told none refused = cc told
by_groups r (g ∷ []) section why graphic told none refused =
    let same : section_view g ≡ section = cc told in
    let parts : map part_view g.elements.items ≡ [] = ap (λ (s : Section). s.parts) same ∙ none in
    unrefused r (g ∷ []) why graphic (faultless g (no_elements g.elements.items parts)) refused
by_groups r (g ∷ h ∷ gs) section why graphic told none refused = cc told

-- a diagnostic without places and children is refused in the graphic form, as for want of a group
pub bare_finding_refused : (r : ReportRenderer) (files : List File) (d : Diagnostic) (why : RenderError) → r.settings.no_graphics ≡ false
    → r.settings.short_message ≡ false → d.spans.items ≡ [] → d.children.items ≡ [] → RefusesFinding r files d why → ⊥
bare_finding_refused r files d why graphics long spans children h =
    let f : Finding = h.finding in
    let marks : f.marks.items ≡ [] = none_zipped _ d.spans.items f.marks.items spans h.is.marks in
    let remarks : f.remarks.items ≡ [] = none_zipped _ d.children.items f.remarks.items children h.is.remarks in
    let graphic : form_of r.settings ≡ Graphic = rw (graphics, long) refl in
    let told : map section_view h.groups ≡ section_of (headed_of f) [] ∷ [] = h.told
    ∙ ap₂ (λ (ms : List MarkedSpan) (rs : List Remark). sections_from (has_room r && f.shows_gone) (section_of (headed_of f) (marked_parts ms)) rs)
    marks remarks in
    by_groups r h.groups (section_of (headed_of f) []) why graphic told refl h.refused

-- ---- an input in UTF-16

-- a piece stops an input as one in UTF-16, by itself
pub piece_of_utf16 : (T : Type 0) (piece : List ℕ) (a b : State) → Happens {T = T} (Err Utf16) (IsFateOfPiece piece) a b → ⊥
piece_of_utf16 T piece a b h = h

-- an input whose first line is `a` stops so
pub utf8_refused : (a b : State) → Halts Utf16 ((97 ∷ 10 ∷ []) ∷ []) a b → ⊥
utf8_refused a b ((line, is, begins), none) =
    let same : line ≡ 97 ∷ 10 ∷ [] = cc is in
    let never : begins_utf16 (97 ∷ 10 ∷ []) ≡ true = ap begins_utf16 (sym same) ∙ begins in
    cc never

-- an input stops so after its second line
pub refused_late : (a b : State) (first second : List ℕ) → Halts Utf16 (first ∷ second ∷ []) a b → ⊥
refused_late a b first second ((line, is, begins), none) = cc is

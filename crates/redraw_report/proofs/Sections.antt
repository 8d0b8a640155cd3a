-- How a report grows, remark by remark.
use Rattle.std.proofs.Common.{◌≡◌, Bool, false, List, [], ◌∷◌, ◌++◌, map, ap, sym, ◌∙◌, append_assoc, if◌then◌else◌}
use Rattle.std.proofs.lemmas.List.{map-append}
use Rattle.snippet_model.specs.declared.snippet.Group.{Group}
use Rattle.redraw_report.specs.declared.finding.Remark.{Remark}
use Rattle.redraw_report.specs.Report.{is_bare, remark_section, sections_from, with_message}
use Rattle.redraw_report.specs.View.{Section, section_view}

-- a remark with places or edits begins a group of its own
pub own-group : (gone : Bool) (old new : List Group) (last g : Group) (r : Remark)
    → new ≡ old ++ last ∷ [] → is_bare r ≡ false → section_view g ≡ remark_section gone r → (rest : List Remark)
    → map section_view new ++ sections_from gone (section_view g) rest
    ≡ map section_view old ++ sections_from gone (section_view last) (r ∷ rest)
own-group gone old new last g r grown bare is rest =
    let after = sections_from gone (remark_section gone r) rest in
    let message = sections_from gone (with_message (section_view last) r) rest in
    ap (λ (s : Section). map section_view new ++ sections_from gone s rest) is
    ∙ ap (λ (gs : List Group). map section_view gs ++ after) grown
    ∙ ap (λ (l : List Section). l ++ after) (map-append section_view old (last ∷ []))
    ∙ append_assoc (map section_view old) (section_view last ∷ []) after
    ∙ sym (ap (λ t. map section_view old ++ (if t then message else section_view last ∷ after)) bare)

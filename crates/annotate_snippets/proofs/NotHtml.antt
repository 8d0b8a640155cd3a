-- What isn't HTML of a report: texts that are wrong, each of a small report, contradict what is said of the text that `render_html` gives.
use Rattle.annotate_snippets.proofs.Common.{◌≡◌, ℕ, true, nat_eq, map, Some, Vec, List, [], ◌∷◌, codes, length, refl, sym, ap, ◌∙◌, arith, false≢true, list_all}
use Rattle.annotate_snippets.proofs.Common.{Global, html_bytes, link_address, CharInTags, as_read, html_reads, Element, Group, norm, heading_rows, label_cells}
use Rattle.annotate_snippets.proofs.Common.{shows_as_given, IsReportHtml, page_chars, report_html, graphic_form, plain_settings, Renderer, Graphic}
use Rattle.std.specs.Str.{chars}
use Rattle.annotate_snippets.proofs.AsSetSteps.{unset-same}
use Rattle.annotate_snippets.proofs.SmallReports.{group, hidden_title}

-- a report of the title `<` alone, without the name of a level
abbrev less_alone : Vec Element Global → List Group
less_alone v = group v (Some (hidden_title (codes "<"))) [] (omega arith) ∷ []

-- its text in HTML
html_is : (v : Vec Element Global) → html_bytes (report_html plain_settings (less_alone v)) ≡ codes "<span class=\"snippet-emphasis\">&lt;</span>"
unfolding chars norm heading_rows label_cells lib.Utf8.encode
html_is v = refl

-- where nothing is set that makes another report of it, a report's HTML is that of the report as it is given
unset-html : (r : Renderer) (groups : List Group) (text : List ℕ) → shows_as_given Graphic r ≡ true → IsReportHtml r groups text
    → text ≡ html_bytes (report_html r groups)
unset-html r groups text off is = is.is ∙ ap (λ (gs : List Group). html_bytes (report_html r gs)) (unset-same Graphic r groups is.shown off is.set)

-- the title's `<` as it is, where it begins a tag
less_unescaped : (v : Vec Element Global) → IsReportHtml plain_settings (less_alone v) (codes "<span class=\"snippet-emphasis\"><</span>") → ⊥
less_unescaped v wrong = false≢true (sym (ap (λ (text : List ℕ). nat_eq (length text) 39) (unset-html plain_settings (less_alone v) _ refl wrong ∙ html_is v)))

-- what its one character stands in: the class of its role
stands_is : (v : Vec Element Global) → map as_read (page_chars (graphic_form plain_settings (less_alone v)))
    ≡ (let read : CharInTags = record { ch = 60; tags = record { class = codes "snippet-emphasis"; address = [] } } in read) ∷ []
unfolding chars norm heading_rows label_cells
stands_is v = refl

-- the character in no class
class_left_out : (v : Vec Element Global)
    → html_reads (codes "&lt;") ≡ map as_read (page_chars (graphic_form plain_settings (less_alone v))) → ⊥
class_left_out v wrong = false≢true (sym (ap (list_all (λ (read : CharInTags). nat_eq (length read.tags.class) 0)) (wrong ∙ stands_is v)))

-- a link to an address that runs a script, whatever the case of its letters
script_linked : link_address (Some (codes "JavaScript:f()")) ≡ codes "JavaScript:f()" → ⊥
script_linked wrong = false≢true (ap (λ (text : List ℕ). nat_eq (length text) 14) wrong)

-- a link to an address that holds a blank
blank_linked : link_address (Some (codes "https://a b")) ≡ codes "https://a b" → ⊥
blank_linked wrong = false≢true (ap (λ (text : List ℕ). nat_eq (length text) 11) wrong)

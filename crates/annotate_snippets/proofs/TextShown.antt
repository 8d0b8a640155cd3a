-- The texts that are woven of a report's text form show it.
use Rattle.std.proofs.lemmas.Grind.{common_steps}
use Rattle.std.proofs.Common.{arith}
use Rattle.annotate_snippets.proofs.Common.{◌≡◌, ◌∙◌, ℕ, ◌==◌, Bool, true, false, not, Option, None, Some, List, [], ◌∷◌, ◌++◌, cond, if◌then◌else◌, refl, sym}
use Rattle.annotate_snippets.proofs.Common.{ap, subst, AllZip, filter, flat_map, list_any, option_to_list, append-nil, All-nil, All-head, All-tail, All-append}
use Rattle.annotate_snippets.proofs.Common.{All-filter, flat_map-append, IsWoven, Stylesheet, plain_woven, Heading, heading_of_message, heading_of_title}
use Rattle.annotate_snippets.proofs.Common.{trusted_of_element, trusted_of_title, trusted_texts, Element, Message, Cause, Suggestion, Origin, Padding, Group}
use Rattle.annotate_snippets.proofs.Common.{Title, id_links, cause_form, FormPiece, begun_after, form_bytes, form_text, plain_from, form_links, piece_links}
use Rattle.annotate_snippets.proofs.Common.{heading_form, StandInOrder, origin_form, HeadingKind, cause-free, heading-free, origin-free, suggestion-free}
use Rattle.annotate_snippets.proofs.Common.{cause-links, heading-links, origin-links, suggestion-links, cause-holds, heading_stays, plain-append, stand-append}
use Rattle.annotate_snippets.proofs.Common.{drawn_elements, file_of_group, first_two_share, LawsIn, TextLaws, IsTextUnder, is_drawn, TextShown, IsFreeBut}
use Rattle.annotate_snippets.proofs.Common.{report_links, PreviousSuggestion, before_next, element_form, element_texts, elements_form, group_form, group_texts}
use Rattle.annotate_snippets.proofs.Common.{report_texts, suggestion_place, suggestion_settings, text_form, whole_text, Renderer, Text, AllZip-weaker}
use Rattle.std.specs.List.{All}
use Rattle.snippet_titles.specs.HeadingRows.{shown_text}
use Rattle.snippet_text_form.specs.declared.heading.HeadingKind.TheVariants as kind
use Rattle.annotate_snippets.proofs.FormSteps.{title_form}
use Rattle.annotate_snippets.proofs.TextParagraphLaws.{paragraph_lines}
use Rattle.annotate_snippets.proofs.ReportTexts.{free_first, free_rest, links_of_titles, title_links, trusted_of}
use Rattle.annotate_snippets.proofs.TrustedLemmas.{AreTextsAmong, IsTrusted, message_among, own_text, texts_among, title_among, unlisted_text}

-- which texts stand in an element doesn't depend on whether it is drawn
drawn_texts : (es : List Element) → flat_map element_texts (filter is_drawn es) ≡ flat_map element_texts es
drawn_texts [] = refl
drawn_texts (Message m ∷ es) = ap (λ (ts : List (List ℕ)). element_texts (Message m) ++ ts) (drawn_texts es)
drawn_texts (Cause s ∷ es) = ap (λ (ts : List (List ℕ)). element_texts (Cause s) ++ ts) (drawn_texts es)
drawn_texts (Suggestion s ∷ es) = by (is_drawn (Suggestion s)) ∙ drawn_texts es
  where
    by : (drawn : Bool)
        → flat_map element_texts (cond drawn (Suggestion s ∷ filter is_drawn es) (filter is_drawn es)) ≡ flat_map element_texts (filter is_drawn es)
    by true = refl
    by false = refl
drawn_texts (Origin o ∷ es) = drawn_texts es
drawn_texts (Padding p ∷ es) = drawn_texts es

-- the plain characters of two text forms, one after the other, have what both have
after : (P : List ℕ → Type 0) (begun : Bool) (a b : List FormPiece) → P (plain_from begun a ++ plain_from (begun_after begun (plain_from begun a)) b)
    → P (plain_from begun (a ++ b))
after P begun a b holds = subst P (sym (plain-append begun a b)) holds

both_hold : (ps qs : List (List ℕ)) (begun : Bool) (a b : List FormPiece) → ((begun : Bool) → StandInOrder ps (plain_from begun a))
    → ((begun : Bool) → StandInOrder qs (plain_from begun b)) → StandInOrder (ps ++ qs) (plain_from begun (a ++ b))
both_hold ps qs begun a b first second =
    after (StandInOrder (ps ++ qs)) begun a b (stand-append ps qs (plain_from begun a) (plain_from (begun_after begun (plain_from begun a)) b) (first begun)
    (second (begun_after begun (plain_from begun a))))

both_free : (trusted : List (List ℕ)) (begun : Bool) (a b : List FormPiece) → ((begun : Bool) → IsFreeBut trusted (plain_from begun a))
    → ((begun : Bool) → IsFreeBut trusted (plain_from begun b)) → IsFreeBut trusted (plain_from begun (a ++ b))
both_free trusted begun a b first second =
    after (IsFreeBut trusted) begun a b (All-append (IsTrusted trusted) (plain_from begun a) (plain_from (begun_after begun (plain_from begun a)) b)
    (first begun) (second (begun_after begun (plain_from begun a))))

-- the links of an element, of elements and of a group
element_links : (r : Renderer) (file : Option (List ℕ)) (before : Option PreviousSuggestion) (followed : Bool) (e : Element)
    → form_links (element_form r file before followed e) ≡ []
element_links r file before followed (Message m) = heading-links r.hyperlink kind.Message (heading_of_message m)
element_links r file before followed (Cause s) = cause-links r.anonymized_origin_line_numbers s
element_links r file before followed (Suggestion s) = suggestion-links (suggestion_settings r) (suggestion_place file before followed s) s
element_links r file before followed (Origin o) = origin-links r.anonymized_origin_line_numbers o
element_links r file before followed (Padding p) = refl

elements_links : (r : Renderer) (file : Option (List ℕ)) (before : Option PreviousSuggestion) (es : List Element)
    → form_links (elements_form r file before es) ≡ []
elements_links r file before [] = refl
elements_links r file before (e ∷ es) = grind (arith, elements_links r file (before_next before e) es, flat_map-append, element_links)

title_form-links : (r : Renderer) (title : Option Title)
    → form_links (title_form r title) ≡ flat_map (λ (t : Title). id_links r.hyperlink t.id) (option_to_list title)
title_form-links r None = refl
title_form-links r (Some t) = grind (arith, flat_map-append, heading-links, r.hyperlink)

form_links-group_form : (r : Renderer) (groups : List Group) (g : Group) → form_links (group_form r groups g) ≡ title_links r.hyperlink g
form_links-group_form r groups g =
    let title : List FormPiece = title_form r g.title in
    let elements : List FormPiece = elements_form r (file_of_group groups g) None (drawn_elements g) in
    flat_map-append piece_links title elements ∙ ap (λ (urls : List (List ℕ)). form_links title ++ urls)
    (elements_links r (file_of_group groups g) None (drawn_elements g)) ∙ append-nil (form_links title) ∙ title_form-links r g.title

groups_links : (r : Renderer) (groups gs : List Group) → form_links (flat_map (group_form r groups) gs) ≡ flat_map (title_links r.hyperlink) gs
groups_links r groups [] = refl
groups_links r groups (g ∷ gs) = grind (arith, groups_links r groups gs, flat_map-append, form_links-group_form, r.hyperlink)

-- which texts stand in a heading, in an element, in elements and in a group
heading_holds : (begun hyperlink : Bool) (of : HeadingKind) (heading : Heading)
    → StandInOrder (whole_text heading) (plain_from begun (heading_form hyperlink of heading))
heading_holds begun hyperlink of heading = by (list_any (λ c. c == 10) (shown_text heading)) refl
  where
    by : (fed : Bool) → list_any (λ c. c == 10) (shown_text heading) ≡ fed
        → StandInOrder (if not fed then shown_text heading ∷ [] else []) (plain_from begun (heading_form hyperlink of heading))
    by true is = tt
    by false is = heading_stays begun hyperlink of heading is

element_holds : (r : Renderer) (file : Option (List ℕ)) (before : Option PreviousSuggestion) (followed : Bool) (e : Element) (begun : Bool)
    → StandInOrder (element_texts e) (plain_from begun (element_form r file before followed e))
element_holds r file before followed (Message m) begun = heading_holds begun r.hyperlink kind.Message (heading_of_message m)
element_holds r file before followed (Cause s) begun = cause-holds begun r.anonymized_origin_line_numbers s
element_holds r file before followed (Suggestion s) begun = tt
element_holds r file before followed (Origin o) begun = tt
element_holds r file before followed (Padding p) begun = tt

elements_hold : (r : Renderer) (file : Option (List ℕ)) (before : Option PreviousSuggestion) (es : List Element) (begun : Bool)
    → StandInOrder (flat_map element_texts es) (plain_from begun (elements_form r file before es))
elements_hold r file before [] begun = tt
elements_hold r file before (e ∷ es) begun =
    both_hold (element_texts e) (flat_map element_texts es) begun (element_form r file before (first_two_share (e ∷ es)) e)
    (elements_form r file (before_next before e) es) (element_holds r file before (first_two_share (e ∷ es)) e) (elements_hold r file (before_next before e) es)

title_holds : (r : Renderer) (title : Option Title) (begun : Bool)
    → StandInOrder (flat_map (λ (t : Title). whole_text (heading_of_title t)) (option_to_list title)) (plain_from begun (title_form r title))
title_holds r None begun = tt
title_holds r (Some t) begun =
    both_hold (whole_text (heading_of_title t)) [] begun (heading_form r.hyperlink kind.Title (heading_of_title t)) [] (λ b.
    heading_holds b r.hyperlink kind.Title (heading_of_title t)) (λ b. tt)

group_holds : (r : Renderer) (groups : List Group) (g : Group) (begun : Bool) → StandInOrder (group_texts g) (plain_from begun (group_form r groups g))
group_holds r groups g begun =
    both_hold (flat_map (λ (t : Title). whole_text (heading_of_title t)) (option_to_list g.title)) (flat_map element_texts g.elements.items)
    begun (title_form r g.title) (elements_form r (file_of_group groups g) None (drawn_elements g)) (title_holds r g.title)
    (λ b. subst (λ (ts : List (List ℕ)). StandInOrder ts (plain_from b (elements_form r (file_of_group groups g) None (drawn_elements g))))
    (drawn_texts g.elements.items) (elements_hold r (file_of_group groups g) None (drawn_elements g) b))

groups_hold : (r : Renderer) (groups gs : List Group) (begun : Bool) → StandInOrder (report_texts gs) (plain_from begun (flat_map (group_form r groups) gs))
groups_hold r groups [] begun = tt
groups_hold r groups (g ∷ gs) begun =
    both_hold (group_texts g) (report_texts gs) begun (group_form r groups g) (flat_map (group_form r groups) gs) (group_holds r groups g)
    (groups_hold r groups gs)

-- each listed character of an element, of elements and of a group is one of a trusted text
element_free : (trusted : List (List ℕ)) (r : Renderer) (file : Option (List ℕ)) (before : Option PreviousSuggestion) (followed : Bool) (e : Element)
    → AreTextsAmong trusted (trusted_of_element e) → (begun : Bool) → IsFreeBut trusted (plain_from begun (element_form r file before followed e))
element_free trusted r file before followed (Message m) among begun = grind (arith, common_steps, message_among, heading-free, r.hyperlink)
element_free trusted r file before followed (Cause s) among begun =
    unlisted_text trusted (plain_from begun (cause_form r.anonymized_origin_line_numbers s)) (cause-free begun r.anonymized_origin_line_numbers s)
element_free trusted r file before followed (Suggestion s) among begun = grind (arith, unlisted_text, suggestion-free)
element_free trusted r file before followed (Origin o) among begun =
    unlisted_text trusted (plain_from begun (origin_form r.anonymized_origin_line_numbers o)) (origin-free begun r.anonymized_origin_line_numbers o)
element_free trusted r file before followed (Padding p) among begun = All-nil (IsTrusted trusted)

elements_free : (trusted : List (List ℕ)) (r : Renderer) (file : Option (List ℕ)) (before : Option PreviousSuggestion) (es : List Element)
    → All (λ e. AreTextsAmong trusted (trusted_of_element e)) es → (begun : Bool) → IsFreeBut trusted (plain_from begun (elements_form r file before es))
elements_free trusted r file before [] among begun = All-nil (IsTrusted trusted)
elements_free trusted r file before (e ∷ es) among begun =
    let Among : Element → Type 0 = λ x. AreTextsAmong trusted (trusted_of_element x) in
    both_free trusted begun (element_form r file before (first_two_share (e ∷ es)) e) (elements_form r file (before_next before e) es)
    (element_free trusted r file before (first_two_share (e ∷ es)) e (All-head Among e es among))
    (elements_free trusted r file (before_next before e) es (All-tail Among e es among))

title_free : (r : Renderer) (title : Option Title) (more : List (List ℕ)) (begun : Bool)
    → IsFreeBut (flat_map trusted_of_title (option_to_list title) ++ more) (plain_from begun (title_form r title))
title_free r None more begun = All-nil (IsTrusted more)
title_free r (Some t) more begun =
    let trusted : List (List ℕ) = flat_map trusted_of_title (t ∷ []) ++ more in
    let own : List FormPiece = heading_form r.hyperlink kind.Title (heading_of_title t) in
    both_free trusted begun own [] (λ b. own_text trusted (heading_of_title t) (title_among t more) (plain_from b own)
    (heading-free b r.hyperlink kind.Title (heading_of_title t))) (λ b. All-nil (IsTrusted trusted))

group_free : (r : Renderer) (groups : List Group) (g : Group) (begun : Bool) → IsFreeBut (trusted_of g) (plain_from begun (group_form r groups g))
group_free r groups g begun =
    let Among : Element → Type 0 = λ e. AreTextsAmong (trusted_of g) (trusted_of_element e) in
    let among : All Among (drawn_elements g) = All-filter is_drawn Among g.elements.items
    (texts_among (flat_map trusted_of_title (option_to_list g.title)) g.elements.items) in
    both_free (trusted_of g) begun (title_form r g.title) (elements_form r (file_of_group groups g) None (drawn_elements g))
    (title_free r g.title (flat_map trusted_of_element g.elements.items))
    (elements_free (trusted_of g) r (file_of_group groups g) None (drawn_elements g) among)

groups_free : (r : Renderer) (groups gs : List Group) (begun : Bool) → IsFreeBut (trusted_texts gs) (plain_from begun (flat_map (group_form r groups) gs))
groups_free r groups [] begun = All-nil (IsTrusted [])
groups_free r groups (g ∷ gs) begun =
    both_free (trusted_texts (g ∷ gs)) begun (group_form r groups g) (flat_map (group_form r groups) gs) first (λ b.
    free_rest g gs (plain_from b (flat_map (group_form r groups) gs)) (groups_free r groups gs b))
  where
    first : (b : Bool) → IsFreeBut (trusted_texts (g ∷ gs)) (plain_from b (group_form r groups g))
    first b =
        let text : List ℕ = plain_from b (group_form r groups g) in
        free_first g gs text (subst (λ (ts : List (List ℕ)). IsFreeBut ts text) (sym (append-nil (trusted_of g))) (group_free r groups g b))

-- what is known of each text: it is that of the text form, woven of its plain characters
abbrev pub IsFormText : Renderer → List Group → Stylesheet → List ℕ → Type 0
IsFormText r groups sheet text =
    (text ≡ form_bytes sheet (text_form r groups)) × IsWoven sheet text (form_text (text_form r groups)) (form_links (text_form r groups))

report_woven : (r : Renderer) (groups : List Group) (sheet : Stylesheet) (text : List ℕ) → IsFormText r groups sheet text
    → IsWoven sheet text (form_text (text_form r groups)) (report_links r groups)
report_woven r groups sheet text is = subst (IsWoven sheet text (form_text (text_form r groups))) (groups_links r groups groups ∙ links_of_titles r groups) is.1

-- texts of the text form show the report
pub text-shown : (r : Renderer) (groups : List Group) (sheets : List Stylesheet) (texts : List (List ℕ)) → AllZip (IsFormText r groups) sheets texts
    → TextShown r groups sheets texts
text-shown r groups sheets texts are =
    record { are = AllZip-weaker (IsFormText r groups) (λ sheet text. text ≡ form_bytes sheet (text_form r groups)) (λ sheet text is. is.0) sheets texts are }

-- a report's text form has its laws
pub text-laws : (r : Renderer) (groups : List Group) → TextLaws r groups
text-laws r groups = record { holds = groups_hold r groups groups false; free = groups_free r groups groups false; lines = paragraph_lines r groups }

-- so has a text of it
pub text-law : (r : Renderer) (groups : List Group) (sheet : Stylesheet) (text : List ℕ) → IsFormText r groups sheet text → LawsIn Text r groups sheet text
text-law r groups sheet text is =
    let woven : IsWoven sheet text (form_text (text_form r groups)) (report_links r groups) = report_woven r groups sheet text is in
    record {
      form_laws = text-laws r groups;
      woven = woven;
      plain = λ none plain. plain_woven sheet text (form_text (text_form r groups)) (report_links r groups) plain none woven;
    }

-- a text of what is drawn is one of the text form
pub form-text : (r : Renderer) (groups : List Group) (form : List FormPiece) (sheet : Stylesheet) (text : List ℕ) → form ≡ text_form r groups
    → text ≡ form_bytes sheet form → IsWoven sheet text (form_text form) (form_links form) → IsFormText r groups sheet text
form-text r groups form sheet text is bytes woven =
    subst (λ (f : List FormPiece). (text ≡ form_bytes sheet f) × IsWoven sheet text (form_text f) (form_links f)) is (bytes, woven)

-- it shows the report and has its laws
pub text-under : (r : Renderer) (groups : List Group) (sheet : Stylesheet) (text : List ℕ) → IsFormText r groups sheet text
    → IsTextUnder Text r groups sheet text
text-under r groups sheet text is = record { shows = record { are = (is.0, tt) }; laws = text-law r groups sheet text is }

-- The lines of a report's text form are those of its paragraphs, where line feeds are shown.
use Rattle.annotate_snippets.proofs.Common.{◌≡◌, ℕ, ◌==◌, ◌&&◌, not, Bool, true, false, IfSome, Option, None, Some, List, [], ◌∷◌, ◌++◌, All, codes}
use Rattle.annotate_snippets.proofs.Common.{if◌then◌else◌, map, replicate, refl, arith, cow_str_bytes, decimal, flat_map, option_map, nat_tests, All-append}
use Rattle.annotate_snippets.proofs.Common.{All-cons, All-filter, All-head, All-nil, All-replicate, All-tail, Source, locations_of, Heading, heading_of_message}
use Rattle.annotate_snippets.proofs.Common.{heading_of_title, is_hidden, name_of, Annotation, Element, Group, Id, Patch, Snippet, Title, picture_of}
use Rattle.annotate_snippets.proofs.Common.{with_line_feeds_shown, Edit, without_final_line_feeds, trimmed_of, is_blank_text, norm, normalized_chars, width_of}
use Rattle.annotate_snippets.proofs.Common.{further_indent, is_labelled, named_spans, span_text, FormPiece, form_text, before_id, before_name, heading_form}
use Rattle.annotate_snippets.proofs.Common.{heading_label, id_label, label_of_id, added_words, edit_line, heading_paragraph, line_paragraph, lines_after}
use Rattle.annotate_snippets.proofs.Common.{lines_of_paragraphs, option_lines, span_lines, suggestion_paragraphs, place, place_in_file, added_text}
use Rattle.annotate_snippets.proofs.Common.{before_added, edit_indent, edit_place, named_path, HeadingKind, SuggestionContext, SuggestionSettings}
use Rattle.annotate_snippets.proofs.Common.{All-named_spans, IsTextOf, cause-text, heading-text, lines-of_text, no_text, origin-text, suggestion-text}
use Rattle.annotate_snippets.proofs.Common.{text-append, text-each, PathIs, before_added-each, before_id-each, before_name-each, decimal-each, edit_indent-each}
use Rattle.annotate_snippets.proofs.Common.{edit_place-each, further_indent-each, is_odd, known-each, place_in_file-each, span_text-each, colon_of, is_set}
use Rattle.annotate_snippets.proofs.Common.{drawn_elements, file_of_group, first_two_share, path_bytes, is_drawn, HasOneLineTexts, text_lines}
use Rattle.annotate_snippets.proofs.Common.{element_paragraphs, elements_paragraphs, group_paragraphs, report_paragraphs, title_paragraphs, PreviousSuggestion}
use Rattle.annotate_snippets.proofs.Common.{before_next, element_form, elements_form, group_form, suggestion_place, suggestion_settings, text_form, Renderer}
use Rattle.std.proofs.Common.{chars, filter}
use Rattle.snippet_model.specs.declared.snippet.Element.TheVariants as element
use Rattle.snippet_parts.specs.Numbered.{numbered_source}
use Rattle.snippet_text_form.specs.declared.heading.HeadingKind.TheVariants as kind
use Rattle.snippet_text_form.proofs.PlaceParts.{place-each}
use Rattle.annotate_snippets.proofs.FormSteps.{title_form}
use Rattle.annotate_snippets.proofs.HeadingFeedLaws.{IsOneLineHeading, parts_plain}
use Rattle.annotate_snippets.proofs.OneLineTexts.{IsNoFeed, IsOneLineElement, IsOneLineGroup, IsOneLineId, IsOneLineLabel, IsOneLineText, IsOneLineTitle}
use Rattle.annotate_snippets.proofs.OneLineTexts.{one_line_groups}
use Rattle.annotate_snippets.proofs.PathFeedLaws.{norm-plain}

-- ---- the text form is the text of its paragraphs

element_text : (r : Renderer) (file : Option (List ℕ)) (before : Option PreviousSuggestion) (followed : Bool) (e : Element)
    → IsTextOf (element_paragraphs r file before followed e) (element_form r file before followed e)
element_text r file before followed (element.Message m) = heading-text r.hyperlink kind.Message (heading_of_message m)
element_text r file before followed (element.Cause s) = cause-text r.anonymized_origin_line_numbers s
element_text r file before followed (element.Suggestion s) = suggestion-text (suggestion_settings r) (suggestion_place file before followed s) s
element_text r file before followed (element.Origin o) = origin-text r.anonymized_origin_line_numbers o
element_text r file before followed (element.Padding p) = no_text

elements_text : (r : Renderer) (file : Option (List ℕ)) (before : Option PreviousSuggestion) (es : List Element)
    → IsTextOf (elements_paragraphs r file before es) (elements_form r file before es)
elements_text r file before [] = no_text
elements_text r file before (e ∷ es) =
    let shared : Bool = first_two_share (e ∷ es) in
    text-append (element_paragraphs r file before shared e) (elements_paragraphs r file (before_next before e) es) (element_form r file before shared e)
    (elements_form r file (before_next before e) es) (element_text r file before shared e) (elements_text r file (before_next before e) es)

title_text : (r : Renderer) (title : Option Title) → IsTextOf (title_paragraphs title) (title_form r title)
title_text r None = no_text
title_text r (Some t) =
    let own : List FormPiece = heading_form r.hyperlink kind.Title (heading_of_title t) in
    text-append (heading_paragraph kind.Title (heading_of_title t) ∷ []) [] own [] (heading-text r.hyperlink kind.Title (heading_of_title t)) no_text

group_text : (r : Renderer) (groups : List Group) (g : Group) → IsTextOf (group_paragraphs r groups g) (group_form r groups g)
group_text r groups g =
    let file : Option (List ℕ) = file_of_group groups g in
    text-append (title_paragraphs g.title) (elements_paragraphs r file None (drawn_elements g)) (title_form r g.title)
    (elements_form r file None (drawn_elements g)) (title_text r g.title) (elements_text r file None (drawn_elements g))

-- ---- no line of a paragraph holds a line feed

abbrev IsLine : List ℕ → Type 0
IsLine line = All IsNoFeed line

abbrev AreLines : List (List (List ℕ)) → Type 0
AreLines paragraphs = All (All IsLine) paragraphs

printable-plain : (c : ℕ) → is_odd c ≡ false → IsNoFeed c
printable-plain c is = grind (arith, nat_tests)

path-plain : (path : Option (List ℕ)) → IsOneLineText path → PathIs IsNoFeed printable-plain path
path-plain None plain = tt
path-plain (Some path) plain = norm-plain (chars path) plain

one_line : (line : List ℕ) → IsLine line → AreLines (line_paragraph line ∷ [])
one_line line plain = All-cons (All IsLine) (line_paragraph line) [] (All-cons IsLine line [] plain (All-nil IsLine)) (All-nil (All IsLine))

each_line : (lines : List (List ℕ)) → All IsLine lines → AreLines (map line_paragraph lines)
each_line [] all = All-nil (All IsLine)
each_line (line ∷ lines) all = grind (arith, each_line lines (All-tail IsLine line lines all), All-append, map, one_line, All-head, All-tail)

-- that of a title or message
name_label-plain : (kind : HeadingKind) (heading : Heading) → IsOneLineHeading heading
    → IsLine (if is_hidden heading.level.name then [] else before_name kind ++ norm (chars (name_of heading.level)))
name_label-plain kind heading plain = of_hidden (is_hidden heading.level.name)
  where
    name : List ℕ
    name = norm (chars (name_of heading.level))

    of_hidden : (hidden : Bool) → IsLine (if hidden then [] else before_name kind ++ name)
    of_hidden true = All-nil IsNoFeed
    of_hidden false =
        All-append IsNoFeed (before_name kind) name (before_name-each IsNoFeed printable-plain kind) (norm-plain (chars (name_of heading.level)) plain.0)

id_label-plain : (hidden : Bool) (id : Option Id) → IsOneLineId id → IsLine (label_of_id hidden id)
id_label-plain hidden None plain = All-nil IsNoFeed
id_label-plain hidden (Some id) plain = of_text (option_map cow_str_bytes id.id) plain
  where
    of_text : (text : Option (List ℕ)) → IsOneLineText text → IsLine (id_label hidden text)
    of_text None own = All-nil IsNoFeed
    of_text (Some text) own =
        All-append IsNoFeed (before_id hidden) (norm (chars text)) (before_id-each IsNoFeed printable-plain hidden) (norm-plain (chars text) own)

colon-plain : (hidden : Bool) (id : Option Id) → IsLine (colon_of hidden id)
colon-plain hidden id = of_bare (hidden && not (is_set id))
  where
    of_bare : (none : Bool) → IsLine (if none then [] else codes ": ")
    of_bare true = All-nil IsNoFeed
    of_bare false = known-each IsNoFeed printable-plain (codes ": ") refl

label-plain : (kind : HeadingKind) (heading : Heading) → IsOneLineHeading heading → IsLine (heading_label kind heading)
label-plain kind heading plain =
    let hidden : Bool = is_hidden heading.level.name in
    let id : List ℕ = label_of_id hidden heading.id in
    let colon : List ℕ = colon_of hidden heading.id in
    All-append IsNoFeed _ (id ++ colon) (name_label-plain kind heading plain)
    (All-append IsNoFeed id colon (id_label-plain hidden heading.id plain.1) (colon-plain hidden heading.id))

further-plain : (width : ℕ) (lines : List (List ℕ)) → All IsLine lines → All IsLine (map (λ further. replicate width 32 ++ further) lines)
further-plain width [] all = All-nil IsLine
further-plain width (line ∷ lines) all =
    All-cons IsLine (replicate width 32 ++ line) (map (λ further. replicate width 32 ++ further) lines)
    (All-append IsNoFeed (replicate width 32) line (All-replicate IsNoFeed width 32 refl) (All-head IsLine line lines all))
    (further-plain width lines (All-tail IsLine line lines all))

lines_after-plain : (label : List ℕ) (lines : List (List ℕ)) → IsLine label → All IsLine lines → All IsLine (lines_after label lines)
lines_after-plain label [] own all = All-cons IsLine label [] own (All-nil IsLine)
lines_after-plain label (line ∷ lines) own all =
    All-cons IsLine (label ++ line) (map (λ further. replicate (width_of label) 32 ++ further) lines)
    (All-append IsNoFeed label line own (All-head IsLine line lines all)) (further-plain (width_of label) lines (All-tail IsLine line lines all))

heading-lines : (kind : HeadingKind) (heading : Heading) → IsOneLineHeading heading → AreLines (heading_paragraph kind heading ∷ [])
heading-lines kind heading plain = grind (arith, All-cons, lines_after-plain, label-plain, parts_plain, All-nil)

-- those of an annotated snippet
label_characters-plain : (label : Option (List ℕ)) → IsOneLineText label → IsLine (normalized_chars label)
label_characters-plain None plain = All-nil IsNoFeed
label_characters-plain (Some text) plain = norm-plain (chars text) plain

span-plain : (anonymized : Bool) (source : Source) (indent : List ℕ) (path : Option (List ℕ)) (a : Annotation) → IsLine indent → IsOneLineText path
    → IsOneLineLabel a → IsLine (span_text anonymized source indent path a)
span-plain anonymized source indent path a blank own label =
    span_text-each IsNoFeed printable-plain anonymized source indent path a blank (path-plain path own)
    (label_characters-plain (option_map cow_str_bytes a.label) label)

further_spans-plain : (anonymized : Bool) (source : Source) (indent : List ℕ) (marks : List Annotation) → IsLine indent → All IsOneLineLabel marks
    → All IsLine (map (span_text anonymized source indent None) marks)
further_spans-plain anonymized source indent [] blank all = All-nil IsLine
further_spans-plain anonymized source indent (a ∷ marks) blank all =
    All-cons IsLine (span_text anonymized source indent None a) (map (span_text anonymized source indent None) marks)
    (span-plain anonymized source indent None a blank tt (All-head IsOneLineLabel a marks all))
    (further_spans-plain anonymized source indent marks blank (All-tail IsOneLineLabel a marks all))

spans-plain : (anonymized : Bool) (source : Source) (path : Option (List ℕ)) (marks : List Annotation) → IsOneLineText path → All IsOneLineLabel marks
    → All IsLine (span_lines anonymized source path marks)
spans-plain anonymized source path [] own all =
    let where_is : List ℕ = place anonymized path source.first None in
    All-cons IsLine (codes " " ++ where_is) [] (All-append IsNoFeed (codes " ") where_is (known-each IsNoFeed printable-plain (codes " ") refl)
    (place-each IsNoFeed printable-plain anonymized path source.first None (path-plain path own))) (All-nil IsLine)
spans-plain anonymized source path (a ∷ marks) own all =
    let indent : List ℕ = further_indent path in
    All-cons IsLine (span_text anonymized source (codes " ") path a) (map (span_text anonymized source indent None) (filter is_labelled marks))
    (span-plain anonymized source (codes " ") path a (known-each IsNoFeed printable-plain (codes " ") refl) own (All-head IsOneLineLabel a marks all))
    (further_spans-plain anonymized source indent (filter is_labelled marks) (further_indent-each IsNoFeed printable-plain path)
    (All-filter is_labelled IsOneLineLabel marks (All-tail IsOneLineLabel a marks all)))

-- those of a suggestion, whatever its patches put in
picture-plain : (c : ℕ) → IsNoFeed (picture_of c)
picture-plain c = of_feed (c == 10) refl
  where
    of_feed : (feed : Bool) → (c == 10) ≡ feed → IsNoFeed (if feed then 0x240A else c)
    of_feed true is = refl
    of_feed false is = is

pictures-plain : (cs : List ℕ) → IsLine (with_line_feeds_shown cs)
pictures-plain [] = All-nil IsNoFeed
pictures-plain (c ∷ cs) = All-cons IsNoFeed (picture_of c) (with_line_feeds_shown cs) (picture-plain c) (pictures-plain cs)

added-plain : (feeds : Bool) (source : List ℕ) (e : Edit) → feeds ≡ true → IsLine (added_words feeds source e)
added-plain false source e asked = cc
added-plain true source e asked = of_blank (is_blank_text e.text)
  where
    before : List ℕ
    before = before_added source e

    of_blank : (blank : Bool) → IsLine (if blank then [] else before ++ added_text true e)
    of_blank true = All-nil IsNoFeed
    of_blank false =
        All-append IsNoFeed before (added_text true e) (before_added-each IsNoFeed printable-plain source e)
        (pictures-plain (norm (chars (without_final_line_feeds e.text))))

edits-plain : (settings : SuggestionSettings) (source : Source) (indent : List ℕ) (path : Option (List ℕ)) (edits : List Edit)
    → settings.show_line_feeds ≡ true → IsLine indent → IsOneLineText path → All IsLine (map (edit_line settings source indent path) edits)
edits-plain settings source indent path [] asked blank own = All-nil IsLine
edits-plain settings source indent path (e ∷ edits) asked blank own =
    let at = locations_of source e.start e.end in
    let place : List ℕ = edit_place settings.anonymized source path e at.0 at.1 in
    let added : List ℕ = added_words settings.show_line_feeds source.text e in
    let front : IsLine (indent ++ place) = All-append IsNoFeed indent place blank
    (edit_place-each IsNoFeed printable-plain settings.anonymized source path e at.0 at.1 (path-plain path own)) in
    All-cons IsLine (edit_line settings source indent path e) (map (edit_line settings source indent path) edits)
    (All-append IsNoFeed (indent ++ place) added front (added-plain settings.show_line_feeds source.text e asked))
    (edits-plain settings source indent path edits asked blank own)

option-plain : (option : Option ℕ) → All IsLine (option_lines option)
option-plain None = All-nil IsLine
option-plain (Some number) =
    All-cons IsLine (codes " option " ++ decimal number) [] (All-append IsNoFeed (codes " option ") (decimal number)
    (known-each IsNoFeed printable-plain (codes " option ") refl) (decimal-each IsNoFeed printable-plain number)) (All-nil IsLine)

named-plain : (names : Bool) (path : Option (List ℕ)) → IsOneLineText path → IsOneLineText (named_path names path)
named-plain true path own = own
named-plain false path own = tt

suggestion-lines : (settings : SuggestionSettings) (at : SuggestionContext) (s : Snippet Patch) → settings.show_line_feeds ≡ true
    → IsOneLineText (path_bytes s.path) → AreLines (suggestion_paragraphs settings at s)
suggestion-lines settings at s asked own =
    let path : Option (List ℕ) = named_path at.names_path (path_bytes s.path) in
    let line : Edit → List ℕ = edit_line settings (numbered_source s) (edit_indent at.option) path in
    All-append (All IsLine) (map line_paragraph (option_lines at.option)) (map line_paragraph (map line (trimmed_of s)))
    (each_line (option_lines at.option) (option-plain at.option))
    (each_line (map line (trimmed_of s)) (edits-plain settings (numbered_source s) (edit_indent at.option) path (trimmed_of s) asked
    (edit_indent-each IsNoFeed printable-plain at.option) (named-plain at.names_path (path_bytes s.path) own)))

element-lines : (r : Renderer) (file : Option (List ℕ)) (before : Option PreviousSuggestion) (followed : Bool) (e : Element) → r.show_line_feeds ≡ true
    → IsOneLineElement false e → AreLines (element_paragraphs r file before followed e)
element-lines r file before followed (element.Message m) asked plain = heading-lines kind.Message (heading_of_message m) (plain, tt)
element-lines r file before followed (element.Cause s) asked plain =
    let lines : List (List ℕ) = span_lines r.anonymized_origin_line_numbers (numbered_source s) (path_bytes s.path) (named_spans s.markers.items) in
    each_line lines (spans-plain r.anonymized_origin_line_numbers (numbered_source s) (path_bytes s.path) (named_spans s.markers.items) plain.0
    (All-named_spans IsOneLineLabel s.markers.items plain.1))
element-lines r file before followed (element.Suggestion s) asked plain =
    suggestion-lines (suggestion_settings r) (suggestion_place file before followed s) s asked plain
element-lines r file before followed (element.Origin o) asked plain =
    let where_is : List ℕ = place_in_file r.anonymized_origin_line_numbers (cow_str_bytes o.path) o.line o.char_column in
    one_line (codes " " ++ where_is) (All-append IsNoFeed (codes " ") where_is (known-each IsNoFeed printable-plain (codes " ") refl)
    (place_in_file-each IsNoFeed printable-plain r.anonymized_origin_line_numbers (cow_str_bytes o.path) o.line o.char_column
    (norm-plain (chars (cow_str_bytes o.path)) plain)))
element-lines r file before followed (element.Padding p) asked plain = All-nil (All IsLine)

elements-lines : (r : Renderer) (file : Option (List ℕ)) (before : Option PreviousSuggestion) (es : List Element) → r.show_line_feeds ≡ true
    → All (IsOneLineElement false) es → AreLines (elements_paragraphs r file before es)
elements-lines r file before [] asked plain = All-nil (All IsLine)
elements-lines r file before (e ∷ es) asked plain =
    let shared : Bool = first_two_share (e ∷ es) in
    All-append (All IsLine) (element_paragraphs r file before shared e) (elements_paragraphs r file (before_next before e) es)
    (element-lines r file before shared e asked (All-head (IsOneLineElement false) e es plain))
    (elements-lines r file (before_next before e) es asked (All-tail (IsOneLineElement false) e es plain))

title-lines : (title : Option Title) → IfSome title IsOneLineTitle → AreLines (title_paragraphs title)
title-lines None plain = All-nil (All IsLine)
title-lines (Some t) plain = heading-lines kind.Title (heading_of_title t) plain

group-lines : (r : Renderer) (groups : List Group) (g : Group) → r.show_line_feeds ≡ true → IsOneLineGroup false g → AreLines (group_paragraphs r groups g)
group-lines r groups g asked plain =
    All-append (All IsLine) (title_paragraphs g.title) (elements_paragraphs r (file_of_group groups g) None (drawn_elements g)) (title-lines g.title plain.0)
    (elements-lines r (file_of_group groups g) None (drawn_elements g) asked (All-filter is_drawn (IsOneLineElement false) g.elements.items plain.1))

groups-lines : (r : Renderer) (groups gs : List Group) → r.show_line_feeds ≡ true → All (IsOneLineGroup false) gs
    → AreLines (flat_map (group_paragraphs r groups) gs)
groups-lines r groups [] asked plain = All-nil (All IsLine)
groups-lines r groups (g ∷ gs) asked plain =
    All-append (All IsLine) (group_paragraphs r groups g) (flat_map (group_paragraphs r groups) gs)
    (group-lines r groups g asked (All-head (IsOneLineGroup false) g gs plain)) (groups-lines r groups gs asked (All-tail (IsOneLineGroup false) g gs plain))

-- ---- the lines of the text form

-- where line feeds are shown, and no label, path, id and name of a level holds one, the lines of the text form are those of its paragraphs
pub paragraph_lines : (r : Renderer) (groups : List Group) → r.show_line_feeds ≡ true → HasOneLineTexts false groups
    → text_lines (form_text (text_form r groups)) ≡ lines_of_paragraphs (report_paragraphs r groups)
paragraph_lines r groups asked plain =
    lines-of_text (report_paragraphs r groups) (text_form r groups) (text-each (group_paragraphs r groups) (group_form r groups) (group_text r groups) groups)
    (groups-lines r groups groups asked (one_line_groups false groups plain))

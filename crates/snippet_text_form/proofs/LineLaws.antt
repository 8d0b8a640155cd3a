-- The lines of a text form's plain text are those of its paragraphs.
use Rattle.std.proofs.lemmas.Grind.{common_steps}
use Rattle.snippet_text_form.proofs.Common.{◌≡◌, ℕ, ◌==◌, ◌&&◌, not, Bool, true, false, Option, None, Some, List, [], ◌∷◌, ◌++◌, All}
use Rattle.snippet_text_form.proofs.Common.{codes, filter, map, replicate, if◌then◌else◌, refl, sym, ap, ◌∙◌, arith, cow_str_bytes, decimal}
use Rattle.snippet_text_form.proofs.Common.{flat_map, slice_split, option_map, flat_map-append, append-nil, All-append, All-head, All-nil, All-tail}
use Rattle.snippet_text_form.proofs.Common.{slice_split_at, slice_split_none, Source, locations_of, Heading, is_hidden, name_of, Level, Annotation, Id, Origin}
use Rattle.snippet_text_form.proofs.Common.{Patch, Snippet, numbered_source, Edit, ElementStyle, Addition, trimmed_of, is_blank_text, norm, width_of}
use Rattle.snippet_text_form.proofs.Common.{address_of, colon_of, heading_lines, is_set, HeadingRoles, cause_form, further_indent, is_labelled, named_spans}
use Rattle.snippet_text_form.proofs.Common.{span_form, span_text, spans_form, FormPiece, Break, bare, begun_after, plain_from, styled, before_name, colon_form}
use Rattle.snippet_text_form.proofs.Common.{further_line, heading_form, heading_label, id_form, id_label, id_text_form, label_form, label_of_id, lines_form}
use Rattle.snippet_text_form.proofs.Common.{name_form, text_roles_of, added_words, cause_paragraphs, edit_line, heading_paragraph, line_paragraph, lines_after}
use Rattle.snippet_text_form.proofs.Common.{lines_of_paragraphs, option_lines, origin_paragraph, span_lines, suggestion_paragraphs, place, place_in_file}
use Rattle.snippet_text_form.proofs.Common.{added_form, added_text, before_added, edit_form, edit_indent, edit_place, named_path, option_form, origin_form}
use Rattle.snippet_text_form.proofs.Common.{suggestion_form, HeadingKind, SuggestionContext, SuggestionSettings}
use Rattle.std.proofs.Common.{chars, append_assoc}
use Rattle.snippet_text_form.proofs.FormSteps.{plain-bare}
use Rattle.snippet_text_form.proofs.OrderLaws.{begun-cons, plain-append}

-- ---- lines one below another

-- lines below another text, and lines that begin one
abbrev pub below : List (List ℕ) → List ℕ
below lines = flat_map (λ line. 10 ∷ line) lines

abbrev pub joined : List (List ℕ) → List ℕ
joined [] = []
joined (line ∷ lines) = line ++ below lines

-- all lines of some paragraphs
abbrev pub all_lines : List (List (List ℕ)) → List (List ℕ)
all_lines paragraphs = flat_map (λ lines. lines) paragraphs

below-append : (a b : List (List ℕ)) → below (a ++ b) ≡ below a ++ below b
below-append a b = flat_map-append (λ (line : List ℕ). 10 ∷ line) a b

all_lines-append : (a b : List (List (List ℕ))) → all_lines (a ++ b) ≡ all_lines a ++ all_lines b
all_lines-append a b = flat_map-append (λ (lines : List (List ℕ)). lines) a b

-- the plain text of a form is that of these paragraphs: below another text, and where none stands before it
pub record IsTextOf (paragraphs : List (List (List ℕ))) (form : List FormPiece) : Type 0 where
  pub later : plain_from true form ≡ below (all_lines paragraphs)
  pub first : plain_from false form ≡ joined (lines_of_paragraphs paragraphs)

pub no_text : IsTextOf [] []
no_text = record { later = refl; first = refl }

-- the lines of two lists of paragraphs below a line
below_both : (ls : List (List ℕ)) (es fs : List (List (List ℕ)))
    → below (ls ++ all_lines es) ++ below (all_lines fs) ≡ below (ls ++ all_lines (es ++ fs))
below_both ls es fs = grind (arith, below-append, append_assoc, all_lines-append)

-- one form after another
first_after : (es fs : List (List (List ℕ))) (b : List FormPiece) → IsTextOf fs b
    → joined (lines_of_paragraphs es) ++ plain_from (begun_after false (joined (lines_of_paragraphs es))) b ≡ joined (lines_of_paragraphs (es ++ fs))
first_after [] fs b is = is.first
first_after ([] ∷ es) fs b is = first_after es fs b is
first_after (([] ∷ []) ∷ es) fs b is = first_after es fs b is
first_after (([] ∷ line ∷ ls) ∷ es) fs b is = grind (arith, common_steps, begun-cons, below_both, is.later)
first_after (((c ∷ line) ∷ ls) ∷ es) fs b is = grind (arith, begun-cons, append_assoc, below_both, is.later)

pub text-append : (es fs : List (List (List ℕ))) (a b : List FormPiece) → IsTextOf es a → IsTextOf fs b → IsTextOf (es ++ fs) (a ++ b)
text-append es fs a b one two = grind (arith, common_steps, plain-append, below_both, first_after)

pub text-each : {A : Type 0} (paragraphs : A → List (List (List ℕ))) (form : A → List FormPiece) → ((x : A) → IsTextOf (paragraphs x) (form x)) → (xs : List A)
    → IsTextOf (flat_map paragraphs xs) (flat_map form xs)
text-each paragraphs form each [] = no_text
text-each paragraphs form each (x ∷ xs) =
    text-append (paragraphs x) (flat_map paragraphs xs) (form x) (flat_map form xs) (each x) (text-each paragraphs form each xs)

-- a paragraph begins a line
alone : (paragraph : List (List ℕ)) → joined paragraph ≡ joined (lines_of_paragraphs (paragraph ∷ []))
alone [] = refl
alone ([] ∷ []) = refl
alone ([] ∷ line ∷ lines) = ap below (sym (append-nil (line ∷ lines)))
alone ((c ∷ line) ∷ lines) = ap (λ (ls : List (List ℕ)). (c ∷ line) ++ below ls) (sym (append-nil lines))

pub text-paragraph : (line : List ℕ) (lines : List (List ℕ)) (form : List FormPiece) → ((begun : Bool) → plain_from begun form ≡ joined (line ∷ lines))
    → IsTextOf ((line ∷ lines) ∷ []) (Break ∷ form)
text-paragraph line lines form is = grind (arith, common_steps, append-nil, alone)

-- one of one line
pub text-line : (line : List ℕ) (form : List FormPiece) → ((begun : Bool) → plain_from begun form ≡ line) → IsTextOf (line_paragraph line ∷ []) (Break ∷ form)
text-line line form is = text-paragraph line [] form (λ begun. is begun ∙ sym (append-nil line))

-- ---- the paragraphs of the form

-- lines without codes
bare-line : (line : List ℕ) → IsTextOf (line_paragraph line ∷ []) (Break ∷ bare line)
bare-line line = text-line line (bare line) (λ begun. plain-bare begun line)

text-lines : {A : Type 0} (line : A → List ℕ) (form : A → List FormPiece) → ((x : A) → IsTextOf (line_paragraph (line x) ∷ []) (form x)) → (xs : List A)
    → IsTextOf (map line_paragraph (map line xs)) (flat_map form xs)
text-lines line form each [] = no_text
text-lines line form each (x ∷ xs) =
    text-append (line_paragraph (line x) ∷ []) (map line_paragraph (map line xs)) (form x) (flat_map form xs) (each x) (text-lines line form each xs)

spans-text : (anonymized : Bool) (source : Source) (path : Option (List ℕ)) (marks : List Annotation)
    → IsTextOf (map line_paragraph (span_lines anonymized source path marks)) (spans_form anonymized source path marks)
spans-text anonymized source path [] = bare-line (codes " " ++ place anonymized path source.first None)
spans-text anonymized source path (a ∷ marks) =
    let further : Annotation → List ℕ = span_text anonymized source (further_indent path) None in
    text-append _ _ _ _ (bare-line (span_text anonymized source (codes " ") path a))
    (text-lines further (span_form anonymized source (further_indent path) None) (λ b. bare-line (further b)) (filter is_labelled marks))

-- those of an annotated snippet
pub cause-text : (anonymized : Bool) (s : Snippet Annotation) → IsTextOf (cause_paragraphs anonymized s) (cause_form anonymized s)
unfolding cause_form
cause-text anonymized s =
    spans-text anonymized (numbered_source s) (option_map cow_str_bytes s.path) (named_spans s.markers.items)

-- that of an edit
added-plain : (feeds : Bool) (source : List ℕ) (e : Edit) (begun : Bool) → plain_from begun (added_form feeds source e) ≡ added_words feeds source e
added-plain feeds source e begun = of_blank (is_blank_text e.text)
  where
    before : List ℕ
    before = before_added source e

    text : List ℕ
    text = added_text feeds e

    of_blank : (blank : Bool) → plain_from begun (if blank then [] else bare before ++ styled Addition text) ≡ (if blank then [] else before ++ text)
    of_blank true = refl
    of_blank false = grind (arith, common_steps, plain-append, before, text, plain-bare, append-nil)

edit-text : (settings : SuggestionSettings) (source : Source) (indent : List ℕ) (path : Option (List ℕ)) (e : Edit)
    → IsTextOf (line_paragraph (edit_line settings source indent path e) ∷ []) (edit_form settings source indent path e)
edit-text settings source indent path e =
    let at = locations_of source e.start e.end in
    let front : List ℕ = indent ++ edit_place settings.anonymized source path e at.0 at.1 in
    let added : List FormPiece = added_form settings.show_line_feeds source.text e in
    text-line (edit_line settings source indent path e) (bare front ++ added) (λ begun.
    plain-append begun (bare front) added
    ∙ ap (λ (cs : List ℕ). cs ++ plain_from (begun_after begun (plain_from begun (bare front))) added) (plain-bare begun front)
    ∙ ap (λ (cs : List ℕ). front ++ cs) (added-plain settings.show_line_feeds source.text e (begun_after begun (plain_from begun (bare front)))))

option-text : (option : Option ℕ) → IsTextOf (map line_paragraph (option_lines option)) (option_form option)
option-text None = no_text
option-text (Some number) = bare-line (codes " option " ++ decimal number)

-- those of a suggestion
pub suggestion-text : (settings : SuggestionSettings) (at : SuggestionContext) (s : Snippet Patch)
    → IsTextOf (suggestion_paragraphs settings at s) (suggestion_form settings at s)
unfolding suggestion_form
suggestion-text settings at s =
    let source : Source = numbered_source s in
    let path : Option (List ℕ) = named_path at.names_path (option_map cow_str_bytes s.path) in
    let line : Edit → List ℕ = edit_line settings source (edit_indent at.option) path in
    let edits : Edit → List FormPiece = edit_form settings source (edit_indent at.option) path in
    text-append _ _ _ _ (option-text at.option) (text-lines line edits (edit-text settings source (edit_indent at.option) path) (trimmed_of s))

-- that of an origin
pub origin-text : (anonymized : Bool) (o : Origin) → IsTextOf (origin_paragraph anonymized o ∷ []) (origin_form anonymized o)
unfolding origin_form
origin-text anonymized o = bare-line (codes " " ++ place_in_file anonymized (cow_str_bytes o.path) o.line o.char_column)

-- ---- a title or message

-- the characters of two forms, one after the other, where those of each are known
both-plain : (begun : Bool) (a b : List FormPiece) (xs ys : List ℕ) → ((now : Bool) → plain_from now a ≡ xs) → ((now : Bool) → plain_from now b ≡ ys)
    → plain_from begun (a ++ b) ≡ xs ++ ys
both-plain begun a b xs ys first second = grind (arith, plain-append)

styled-plain : (role : ElementStyle) (text : List ℕ) (now : Bool) → plain_from now (styled role text) ≡ text
styled-plain role text now = append-nil text

name-plain : (kind : HeadingKind) (role : ElementStyle) (level : Level) (now : Bool)
    → plain_from now (name_form kind role level) ≡ (if is_hidden level.name then [] else before_name kind ++ norm (chars (name_of level)))
name-plain kind role level now = of_hidden (is_hidden level.name)
  where
    name : List ℕ
    name = norm (chars (name_of level))

    of_hidden : (hidden : Bool) → plain_from now (if hidden then [] else bare (before_name kind) ++ styled role name)
        ≡ (if hidden then [] else before_name kind ++ name)
    of_hidden true = refl
    of_hidden false =
        both-plain now (bare (before_name kind)) (styled role name) (before_name kind) name (λ b. plain-bare b (before_name kind)) (styled-plain role name)

id_text-plain : (hidden : Bool) (role : ElementStyle) (address text : Option (List ℕ)) (now : Bool)
    → plain_from now (id_text_form hidden role address text) ≡ id_label hidden text
id_text-plain hidden role address None now = refl
id_text-plain hidden role address (Some text) now = grind (arith, both-plain, plain-bare, append-nil)

id-plain : (hyperlink hidden : Bool) (role : ElementStyle) (id : Option Id) (now : Bool)
    → plain_from now (id_form hyperlink hidden role id) ≡ label_of_id hidden id
id-plain hyperlink hidden role None now = refl
id-plain hyperlink hidden role (Some id) now =
    id_text-plain hidden role (address_of hyperlink id) (option_map cow_str_bytes id.id) now

colon-plain : (role : ElementStyle) (hidden : Bool) (id : Option Id) (now : Bool) → plain_from now (colon_form role hidden id) ≡ colon_of hidden id
colon-plain role hidden id now = of_bare (hidden && not (is_set id))
  where
    of_bare : (none : Bool) → plain_from now (if none then [] else styled role (codes ": ")) ≡ (if none then [] else codes ": ")
    of_bare true = refl
    of_bare false = refl

label-plain : (hyperlink : Bool) (kind : HeadingKind) (roles : HeadingRoles) (heading : Heading) (now : Bool)
    → plain_from now (label_form hyperlink kind roles heading) ≡ heading_label kind heading
label-plain hyperlink kind roles heading now =
    grind (arith, both-plain, name-plain, id-plain, colon-plain, heading.level.name, roles.label, heading.level, heading.id, roles.colon)

further-plain : (role : ElementStyle) (width : ℕ) (lines : List (List ℕ)) (now : Bool)
    → plain_from now (flat_map (further_line role width) lines) ≡ below (map (λ further. replicate width 32 ++ further) lines)
further-plain role width [] now = refl
further-plain role width (line ∷ lines) now = grind (arith, common_steps, further-plain role width lines, both-plain, plain-bare, styled-plain)

-- its paragraph
label_and_lines : (hyperlink : Bool) (kind : HeadingKind) (roles : HeadingRoles) (heading : Heading) (lines : List (List ℕ))
    → IsTextOf (lines_after (heading_label kind heading) lines ∷ [])
    (Break ∷ (label_form hyperlink kind roles heading ++ lines_form roles.text (width_of (heading_label kind heading)) lines))
label_and_lines hyperlink kind roles heading [] = grind (arith, text-line, both-plain, label-plain, append-nil)
label_and_lines hyperlink kind roles heading (line ∷ lines) =
    let own : List ℕ = heading_label kind heading in
    let width : ℕ = width_of own in
    let label : List FormPiece = label_form hyperlink kind roles heading in
    let more : List (List ℕ) = map (λ further. replicate width 32 ++ further) lines in
    text-paragraph (own ++ line) more (label ++ lines_form roles.text width (line ∷ lines)) (λ begun.
    both-plain begun label (lines_form roles.text width (line ∷ lines)) own (line ++ below more) (label-plain hyperlink kind roles heading)
    (λ b. both-plain b (styled roles.text line) (flat_map (further_line roles.text width) lines) line (below more) (styled-plain roles.text line)
    (further-plain roles.text width lines))
    ∙ sym (append_assoc own line (below more)))

pub heading-text : (hyperlink : Bool) (kind : HeadingKind) (heading : Heading)
    → IsTextOf (heading_paragraph kind heading ∷ []) (heading_form hyperlink kind heading)
unfolding heading_form
heading-text hyperlink kind heading =
    label_and_lines hyperlink kind (text_roles_of kind heading.level.kind heading.allows_styling) heading (heading_lines heading)

-- ---- cut at line feeds

-- a character is no line feed, U+000A, and a line holds none
abbrev pub IsNoFeed : ℕ → Type 0
IsNoFeed c = (c == 10) ≡ false

abbrev pub IsLine : List ℕ → Type 0
IsLine line = All IsNoFeed line

-- the lines of a text
abbrev lines_in : List ℕ → List (List ℕ)
lines_in text = slice_split (λ c. c == 10) text

cut_at : (line : List ℕ) (lines : List (List ℕ)) → IsLine line → All IsLine lines → lines_in (line ++ below lines) ≡ line ∷ lines
cut_at line [] own all = ap lines_in (append-nil line) ∙ slice_split_none (λ c. c == 10) line own
cut_at line (next ∷ lines) own all =
    slice_split_at (λ c. c == 10) line 10 (next ++ below lines) own refl
    ∙ ap (λ (ls : List (List ℕ)). line ∷ ls) (cut_at next lines (All-head IsLine next lines all) (All-tail IsLine next lines all))

all_lines-plain : (paragraphs : List (List (List ℕ))) → All (All IsLine) paragraphs → All IsLine (all_lines paragraphs)
all_lines-plain [] all = All-nil IsLine
all_lines-plain (paragraph ∷ paragraphs) all =
    All-append IsLine paragraph _ (All-head (All IsLine) paragraph paragraphs all) (all_lines-plain paragraphs (All-tail (All IsLine) paragraph paragraphs all))

cut_from : (line : List ℕ) (lines : List (List ℕ)) (paragraphs : List (List (List ℕ))) → All (All IsLine) ((line ∷ lines) ∷ paragraphs)
    → lines_in (joined ((line ∷ lines) ++ all_lines paragraphs)) ≡ (line ∷ lines) ++ all_lines paragraphs
cut_from line lines paragraphs all =
    let own : All IsLine (line ∷ lines) = All-head (All IsLine) (line ∷ lines) paragraphs all in
    let later : All IsLine (all_lines paragraphs) = all_lines-plain paragraphs (All-tail (All IsLine) (line ∷ lines) paragraphs all) in
    cut_at line _ (All-head IsLine line lines own) (All-append IsLine lines (all_lines paragraphs) (All-tail IsLine line lines own) later)

-- the text of paragraphs whose lines hold no line feed has just these lines
cut_paragraphs : (paragraphs : List (List (List ℕ))) → All (All IsLine) paragraphs
    → lines_in (joined (lines_of_paragraphs paragraphs)) ≡ lines_of_paragraphs paragraphs
cut_paragraphs [] all = refl
cut_paragraphs ([] ∷ paragraphs) all = cut_paragraphs paragraphs (All-tail (All IsLine) [] paragraphs all)
cut_paragraphs (([] ∷ []) ∷ paragraphs) all = cut_paragraphs paragraphs (All-tail (All IsLine) ([] ∷ []) paragraphs all)
cut_paragraphs (([] ∷ line ∷ lines) ∷ paragraphs) all =
    cut_from [] (line ∷ lines) paragraphs all
cut_paragraphs (((c ∷ first) ∷ lines) ∷ paragraphs) all = cut_from (c ∷ first) lines paragraphs all

pub lines-of_text : (paragraphs : List (List (List ℕ))) (form : List FormPiece) → IsTextOf paragraphs form → All (All IsLine) paragraphs
    → slice_split (λ c. c == 10) (plain_from false form) ≡ lines_of_paragraphs paragraphs
lines-of_text paragraphs form is all = ap lines_in is.first ∙ cut_paragraphs paragraphs all

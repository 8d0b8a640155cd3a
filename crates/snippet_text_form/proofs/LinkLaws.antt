-- What a text form links to.
use Rattle.std.proofs.lemmas.Grind.{common_steps}
use Rattle.snippet_text_form.proofs.Common.{◌≡◌, ℕ, ◌&&◌, not, Bool, true, false, Option, None, Some, List, [], ◌∷◌, ◌++◌, Global, codes}
use Rattle.snippet_text_form.proofs.Common.{replicate, if◌then◌else◌, refl, ap, ◌∙◌, arith, cow_str_bytes, decimal, flat_map, option_map}
use Rattle.snippet_text_form.proofs.Common.{option_to_list, CowStr, nat_tests, flat_map-append, append-nil, Source, Heading, is_hidden, name_of}
use Rattle.snippet_text_form.proofs.Common.{Level, Annotation, Id, Origin, Patch, Snippet, Edit, ElementStyle, Addition, is_blank_text, norm, address_of}
use Rattle.snippet_text_form.proofs.Common.{is_set, id_links, text_links, HeadingRoles, cause_form, named_spans, spans_form, numbered_source, FormPiece, bare}
use Rattle.snippet_text_form.proofs.Common.{styled, form_links, before_name, colon_form, further_line, heading_form, id_form, id_text_form, label_form}
use Rattle.snippet_text_form.proofs.Common.{link_for, linking, lines_form, name_form, place, place_in_file, added_form, added_text, before_added, edit_form}
use Rattle.snippet_text_form.proofs.Common.{option_form, origin_form, suggestion_form, HeadingKind, SuggestionContext, SuggestionSettings}
use Rattle.std.proofs.Common.{chars}

-- one text form after another
pub links-append : (a b : List FormPiece) → form_links (a ++ b) ≡ form_links a ++ form_links b
links-append a b = flat_map-append _ a b

-- after one that links to nothing, and before one
pub form_links-unlinked : (a b : List FormPiece) → form_links a ≡ [] → form_links (a ++ b) ≡ form_links b
form_links-unlinked a b none = links-append a b ∙ ap (λ ls. ls ++ form_links b) none

pub links-before : (a b : List FormPiece) → form_links b ≡ [] → form_links (a ++ b) ≡ form_links a
links-before a b none = links-append a b ∙ ap (λ ls. form_links a ++ ls) none ∙ append-nil (form_links a)

-- text without codes links to nothing
bare-links : (text : List ℕ) → form_links (bare text) ≡ []
bare-links [] = refl
bare-links (c ∷ cs) = bare-links cs

-- nor do text forms that do so each, one after another
module _ {A : Type 0} (form : A → List FormPiece) (none : (x : A) → form_links (form x) ≡ []) where
  pub each-links : (xs : List A) → form_links (flat_map form xs) ≡ []
  each-links [] = refl
  each-links (x ∷ xs) = form_links-unlinked (form x) (flat_map form xs) (none x) ∙ each-links xs

-- a text links to its address where it shows anything
link_for-some : (address : Option (List ℕ)) (c : ℕ) (cs : List ℕ) → link_for address (c ∷ cs) ≡ address
link_for-some address c cs = grind (arith, nat_tests)

linking-links : (role : ElementStyle) (address : Option (List ℕ)) (text : List ℕ) → form_links (linking role address text) ≡ text_links address text
linking-links role address [] = refl
linking-links role address (c ∷ cs) =
    ap (λ a. option_to_list a ++ []) (link_for-some address c cs) ∙ append-nil (option_to_list address)

-- so does an id
id_text-links : (hidden : Bool) (role : ElementStyle) (address : Option (List ℕ)) (text : List ℕ)
    → form_links (id_text_form hidden role address (Some text)) ≡ text_links address (norm (chars text))
id_text-links hidden role address text = grind (arith, form_links-unlinked, bare-links, linking-links)

form_links-id : (hyperlink hidden : Bool) (role : ElementStyle) (id : Option Id) → form_links (id_form hyperlink hidden role id) ≡ id_links hyperlink id
form_links-id hyperlink hidden role None = refl
form_links-id hyperlink hidden role (Some id) = of_text id.id refl
  where
    of_text : (text : Option (CowStr Global)) → id.id ≡ text → form_links (id_form hyperlink hidden role (Some id)) ≡ id_links hyperlink (Some id)
    of_text None is = rw is refl
    of_text (Some text) is =
        rw (is, append-nil (norm (chars (cow_str_bytes text)))) (id_text-links hidden role (address_of hyperlink id) (cow_str_bytes text))

-- nothing else of a heading does
name-links : (kind : HeadingKind) (role : ElementStyle) (level : Level) → form_links (name_form kind role level) ≡ []
name-links kind role level = of_hidden (is_hidden level.name) refl
  where
    of_hidden : (hidden : Bool) → is_hidden level.name ≡ hidden → form_links (name_form kind role level) ≡ []
    of_hidden true is = rw is refl
    of_hidden false is =
        rw is (links-before (bare (before_name kind)) (styled role (norm (chars (name_of level)))) refl ∙ bare-links (before_name kind))

colon-links : (role : ElementStyle) (hidden : Bool) (id : Option Id) → form_links (colon_form role hidden id) ≡ []
colon-links role hidden id = by_case (hidden && not (is_set id))
  where
    by_case : (bare : Bool) → form_links (if bare then [] else styled role (codes ": ")) ≡ []
    by_case true = refl
    by_case false = refl

label-links : (hyperlink : Bool) (kind : HeadingKind) (roles : HeadingRoles) (heading : Heading)
    → form_links (label_form hyperlink kind roles heading) ≡ id_links hyperlink heading.id
label-links hyperlink kind roles heading = grind (arith, common_steps, form_links-unlinked, name-links, links-before, colon-links, form_links-id)

lines-links : (role : ElementStyle) (width : ℕ) (lines : List (List ℕ)) → form_links (lines_form role width lines) ≡ []
lines-links role width [] = refl
lines-links role width (line ∷ lines) =
    each-links (further_line role width) (λ l. links-before (bare (10 ∷ replicate width 32)) (styled role l) refl ∙ bare-links (10 ∷ replicate width 32)) lines

-- a heading links to the address of its id
pub heading-links : (hyperlink : Bool) (kind : HeadingKind) (heading : Heading)
    → form_links (heading_form hyperlink kind heading) ≡ id_links hyperlink heading.id
unfolding heading_form
heading-links hyperlink kind heading = grind (arith, links-before, lines-links, label-links, heading.level.kind, heading.allows_styling)

-- the other elements link to nothing
spans-links : (anonymized : Bool) (source : Source) (path : Option (List ℕ)) (marks : List Annotation)
    → form_links (spans_form anonymized source path marks) ≡ []
spans-links anonymized source path [] = bare-links (codes " " ++ place anonymized path source.first None)
spans-links anonymized source path (a ∷ marks) = grind (arith, form_links-unlinked, bare-links, each-links)

-- the text form of a snippet has no link
pub cause-links : (anonymized : Bool) (s : Snippet Annotation) → form_links (cause_form anonymized s) ≡ []
unfolding cause_form
cause-links anonymized s =
    spans-links anonymized (numbered_source s) (option_map cow_str_bytes s.path) (named_spans s.markers.items)

option-links : (option : Option ℕ) → form_links (option_form option) ≡ []
option-links None = refl
option-links (Some number) = bare-links (codes " option " ++ decimal number)

added_links : (feeds : Bool) (source : List ℕ) (e : Edit) → form_links (added_form feeds source e) ≡ []
added_links feeds source e = of_blank (is_blank_text e.text)
  where
    before : List ℕ
    before = before_added source e

    of_blank : (blank : Bool) → form_links (if blank then [] else bare before ++ styled Addition (added_text feeds e)) ≡ []
    of_blank true = refl
    of_blank false = links-before (bare before) (styled Addition (added_text feeds e)) refl ∙ bare-links before

edit-links : (settings : SuggestionSettings) (source : Source) (indent : List ℕ) (path : Option (List ℕ)) (e : Edit)
    → form_links (edit_form settings source indent path e) ≡ []
edit-links settings source indent path e = grind (arith, common_steps, form_links-unlinked, bare-links, added_links)

-- the text form of a suggestion has no link
pub suggestion-links : (settings : SuggestionSettings) (at : SuggestionContext) (s : Snippet Patch) → form_links (suggestion_form settings at s) ≡ []
unfolding suggestion_form
suggestion-links settings at s = grind (arith, form_links-unlinked, option-links, each-links, edit-links, at.names_path, s.path, at.option)

-- the text form of an origin has no link
pub origin-links : (anonymized : Bool) (o : Origin) → form_links (origin_form anonymized o) ≡ []
unfolding origin_form
origin-links anonymized o =
    bare-links (codes " " ++ place_in_file anonymized (cow_str_bytes o.path) o.line o.char_column)

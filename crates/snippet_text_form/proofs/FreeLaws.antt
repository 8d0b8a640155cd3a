-- No text form holds a listed character but those of a trusted heading's text.
use Rattle.std.proofs.lemmas.Grind.{common_steps}
use Rattle.snippet_text_form.proofs.Common.{◌≡◌, ℕ, ◌==◌, ◌&&◌, not, Bool, true, false, Option, None, Some, List, [], ◌∷◌, ◌++◌, All, codes, filter, replicate}
use Rattle.snippet_text_form.proofs.Common.{if◌then◌else◌, refl, sym, subst, arith, cow_str_bytes, decimal, flat_map, Contains, option_map, nat_tests, All-nil}
use Rattle.snippet_text_form.proofs.Common.{All-cons, All-head, All-tail, All-append, All-replicate, All-weaker, Source, locations_of, Heading, is_hidden}
use Rattle.snippet_text_form.proofs.Common.{name_of, Level, Annotation, Id, Origin, Patch, Snippet, Edit, without_final_line_feeds, picture_of}
use Rattle.snippet_text_form.proofs.Common.{with_line_feeds_shown, ElementStyle, Addition, is_blank_text, is_listed, norm, normalized_chars, width_of}
use Rattle.snippet_text_form.proofs.Common.{address_of, shown_text, heading_lines, is_set, HeadingRoles, IsUnlisted, IsOwn, norm-free, own_text, own_unlisted}
use Rattle.snippet_text_form.proofs.Common.{All-slice_split, each-fails, cause_form, is_labelled, named_spans, further_indent, span_form, span_text, spans_form}
use Rattle.snippet_text_form.proofs.Common.{numbered_source, place, place_in_file, added_form, added_text, before_added, edit_form, edit_indent, edit_place}
use Rattle.snippet_text_form.proofs.Common.{named_path, option_form, origin_form, suggestion_form, FormPiece, Break, Styled, bare, plain_from, styled}
use Rattle.snippet_text_form.proofs.Common.{before_id, before_name, colon_form, further_line, heading_form, id_form, id_text_form, label_form, heading_label}
use Rattle.snippet_text_form.proofs.Common.{link_for, linking, lines_form, name_form, text_roles_of, HeadingKind, SuggestionContext, SuggestionSettings}
use Rattle.std.proofs.Common.{chars}
use Rattle.snippet_suggest.specs.Given as given
use Rattle.snippet_text_form.proofs.OrderLaws.{plain-append}
use Rattle.snippet_text_form.proofs.FormSteps.{plain-bare}
use Rattle.snippet_text_form.proofs.PlaceParts.{PathIs, before_added-each, before_id-each, before_name-each, decimal-each, edit_indent-each, edit_place-each}
use Rattle.snippet_text_form.proofs.PlaceParts.{further_indent-each, is_odd, place-each, place_in_file-each, span_text-each}

-- a fact holds of each plain character of a text form, whatever stands before that
abbrev pub EachPlain : (ℕ → Type 0) → List FormPiece → Type 0
EachPlain P form = (begun : Bool) → All P (plain_from begun form)

module _ (P : ℕ → Type 0) (feed : P 10) where
  -- it holds of those of no form,
  pub each-nil : EachPlain P []
  each-nil begun = All-nil P

  -- as it does of one after another,
  pub each-append : (a b : List FormPiece) → EachPlain P a → EachPlain P b → EachPlain P (a ++ b)
  each-append a b first second begun = grind (arith, common_steps, plain-append, All-append)

  -- and of many
  pub each-flat_map : {A : Type 0} (form : A → List FormPiece) → ((x : A) → EachPlain P (form x)) → (xs : List A) → EachPlain P (flat_map form xs)
  each-flat_map form each [] = each-nil
  each-flat_map form each (x ∷ xs) =
      each-append (form x) (flat_map form xs) (each x) (each-flat_map form each xs)

  -- of one after a break, of text without codes, and of text in a style
  each-break : (form : List FormPiece) → EachPlain P form → EachPlain P (Break ∷ form)
  each-break form each true = All-cons P 10 (plain_from true form) feed (each true)
  each-break form each false = each false

  each-bare : (text : List ℕ) → All P text → EachPlain P (bare text)
  each-bare text all begun = subst (All P) (sym (plain-bare begun text)) all

  each-styled : (role : ElementStyle) (link : Option (List ℕ)) (text : List ℕ) → All P text → EachPlain P (Styled role link text ∷ [])
  each-styled role link text all begun = All-append P text [] all (All-nil P)

-- these texts hold no listed character: printable ASCII, paths and labels as they are shown, and so what names a place
abbrev pub AreFree : List ℕ → Type 0
AreFree text = All IsUnlisted text

free-append : (xs ys : List ℕ) → AreFree xs → AreFree ys → AreFree (xs ++ ys)
free-append xs ys first second = All-append IsUnlisted xs ys first second

printable-free : (c : ℕ) → is_odd c ≡ false → IsUnlisted c
printable-free c is = grind (arith, nat_tests)

path-free : (path : Option (List ℕ)) → PathIs IsUnlisted printable-free path
path-free None = tt
path-free (Some path) = norm-free (chars path)

label-free : (label : Option (List ℕ)) → AreFree (normalized_chars label)
label-free None = All-nil IsUnlisted
label-free (Some text) = norm-free (chars text)

span_text-free : (anonymized : Bool) (source : Source) (indent : List ℕ) (path : Option (List ℕ)) (a : Annotation) → AreFree indent
    → AreFree (span_text anonymized source indent path a)
span_text-free anonymized source indent path a free =
    span_text-each IsUnlisted printable-free anonymized source indent path a free (path-free path) (label-free (option_map cow_str_bytes a.label))

-- text without codes after a break, which holds none
abbrev FormIsFree : List FormPiece → Type 0
FormIsFree form = EachPlain IsUnlisted form

line-free : (text : List ℕ) → AreFree text → FormIsFree (Break ∷ bare text)
line-free text free = each-break IsUnlisted refl (bare text) (each-bare IsUnlisted refl text free)

spans-free : (anonymized : Bool) (source : Source) (path : Option (List ℕ)) (marks : List Annotation) → FormIsFree (spans_form anonymized source path marks)
spans-free anonymized source path [] =
    let where_is : List ℕ = place anonymized path source.first None in
    line-free (codes " " ++ where_is) (free-append (codes " ") where_is (each-fails is_listed (codes " ") refl)
    (place-each IsUnlisted printable-free anonymized path source.first None (path-free path)))
spans-free anonymized source path (a ∷ marks) =
    let indent : List ℕ = further_indent path in
    let further : Annotation → List FormPiece = span_form anonymized source indent None in
    let one : FormIsFree (span_form anonymized source (codes " ") path a) = line-free (span_text anonymized source (codes " ") path a)
    (span_text-free anonymized source (codes " ") path a (each-fails is_listed (codes " ") refl)) in
    each-append IsUnlisted refl (span_form anonymized source (codes " ") path a) (flat_map further (filter is_labelled marks))
    one (each-flat_map IsUnlisted refl further
    (λ b. line-free _ (span_text-free anonymized source indent None b (further_indent-each IsUnlisted printable-free path)))
    (filter is_labelled marks))

-- a cause holds none
pub cause-free : (begun anonymized : Bool) (s : Snippet Annotation) → All (λ c. is_listed c ≡ false) (plain_from begun (cause_form anonymized s))
unfolding cause_form
cause-free begun anonymized s =
    spans-free anonymized (numbered_source s) (option_map cow_str_bytes s.path) (named_spans s.markers.items) begun

-- nor what it puts there
picture-free : (c : ℕ) → IsUnlisted c → IsUnlisted (picture_of c)
picture-free c free = of_feed (c == 10)
  where
    of_feed : (feed : Bool) → IsUnlisted (if feed then 0x240A else c)
    of_feed true = refl
    of_feed false = free

pictures-free : (cs : List ℕ) → AreFree cs → AreFree (with_line_feeds_shown cs)
pictures-free [] free = All-nil IsUnlisted
pictures-free (c ∷ cs) free = All-cons IsUnlisted _ _ (picture-free c (All-head IsUnlisted c cs free)) (pictures-free cs (All-tail IsUnlisted c cs free))

added_text-free : (feeds : Bool) (e : Edit) → AreFree (added_text feeds e)
added_text-free true e =
    pictures-free (norm (chars (without_final_line_feeds e.text))) (norm-free (chars (without_final_line_feeds e.text)))
added_text-free false e = norm-free (chars (without_final_line_feeds e.text))

added_free : (feeds : Bool) (source : List ℕ) (e : Edit) → FormIsFree (added_form feeds source e)
added_free feeds source e = of_blank (is_blank_text e.text)
  where
    before : List ℕ
    before = before_added source e

    text : List ℕ
    text = added_text feeds e

    of_blank : (blank : Bool) → FormIsFree (if blank then [] else bare before ++ styled Addition text)
    of_blank true = each-nil IsUnlisted refl
    of_blank false =
        each-append IsUnlisted refl (bare before) (styled Addition text)
        (each-bare IsUnlisted refl before (before_added-each IsUnlisted printable-free source e))
        (each-styled IsUnlisted refl Addition None text (added_text-free feeds e))

edit-free : (settings : SuggestionSettings) (source : Source) (indent : List ℕ) (path : Option (List ℕ)) → AreFree indent → (e : Edit)
    → FormIsFree (edit_form settings source indent path e)
edit-free settings source indent path free e =
    let at = locations_of source e.start e.end in
    let place : List ℕ = edit_place settings.anonymized source path e at.0 at.1 in
    let front : List ℕ = indent ++ place in
    let placed : AreFree place = edit_place-each IsUnlisted printable-free settings.anonymized source path e at.0 at.1 (path-free path) in
    let line : FormIsFree (bare front) = each-bare IsUnlisted refl front (free-append indent place free placed) in
    let added : List FormPiece = added_form settings.show_line_feeds source.text e in
    each-break IsUnlisted refl (bare front ++ added)
    (each-append IsUnlisted refl (bare front) added line (added_free settings.show_line_feeds source.text e))

option-free : (option : Option ℕ) → FormIsFree (option_form option)
option-free None = each-nil IsUnlisted refl
option-free (Some number) =
    line-free (codes " option " ++ decimal number) (free-append (codes " option ") (decimal number) (each-fails is_listed (codes " option ") refl)
    (decimal-each IsUnlisted printable-free number))

-- a suggestion holds none, nor does a place without source
pub suggestion-free : (begun : Bool) (settings : SuggestionSettings) (at : SuggestionContext) (s : Snippet Patch)
    → All (λ c. is_listed c ≡ false) (plain_from begun (suggestion_form settings at s))
unfolding suggestion_form
suggestion-free begun settings at s =
    let source : Source = numbered_source s in
    let path : Option (List ℕ) = named_path at.names_path (option_map cow_str_bytes s.path) in
    let edits : Edit → List FormPiece = edit_form settings source (edit_indent at.option) path in
    each-append IsUnlisted refl (option_form at.option) (flat_map edits (given.trimmed_of s)) (option-free at.option)
    (each-flat_map IsUnlisted refl edits (edit-free settings source _ path (edit_indent-each IsUnlisted printable-free at.option)) (given.trimmed_of s)) begun

-- the text form of an origin holds no listed character
pub origin-free : (begun anonymized : Bool) (o : Origin) → All (λ c. is_listed c ≡ false) (plain_from begun (origin_form anonymized o))
unfolding origin_form
origin-free begun anonymized o =
    let text : List ℕ = place_in_file anonymized (cow_str_bytes o.path) o.line o.char_column in
    line-free (codes " " ++ text) (free-append (codes " ") text (each-fails is_listed (codes " ") refl)
    (place_in_file-each IsUnlisted printable-free anonymized (cow_str_bytes o.path) o.line o.char_column (norm-free (chars (cow_str_bytes o.path))))) begun

-- what holds of each character that isn't listed, and of each of a heading's text, holds of all of the heading
module _ (P : ℕ → Type 0) (free : (c : ℕ) → IsUnlisted c → P c) where
  bare-all : (text : List ℕ) → AreFree text → EachPlain P (bare text)
  bare-all text all = each-bare P (free 10 refl) text (All-weaker IsUnlisted P free text all)

  styled-all : (role : ElementStyle) (link : Option (List ℕ)) (text : List ℕ) → AreFree text → EachPlain P (Styled role link text ∷ [])
  styled-all role link text all =
      each-styled P (free 10 refl) role link text (All-weaker IsUnlisted P free text all)

  name-all : (kind : HeadingKind) (role : ElementStyle) (level : Level) → EachPlain P (name_form kind role level)
  name-all kind role level = of_hidden (is_hidden level.name)
    where
      name : List ℕ
      name = norm (chars (name_of level))

      of_hidden : (hidden : Bool) → EachPlain P (if hidden then [] else bare (before_name kind) ++ styled role name)
      of_hidden true = each-nil P (free 10 refl)
      of_hidden false =
          each-append P (free 10 refl) (bare (before_name kind)) (styled role name)
          (bare-all (before_name kind) (before_name-each IsUnlisted printable-free kind))
          (styled-all role None name (norm-free (chars (name_of level))))

  id_text-all : (hidden : Bool) (role : ElementStyle) (address text : Option (List ℕ)) → EachPlain P (id_text_form hidden role address text)
  id_text-all hidden role address None = each-nil P (free 10 refl)
  id_text-all hidden role address (Some text) =
      let shown : List ℕ = norm (chars text) in
      each-append P (free 10 refl) (bare (before_id hidden)) (linking role address shown)
      (bare-all (before_id hidden) (before_id-each IsUnlisted printable-free hidden))
      (styled-all role (link_for address shown) shown (norm-free (chars text)))

  id-all : (hyperlink hidden : Bool) (role : ElementStyle) (id : Option Id) → EachPlain P (id_form hyperlink hidden role id)
  id-all hyperlink hidden role None = each-nil P (free 10 refl)
  id-all hyperlink hidden role (Some id) =
      id_text-all hidden role (address_of hyperlink id) (option_map cow_str_bytes id.id)

  colon-if : (role : ElementStyle) (bare : Bool) → EachPlain P (if bare then [] else styled role (codes ": "))
  colon-if role true = each-nil P (free 10 refl)
  colon-if role false = styled-all role None (codes ": ") (each-fails is_listed (codes ": ") refl)

  colon-all : (role : ElementStyle) (hidden : Bool) (id : Option Id) → EachPlain P (colon_form role hidden id)
  colon-all role hidden id = colon-if role (hidden && not (is_set id))

  label-all : (hyperlink : Bool) (kind : HeadingKind) (roles : HeadingRoles) (heading : Heading) → EachPlain P (label_form hyperlink kind roles heading)
  label-all hyperlink kind roles heading =
      let hidden : Bool = is_hidden heading.level.name in
      let id : List FormPiece = id_form hyperlink hidden roles.label heading.id in
      let colon : List FormPiece = colon_form roles.colon hidden heading.id in
      each-append P (free 10 refl) (name_form kind roles.label heading.level) (id ++ colon) (name-all kind roles.label heading.level)
      (each-append P (free 10 refl) id colon (id-all hyperlink hidden roles.label heading.id) (colon-all roles.colon hidden heading.id))

  further-all : (role : ElementStyle) (width : ℕ) (lines : List (List ℕ)) → All (All P) lines → EachPlain P (flat_map (further_line role width) lines)
  further-all role width [] all = each-nil P (free 10 refl)
  further-all role width (line ∷ lines) all =
      let front : List ℕ = 10 ∷ replicate width 32 in
      let indent : All P front = All-cons P 10 (replicate width 32) (free 10 refl) (All-replicate P width 32 (free 32 refl)) in
      let one : EachPlain P (further_line role width line) = each-append P (free 10 refl) (bare front) (styled role line)
      (each-bare P (free 10 refl) front indent) (each-styled P (free 10 refl) role None line (All-head (All P) line lines all)) in
      each-append P (free 10 refl) (further_line role width line) (flat_map (further_line role width) lines) one
      (further-all role width lines (All-tail (All P) line lines all))

  lines_all : (role : ElementStyle) (width : ℕ) (lines : List (List ℕ)) → All (All P) lines → EachPlain P (lines_form role width lines)
  lines_all role width [] all = each-nil P (free 10 refl)
  lines_all role width (line ∷ lines) all =
      each-append P (free 10 refl) (styled role line) (flat_map (further_line role width) lines)
      (each-styled P (free 10 refl) role None line (All-head (All P) line lines all)) (further-all role width lines (All-tail (All P) line lines all))

  heading-all : (hyperlink : Bool) (kind : HeadingKind) (heading : Heading) → All P (shown_text heading) → EachPlain P (heading_form hyperlink kind heading)
  unfolding heading_form
  heading-all hyperlink kind heading all =
      let roles : HeadingRoles = text_roles_of kind heading.level.kind heading.allows_styling in
      let width : ℕ = width_of (heading_label kind heading) in
      let label : List FormPiece = label_form hyperlink kind roles heading in
      let lines : List FormPiece = lines_form roles.text width (heading_lines heading) in
      each-break P (free 10 refl) (label ++ lines) (each-append P (free 10 refl) label lines (label-all hyperlink kind roles heading)
      (lines_all roles.text width (heading_lines heading) (All-slice_split P (λ c. c == 10) (shown_text heading) all)))

-- a listed character in the text form of a heading is of its own text, and that may be styled
pub heading-free : (begun hyperlink : Bool) (kind : HeadingKind) (heading : Heading)
    → All (λ c. is_listed c ≡ true → (heading.allows_styling ≡ true) × Contains (chars heading.text) c) (plain_from begun (heading_form hyperlink kind heading))
heading-free begun hyperlink kind heading =
    heading-all (IsOwn heading) (own_unlisted heading) hyperlink kind heading (own_text heading heading.allows_styling refl) begun

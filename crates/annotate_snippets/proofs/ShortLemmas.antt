-- The parts of the short form: a group's first annotated snippet, the place before the title, and the labels after it.
use Rattle.std.proofs.lemmas.Grind.{common_steps}
use Rattle.annotate_snippets.proofs.Common.{◌≡◌, ◌≢◌, ℕ, ◌+◌, ◌*◌, ◌<◌, ◌≤◌, ◌^◌, ◌==◌, ◌∙◌, Bool, true, false, Option, None, Some, Result, Ok, Err, IfSome}
use Rattle.annotate_snippets.proofs.Common.{List, [], ◌∷◌, ◌++◌, All, cond, get_or, if◌then◌else◌, length, take, suc, arith, ap, refl, sym, is_whitespace}
use Rattle.annotate_snippets.proofs.Common.{cow_str_bytes, flat_map, list_all, OnOk, is_ok, IsAscii, IsUtf8, Global, CowStr, nat_tests, flat_map-append}
use Rattle.annotate_snippets.proofs.Common.{append-nil, append_assoc, length-append, take_more, All-head, All-tail, filter-append, filter_map-append}
use Rattle.annotate_snippets.proofs.Common.{IsUtf8-append, IsUtf8-from_ascii, chars-append, chars-IsAscii, IsAscii-cons, IsAscii-nil, AnnotationFits}
use Rattle.annotate_snippets.proofs.Common.{ElementFits, SnippetFits, Annotation, Primary, Element, Message, Cause, Suggestion, Origin, Padding, Group, Snippet}
use Rattle.annotate_snippets.proofs.Common.{annotated_lines, is_empty-chars, length-chars_le, norm, length-norm, column_text, line_name, line_text, origin_text}
use Rattle.annotate_snippets.proofs.Common.{OriginLocation, path_bytes, numbered_source, IsDrawable, IsElementDrawable, IsGroupDrawable, first_cause}
use Rattle.annotate_snippets.proofs.Common.{joined_labels, place_named, place_of_cause, place_of_path, primary_labels, Renderer}
use Rattle.std.proofs.Common.{chars}
use Rattle.annotate_snippets.proofs.RoomLemmas.{digits}

-- ---- labels

-- those of some spans, and of others after them
pub primary_labels-append : (xs ys : List Annotation) → primary_labels (xs ++ ys) ≡ primary_labels xs ++ primary_labels ys
primary_labels-append xs ys = grind (arith, filter-append, filter_map-append)

-- those of one more span
pub primary_labels-more : (marks : List Annotation) (i : ℕ) (a : Annotation) → i < length marks → a ≡ get_or marks i a
    → primary_labels (take i marks) ++ primary_labels (a ∷ []) ≡ primary_labels (take (i + 1) marks)
primary_labels-more marks i a within is = grind (arith, common_steps, primary_labels-append, take_more)

-- that of a primary span
pub primary_labels-one : (a : Annotation) (t : CowStr Global) (label : List ℕ) (blank : Bool) → a.kind ≡ Primary → a.label ≡ Some t
    → label ≡ norm (chars (cow_str_bytes t)) → list_all is_whitespace label ≡ blank → primary_labels (a ∷ []) ≡ cond blank [] (label ∷ [])
primary_labels-one a t label true kind has is blank = rw (kind, has, ← is, blank) refl
primary_labels-one a t label false kind has is blank = rw (kind, has, ← is, blank) refl

-- a string that a text is added to, if there is memory
pub on_added : {T E P : Type 0} (r : Result T E) (new both old : List ℕ) → new ≡ (if is_ok r then both else old) → (new ≡ both → P) → OnOk r P
on_added (Ok x) new both old is known = known is
on_added (Err e) new both old is known = tt

-- what a text of labels goes on with
abbrev pub lead : Bool → List ℕ
lead true = 58 ∷ 32 ∷ []
lead false = 44 ∷ 32 ∷ []

-- a number that is one more is not 0
some : (n : ℕ) → true ≡ (suc n == 0) → ⊥
some n is = grind (arith, nat_tests)

-- one more label
joined_labels-last : (labels : List (List ℕ)) (label : List ℕ) (empty : Bool) → empty ≡ (length (joined_labels labels) == 0)
    → joined_labels (labels ++ label ∷ []) ≡ joined_labels labels ++ (lead empty ++ label)
joined_labels-last [] label true is = ap (λ l. 58 ∷ 32 ∷ l) (append-nil label)
joined_labels-last [] label false is = cc
joined_labels-last (first ∷ labels) label true is = absurd (some (length (32 ∷ (first ++ flat_map (λ l. 44 ∷ 32 ∷ l) labels))) is)
joined_labels-last (first ∷ labels) label false is = grind (arith, flat_map-append, append-nil, append_assoc)

lead-ascii : (empty : Bool) → IsAscii (lead empty)
lead-ascii true = IsAscii-cons 58 (32 ∷ []) (omega arith) (IsAscii-cons 32 [] (omega arith) IsAscii-nil)
lead-ascii false = IsAscii-cons 44 (32 ∷ []) (omega arith) (IsAscii-cons 32 [] (omega arith) IsAscii-nil)

lead-chars : (empty : Bool) → chars (lead empty) ≡ lead empty
lead-chars empty = chars-IsAscii (lead empty) (lead-ascii empty)

-- a text of labels that goes on with one more
pub joined_labels-added : (labels : List (List ℕ)) (old sep new label : List ℕ) (empty : Bool) → IsUtf8 old → chars old ≡ joined_labels labels
    → empty ≡ (length old == 0) → sep ≡ old ++ lead empty → new ≡ sep ++ label → chars new ≡ joined_labels (labels ++ chars label ∷ [])
joined_labels-added labels old sep new label empty text are none led added =
    let first : chars (old ++ lead empty) ≡ joined_labels labels ++ lead empty = grind (arith, common_steps, chars-append, chars, lead-chars) in
    let nothing : empty ≡ (length (joined_labels labels) == 0) = none ∙ is_empty-chars old text ∙ ap (λ cs. length cs == 0) are in
    ap chars (added ∙ ap (λ t. t ++ label) led)
    ∙ chars-append (old ++ lead empty) label (IsUtf8-append old (lead empty) text (IsUtf8-from_ascii (lead empty) (lead-ascii empty)))
    ∙ ap (λ cs. cs ++ chars label) first ∙ append_assoc (joined_labels labels) (lead empty) (chars label)
    ∙ sym (joined_labels-last labels (chars label) empty nothing)

-- ---- the place before the title

-- the numbers of a place fit
abbrev pub PlaceFits : OriginLocation → Type 0
PlaceFits place = IfSome place.line (λ n. n < 2 ^ 64) × IfSome place.column (λ n. n < 2 ^ 64)

line_name-short : (anonymized : Bool) (line : ℕ) → line < 2 ^ 64 → length (line_name anonymized line) ≤ 20
line_name-short true line small = omega arith
line_name-short false line small = digits line small

column_text-short : (column : Option ℕ) → IfSome column (λ n. n < 2 ^ 64) → length (column_text column) ≤ 21
column_text-short None small = omega arith
column_text-short (Some column) small = omega (arith, digits column small)

line_text-short : (anonymized : Bool) (line column : Option ℕ) → IfSome line (λ n. n < 2 ^ 64) → IfSome column (λ n. n < 2 ^ 64)
    → length (line_text anonymized line column) ≤ 42
line_text-short anonymized None column line_small column_small = omega arith
line_text-short anonymized (Some line) column line_small column_small = grind (arith, length-append, line_name-short, column_text-short)

origin_text-short : (anonymized : Bool) (path : List ℕ) (place : OriginLocation) → PlaceFits place
    → length (origin_text anonymized path place) ≤ 4 * length path + 42
unfolding origin_text
origin_text-short anonymized path place fits =
    grind (arith, length-append, length-norm, length-chars_le, line_text-short, place.line, place.column, fits.0, fits.1)

-- a path with a place, and a colon after it
pub place-added : (text new shown : List ℕ) → IsUtf8 text → chars text ≡ shown → new ≡ text ++ 58 ∷ 32 ∷ [] → chars new ≡ shown ++ 58 ∷ 32 ∷ []
place-added text new shown utf8 is added = cc (added, chars-append text (58 ∷ 32 ∷ []) utf8, is, lead-chars true)

-- a place with its colon has room, where its path and its numbers fit
pub place-short : (anonymized : Bool) (path : List ℕ) (place : OriginLocation) (new : List ℕ) → length path < 2 ^ 56 → PlaceFits place
    → chars new ≡ origin_text anonymized path place ++ 58 ∷ 32 ∷ [] → length (chars new) < 2 ^ 59
place-short anonymized path place new short fits is =
    omega (arith, short, ap length is, length-append (origin_text anonymized path place) (58 ∷ 32 ∷ []), origin_text-short anonymized path place fits)

-- it is the place of its snippet
pub origin_text-place_of_cause : (r : Renderer) (s : Snippet Annotation) (path : List ℕ) (place : OriginLocation) → path_bytes s.path ≡ Some path
    → place ≡ place_named true (annotated_lines s.fold (numbered_source s) s.markers.items)
    → origin_text r.anonymized_origin_line_numbers path place ++ 58 ∷ 32 ∷ [] ≡ place_of_cause r (Some s)
origin_text-place_of_cause r s path place has is = cc (is, has)

-- a snippet without a path has none
pub place-of_none : (r : Renderer) (s : Snippet Annotation) (path : Option (CowStr Global)) → ((p : CowStr Global) → path ≢ Some p)
    → place_of_path r s (path_bytes path) ≡ []
place-of_none r s None none = refl
place-of_none r s (Some path) none = absurd (none path refl)

-- ---- what holds of each element holds of the first annotated snippet

first_cause-each : (P : Element → Type 0) (es : List Element) → All P es → IfSome (first_cause es) (λ s. P (Cause s))
first_cause-each P [] all = tt
first_cause-each P (Message m ∷ es) all = first_cause-each P es (All-tail P (Message m) es all)
first_cause-each P (Cause s ∷ es) all = All-head P (Cause s) es all
first_cause-each P (Suggestion s ∷ es) all = first_cause-each P es (All-tail P (Suggestion s) es all)
first_cause-each P (Origin o ∷ es) all = first_cause-each P es (All-tail P (Origin o) es all)
first_cause-each P (Padding p ∷ es) all = first_cause-each P es (All-tail P (Padding p) es all)

-- the first snippet of a group that can be drawn can be drawn
pub first_cause-drawable : (g : Group) → IsGroupDrawable g → IfSome (first_cause g.elements.items) IsDrawable
first_cause-drawable g drawable = first_cause-each IsElementDrawable g.elements.items drawable.1

-- the first snippet of a group that can be drawn fits
pub first_cause-fits : (g : Group) → IsGroupDrawable g → IfSome (first_cause g.elements.items) (SnippetFits AnnotationFits)
first_cause-fits g drawable = first_cause-each ElementFits g.elements.items drawable.0.1

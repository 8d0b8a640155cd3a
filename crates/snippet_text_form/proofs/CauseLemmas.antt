-- Named spans: their order, what holds of each, and the texts that are added for several.
use Rattle.std.proofs.lemmas.Grind.{common_steps}
use Rattle.snippet_text_form.proofs.Common.{◌≡◌, ℕ, suc, ◌==◌, Bool, true, false, cond, not, eqb, ltb, Option, None, List, [], ◌∷◌, ◌++◌}
use Rattle.snippet_text_form.proofs.Common.{length, map, filter, All, codes, encode_utf8_all, refl, sym, ap, ◌∙◌, arith, cond-true, cond-false, nat_tests}
use Rattle.snippet_text_form.proofs.Common.{append-nil, map-append, All-nil, All-cons, All-head, All-tail, All-filter, chars-nil, encodes-chars}
use Rattle.snippet_text_form.proofs.Common.{IsStrictWeakOrder, cow_str_bytes, flat_map, IsSortedBy, IsStableBy, option_map, is_lt, ordering_then, nat_cmp}
use Rattle.snippet_text_form.proofs.Common.{IsUtf8, Source, ordered_by, locations_of, Loc, sorted-only, map-ordered_by, Annotation, Snippet, is_marking}
use Rattle.snippet_text_form.proofs.Common.{after_place, cause_form, is_named_before, further_indent, is_labelled, label_characters, named_spans, span_form}
use Rattle.snippet_text_form.proofs.Common.{span_place, spans_form, numbered_source, FormPiece, Break, bare, place, NamedSpan, All-order}
use Rattle.std.proofs.Common.{append_assoc}
use Rattle.std.specs.Str.{chars}

-- ---- the order

-- the code's comparison of two pairs is that of the definition
pub compare-tells : (a b c d : ℕ) → is_lt (ordering_then (nat_cmp a c) (nat_cmp b d)) ≡ cond (eqb a c) (ltb b d) (ltb a c)
compare-tells a b c d = grind (arith, nat_tests)

one_way : (a b c d : ℕ) → cond (eqb a c) (ltb b d) (ltb a c) ≡ true → cond (eqb c a) (ltb d b) (ltb c a) ≡ false
one_way a b c d h = grind (arith, nat_tests)

chained : (a b c d e f : ℕ) → cond (eqb a c) (ltb b d) (ltb a c) ≡ false → cond (eqb c e) (ltb d f) (ltb c e) ≡ false
    → cond (eqb a e) (ltb b f) (ltb a e) ≡ false
chained a b c d e f h k = grind (arith, nat_tests)

pub comes_before-order : IsStrictWeakOrder is_named_before
comes_before-order = grind (arith, one_way)

-- the annotation of a named span
abbrev pub annotation_of : NamedSpan → Annotation
annotation_of s = s.annotation.now

-- which of two named spans comes first
abbrev pub span_before : NamedSpan → NamedSpan → Bool
span_before a b = is_named_before (annotation_of a) (annotation_of b)

-- which of two named spans comes first is an order
pub span_before-order : IsStrictWeakOrder span_before
span_before-order = grind (arith, one_way, comes_before-order)

-- what a stable sort makes of the spans that are marked
pub named_spans-is : (given sorted : List NamedSpan) (marks : List Annotation) → IsSortedBy span_before sorted → IsStableBy span_before given sorted
    → map annotation_of given ≡ filter (λ a. is_marking a.kind) marks → map annotation_of sorted ≡ named_spans marks
named_spans-is given sorted marks up stable are =
    ap (map annotation_of) (sorted-only span_before span_before-order given sorted up stable) ∙ map-ordered_by annotation_of is_named_before given
    ∙ ap (ordered_by is_named_before) are

-- ---- what holds of each

-- what holds of each annotation holds of each named span
pub All-named_spans : (P : Annotation → Type 0) (marks : List Annotation) → All P marks → All P (named_spans marks)
All-named_spans P marks all =
    All-order is_named_before P (filter (λ a. is_marking a.kind) marks) (All-filter (λ a. is_marking a.kind) P marks all)

-- what holds of the annotations of spans holds of each span's
pub All-annotations : (P : Annotation → Type 0) (spans : List NamedSpan) → All P (map annotation_of spans) → All (λ s. P (annotation_of s)) spans
All-annotations P [] all = All-nil (λ s. P (annotation_of s))
All-annotations P (s ∷ spans) all =
    All-cons (λ t. P (annotation_of t)) s spans (All-head P (annotation_of s) (map annotation_of spans) all)
    (All-annotations P spans (All-tail P (annotation_of s) (map annotation_of spans) all))

-- ---- what is added

-- four texts, one after the other
pub bare-four : (old one two three four : List FormPiece) (a b c d : List ℕ) → one ≡ old ++ bare a → two ≡ one ++ bare b → three ≡ two ++ bare c
    → four ≡ three ++ bare d → four ≡ old ++ bare (a ++ b ++ c ++ d)
bare-four old one two three four a b c d first second third fourth =
    fourth ∙ ap (λ l. l ++ bare d) (third ∙ ap (λ l. l ++ bare c) (second ∙ ap (λ l. l ++ bare b) first)) ∙ joined
  where
    joined : (((old ++ bare a) ++ bare b) ++ bare c) ++ bare d ≡ old ++ bare (a ++ b ++ c ++ d)
    joined = simp (append_assoc, map-append)

-- ---- a span that is added

-- a break, an indent and a place
pub place-added : (old one two three : List FormPiece) (indent place : List ℕ) → one ≡ old ++ Break ∷ [] → two ≡ one ++ bare indent → three ≡ two ++ bare place
    → three ≡ old ++ Break ∷ bare (indent ++ place)
place-added old one two three indent place first second third =
    third ∙ ap (λ l. l ++ bare place) (second ∙ ap (λ l. l ++ bare indent) first) ∙ joined
  where
    joined : ((old ++ Break ∷ []) ++ bare indent) ++ bare place ≡ old ++ Break ∷ bare (indent ++ place)
    joined = simp (append_assoc, map-append)

-- a span at its place
placed : (anonymized : Bool) (source : Source) (indent : List ℕ) (path : Option (List ℕ)) (a : Annotation) (at : Loc × Loc) (old : List FormPiece)
    → at ≡ locations_of source a.span.start a.span.end
    → old ++ Break ∷ bare ((indent ++ span_place anonymized source path at.0 at.1) ++ after_place (label_characters a))
    ≡ old ++ span_form anonymized source indent path a
placed anonymized source indent path a at old is =
    ap (λ (p : Loc × Loc). old ++ Break ∷ bare ((indent ++ span_place anonymized source path p.0 p.1) ++ after_place (label_characters a))) is

-- a span without a label
pub span-plain : (anonymized : Bool) (source : Source) (indent : List ℕ) (path : Option (List ℕ)) (a : Annotation) (at : Loc × Loc)
    (old one two three : List FormPiece) → at ≡ locations_of source a.span.start a.span.end → one ≡ old ++ Break ∷ [] → two ≡ one ++ bare indent
    → three ≡ two ++ bare (span_place anonymized source path at.0 at.1) → is_labelled a ≡ false
    → three ≡ old ++ span_form anonymized source indent path a
span-plain anonymized source indent path a at old one two three is first second third none = grind (arith, cond-false, append-nil, place-added, at.0, at.1)

-- a span with a label
pub span-labelled : (anonymized : Bool) (source : Source) (indent : List ℕ) (path : Option (List ℕ)) (a : Annotation) (at : Loc × Loc)
    (old one two three four five : List FormPiece) → at ≡ locations_of source a.span.start a.span.end → one ≡ old ++ Break ∷ []
    → two ≡ one ++ bare indent → three ≡ two ++ bare (span_place anonymized source path at.0 at.1) → four ≡ three ++ bare (codes ": ")
    → five ≡ four ++ bare (label_characters a) → is_labelled a ≡ true → five ≡ old ++ span_form anonymized source indent path a
span-labelled anonymized source indent path a at old one two three four five is first second third fourth fifth some =
    grind (arith, common_steps, cond-true, place-added, joined, placed)
  where
    joined : (front colon label : List ℕ) → ((old ++ Break ∷ bare front) ++ bare colon) ++ bare label ≡ old ++ Break ∷ bare (front ++ (colon ++ label))
    joined front colon label = simp (append_assoc, map-append)

-- ---- spans after the first

-- a span without a label adds nothing
pub further-none : (form : Annotation → List FormPiece) (old : List FormPiece) (a : Annotation) → is_labelled a ≡ false
    → old ≡ old ++ flat_map form (filter is_labelled (a ∷ []))
further-none form old a none =
    sym (ap (λ l. old ++ flat_map form l) (cond-false (is_labelled a) (a ∷ []) [] none) ∙ append-nil old)

-- a span with a label adds its form
pub further-one : (form : Annotation → List FormPiece) (old new : List FormPiece) (a : Annotation) → is_labelled a ≡ true → new ≡ old ++ form a
    → new ≡ old ++ flat_map form (filter is_labelled (a ∷ []))
further-one form old new a some added =
    added ∙ ap (λ l. old ++ l) (sym (ap (flat_map form) (cond-true (is_labelled a) (a ∷ []) [] some) ∙ append-nil (form a)))

-- the first span and those after it
pub spans-added : (anonymized : Bool) (source : Source) (path : Option (List ℕ)) (old one new : List FormPiece) (spans others so_far : List NamedSpan)
    (first : NamedSpan) (indent : List ℕ) → spans ≡ first ∷ others → one ≡ old ++ span_form anonymized source (codes " ") path (annotation_of first)
    → indent ≡ further_indent path → so_far ≡ others
    → new ≡ one ++ flat_map (span_form anonymized source indent None) (filter is_labelled (map annotation_of so_far))
    → new ≡ old ++ spans_form anonymized source path (map annotation_of spans)
spans-added anonymized source path old one new spans others so_far first indent parts begun by all added = grind (arith, append_assoc)

-- without spans the place where the source begins
pub no_span-added : (anonymized : Bool) (source : Source) (path : Option (List ℕ)) (old one two three : List FormPiece) (spans : List NamedSpan)
    (line : ℕ) → line ≡ source.first → one ≡ old ++ Break ∷ [] → two ≡ one ++ bare (codes " ") → three ≡ two ++ bare (place anonymized path line None)
    → spans ≡ [] → three ≡ old ++ spans_form anonymized source path (map annotation_of spans)
no_span-added anonymized source path old one two three spans line number first second third none = grind (arith, common_steps, place-added)

-- the whole snippet
pub cause-added : (anonymized : Bool) (source : Source) (path : Option (List ℕ)) (spans : List Annotation) (s : Snippet Annotation)
    (old new : List FormPiece) → source ≡ numbered_source s → path ≡ option_map cow_str_bytes s.path → spans ≡ named_spans s.markers.items
    → new ≡ old ++ spans_form anonymized source path spans → new ≡ old ++ cause_form anonymized s
unfolding cause_form
cause-added anonymized source path spans s old new its by are added = grind (arith, s.path)

-- ---- texts of labels

-- a text has characters where it has bytes
pub is_shown-chars : (bytes : List ℕ) → IsUtf8 bytes → not (length bytes == 0) ≡ ltb 0 (length (chars bytes))
is_shown-chars [] utf8 = sym (ap (λ cs. ltb 0 (length cs)) chars-nil)
is_shown-chars (b ∷ bs) utf8 = filled (length bs) ∙ sym (some (chars (b ∷ bs)) (encodes-chars (b ∷ bs) utf8))
  where
    filled : (n : ℕ) → not (suc n == 0) ≡ true
    filled n = grind (arith, nat_tests)

    some : (cs : List ℕ) → encode_utf8_all cs ≡ b ∷ bs → ltb 0 (length cs) ≡ true
    some [] same = absurd (cc)
    some (c ∷ cs) same = grind (arith, nat_tests)

-- the characters of the bytes that the code writes for two spaces
pub two-spaces : chars (32 ∷ 32 ∷ []) ≡ codes "  "
unfolding chars
two-spaces = refl

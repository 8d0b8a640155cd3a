-- A report whose controls are masked: what it has in common with the one in whose place it is shown, and that no trusted text of it holds a
-- listed character.
use Rattle.std.proofs.lemmas.Grind.{common_steps}
use Rattle.annotate_snippets.proofs.Common.{◌≡◌, ◌∙◌, ℕ, ◌+◌, ◌==◌, Bool, true, false, List, [], ◌∷◌, ◌++◌, Option, None, Some, All, IfSome, if◌then◌else◌, not}
use Rattle.annotate_snippets.proofs.Common.{nat_lt, arith, map, refl, sym, ap, ap₂, subst, false≢true, nat_tests, All-append, All-cons, All-head, All-nil}
use Rattle.annotate_snippets.proofs.Common.{All-tail, All-weaker, sum_by-cons, cow_str_bytes, AllZip, flat_map, position_from, option_map, option_to_list}
use Rattle.annotate_snippets.proofs.Common.{Global, CowStr, Range, span_fault, shown_name, SameOption, trusted_of_element, trusted_of_title, trusted_texts}
use Rattle.annotate_snippets.proofs.Common.{Level, LevelName, Own, Annotation, Element, Message, Cause, Suggestion, Origin, Padding, Group, Id, Patch, Snippet}
use Rattle.annotate_snippets.proofs.Common.{Title, IsAnnotationMasked, IsElementMasked, IsGroupMasked, IsIdMasked, IsLevelMasked, IsTitleMasked, IsNameMasked}
use Rattle.annotate_snippets.proofs.Common.{IsPatchMasked, IsSnippetMasked, is_masked, IsTextMasked, mask_of, masked, IsGroupTaken, IsAnyTitle, Edit, edit_of}
use Rattle.annotate_snippets.proofs.Common.{first_overlap, first_overlap_from, overlap, LevelInner, list_any-norm, shown-unlisted, is_listed, norm, shown}
use Rattle.annotate_snippets.proofs.Common.{each-fails, id_links, text_links, is_drawn, added_lines, element_faults, span_faults, HasOneLineTexts}
use Rattle.std.proofs.Common.{append-nil, chars}
use Rattle.annotate_snippets.proofs.AlignedLemmas.{aligned-fault, aligned-feeds, aligned-lines}
use Rattle.annotate_snippets.proofs.OneLineTexts.{IsNoFeed, IsOneLineElement, IsOneLineId, IsOneLineLabel, IsOneLineName, IsOneLineText}
use Rattle.annotate_snippets.proofs.PairedLemmas.{all-over, faults-same, zip-length}
use Rattle.annotate_snippets.proofs.RemadeLemmas.{IsFaithful, IsOf, IsTextOf, line-made, trusted-zip}

-- ---- faults

-- whether edits overlap doesn't depend on their texts
abbrev bare : Edit → Edit
bare e = record { start = e.start; end = e.end; text = [] }

position-bare : (d : Edit) (n : ℕ) (es : List Edit) → position_from (overlap (bare d)) n (map bare es) ≡ position_from (overlap d) n es
position-bare d n [] = refl
position-bare d n (e ∷ es) = ap (λ (later : Option ℕ). if overlap d e then Some n else later) (position-bare d (n + 1) es)

overlaps-bare : (n : ℕ) (es : List Edit) → first_overlap_from n (map bare es) ≡ first_overlap_from n es
overlaps-bare n [] = refl
overlaps-bare n (e ∷ es) = grind (arith, overlaps-bare (n + 1) es, ap₂, position-bare)

bare-same : (ps qs : List Patch) → AllZip IsPatchMasked ps qs → map bare (map edit_of qs) ≡ map bare (map edit_of ps)
bare-same [] [] pairs = refl
bare-same [] (q ∷ qs) pairs = absurd pairs
bare-same (p ∷ ps) [] pairs = absurd pairs
bare-same (p ∷ ps) (q ∷ qs) pairs =
    ap₂ (λ (span : Range ℕ) (es : List Edit). record { start = span.start; end = span.end; text = [] } ∷ es) pairs.0.0 (bare-same ps qs pairs.1)

overlap-same : (ps qs : List Patch) → AllZip IsPatchMasked ps qs → first_overlap (map edit_of qs) ≡ first_overlap (map edit_of ps)
unfolding first_overlap
overlap-same ps qs pairs = sym (overlaps-bare 0 (map edit_of qs)) ∙ ap (first_overlap_from 0) (bare-same ps qs pairs) ∙ overlaps-bare 0 (map edit_of ps)

-- patches add as many lines
added-same : (ps qs : List Patch) → AllZip IsPatchMasked ps qs → added_lines qs ≡ added_lines ps
added-same [] [] pairs = refl
added-same [] (q ∷ qs) pairs = absurd pairs
added-same (p ∷ ps) [] pairs = absurd pairs
added-same (p ∷ ps) (q ∷ qs) pairs =
    grind (arith, common_steps, added-same ps qs pairs.1, sum_by-cons, ap₂, aligned-feeds, p.replacement, q.replacement, pairs.0.1.1, pairs.1)

module _ (group element : ℕ) where
  -- a span has the faults that it had
  span-same : (n : ℕ) (source text : List ℕ) (given span : Range ℕ) → ((start end : ℕ) → span_fault text start end ≡ span_fault source start end) → span ≡ given
      → span_faults group element text n span ≡ span_faults group element source n given
  span-same n source text given span same is = grind (arith, given.start, given.end)

  cause-same : (a b : Snippet Annotation) → IsSnippetMasked IsAnnotationMasked a b
      → element_faults group element (Cause b) ≡ element_faults group element (Cause a)
  cause-same a b is = grind (arith, common_steps, faults-same, span-same, aligned-fault, aligned-lines)

  suggestion-same : (a b : Snippet Patch) → IsSnippetMasked IsPatchMasked a b
      → element_faults group element (Suggestion b) ≡ element_faults group element (Suggestion a)
  suggestion-same a b is = grind (arith, common_steps, faults-same, span-same, aligned-fault, overlap-same, aligned-lines, added-same)

  element-faults : (a b : Element) → IsElementMasked a b → element_faults group element b ≡ element_faults group element a
  element-faults (Message a) (Message b) is = refl
  element-faults (Cause a) (Cause b) is = cause-same a b is
  element-faults (Suggestion a) (Suggestion b) is = suggestion-same a b is
  element-faults (Origin a) (Origin b) is = refl
  element-faults (Padding a) (Padding b) is = refl
  element-faults a b is = absurd is

-- ---- links

-- a masked text shows something where the text does
text_links-after : (address : Option (List ℕ)) (front xs ys : List ℕ) → text_links address ys ≡ text_links address xs
    → text_links address (front ++ ys) ≡ text_links address (front ++ xs)
text_links-after address [] xs ys same = same
text_links-after address (c ∷ front) xs ys same = refl

unlisted-masked : (c : ℕ) → is_masked c ≡ true → is_listed c ≡ false
unlisted-masked c is = grind (arith, nat_tests)

unlisted-mask : (c : ℕ) → is_masked c ≡ true → is_listed (mask_of c) ≡ false
unlisted-mask c is = grind (arith, nat_tests)

links-mask : (address : Option (List ℕ)) (c : ℕ) (is : Bool) (xs ys : List ℕ) → is_masked c ≡ is → text_links address ys ≡ text_links address xs
    → text_links address (shown (mask_of c) ++ ys) ≡ text_links address (shown c ++ xs)
links-mask address c true xs ys is same = grind (arith, shown-unlisted, unlisted-mask, unlisted-masked)
links-mask address c false xs ys is same = grind (arith, nat_lt, text_links-after)

links-masked : (address : Option (List ℕ)) (cs : List ℕ) → text_links address (norm (masked cs)) ≡ text_links address (norm cs)
unfolding norm
links-masked address [] = refl
links-masked address (c ∷ cs) = links-mask address c (is_masked c) (flat_map shown cs) (flat_map shown (map mask_of cs)) refl (links-masked address cs)

links-id-text : (address : Option (List ℕ)) (a b : Option (CowStr Global)) → SameOption (IsTextMasked false) a b
    → text_links address (flat_map (λ (t : CowStr Global). norm (chars (cow_str_bytes t))) (option_to_list b))
    ≡ text_links address (flat_map (λ (t : CowStr Global). norm (chars (cow_str_bytes t))) (option_to_list a))
links-id-text address None None is = refl
links-id-text address None (Some b) is = cc
links-id-text address (Some a) None is = absurd is
links-id-text address (Some a) (Some b) is = grind (arith, append-nil, links-masked)

links-id : (a b : Option Id) → SameOption IsIdMasked a b → id_links true b ≡ id_links true a
links-id None None is = refl
links-id None (Some b) is = cc
links-id (Some a) None is = absurd is
links-id (Some a) (Some b) is = grind (arith, links-id-text, is.1, a.url, a.id, b.id, is.0)

-- ---- trusted texts

-- a text that holds no listed character
abbrev pub IsUnlisted : List ℕ → Type 0
IsUnlisted text = All (λ c. is_listed c ≡ false) (chars text)

trusted-unlisted : (a b : CowStr Global) → IsTextMasked true a b → IsUnlisted (cow_str_bytes b)
trusted-unlisted a b is =
    subst (All (λ c. is_listed c ≡ false)) (sym is)
    (each-fails is_listed (norm (masked (chars (cow_str_bytes a)))) (list_any-norm (masked (chars (cow_str_bytes a)))))

-- whatever holds of two texts where the second holds none, holds of trusted texts
module _ (Q : List ℕ → List ℕ → Type 0) (only : (x y : List ℕ) → IsUnlisted y → Q x y) where
  title-trusted : (a b : Title) → IsTitleMasked a b → AllZip Q (trusted_of_title a) (trusted_of_title b)
  title-trusted a b is = by a.allows_styling b.allows_styling is.3 is.2
    where
      by : (s t : Bool) → t ≡ s → IsTextMasked s a.text b.text
          → AllZip Q (if s then cow_str_bytes a.text ∷ [] else []) (if t then cow_str_bytes b.text ∷ [] else [])
      by true true same text = (only (cow_str_bytes a.text) (cow_str_bytes b.text) (trusted-unlisted a.text b.text text), tt)
      by true false same text = absurd (false≢true same)
      by false true same text = absurd (false≢true (sym same))
      by false false same text = tt

  element-trusted : (a b : Element) → IsElementMasked a b → AllZip Q (trusted_of_element a) (trusted_of_element b)
  element-trusted (Message a) (Message b) is = (only (cow_str_bytes a.text) (cow_str_bytes b.text) (trusted-unlisted a.text b.text is.1), tt)
  element-trusted (Cause a) (Cause b) is = tt
  element-trusted (Suggestion a) (Suggestion b) is = tt
  element-trusted (Origin a) (Origin b) is = tt
  element-trusted (Padding a) (Padding b) is = tt
  element-trusted a b is = absurd is

only-of : (x y : List ℕ) → IsUnlisted y → IsTextOf x y
only-of x y none = All-weaker (λ c. is_listed c ≡ false) (IsOf (chars x)) (λ c unlisted listed. absurd (false≢true (sym unlisted ∙ listed))) (chars y) none

-- no trusted text of a masked report holds a listed character
unlisted-texts : (given shown : List (List ℕ)) → AllZip (λ x y. IsUnlisted y) given shown → All (λ c. is_listed c ≡ false) (flat_map chars shown)
unlisted-texts [] [] pairs = All-nil (λ c. is_listed c ≡ false)
unlisted-texts [] (y ∷ ys) pairs = absurd pairs
unlisted-texts (x ∷ xs) [] pairs = absurd pairs
unlisted-texts (x ∷ xs) (y ∷ ys) pairs = All-append (λ c. is_listed c ≡ false) (chars y) (flat_map chars ys) pairs.0 (unlisted-texts xs ys pairs.1)

pub masked-unlisted : (groups shown : List Group) → AllZip IsGroupMasked groups shown → All (λ c. is_listed c ≡ false) (flat_map chars (trusted_texts shown))
masked-unlisted groups shown pairs =
    unlisted-texts (trusted_texts groups) (trusted_texts shown)
    (trusted-zip IsTitleMasked IsElementMasked (λ x y. IsUnlisted y) (title-trusted (λ x y. IsUnlisted y) (λ x y none. none))
    (element-trusted (λ x y. IsUnlisted y) (λ x y none. none)) groups shown pairs)

-- ---- what the report keeps

drawn-masked : (a b : Element) → IsElementMasked a b → is_drawn b ≡ is_drawn a
drawn-masked (Message a) (Message b) is = refl
drawn-masked (Cause a) (Cause b) is = refl
drawn-masked (Suggestion a) (Suggestion b) is = ap (λ (n : ℕ). not (n == 0)) (zip-length IsPatchMasked a.markers.items b.markers.items is.3)
drawn-masked (Origin a) (Origin b) is = refl
drawn-masked (Padding a) (Padding b) is = refl
drawn-masked a b is = absurd is

pub mask-faithful : IsFaithful IsTitleMasked IsElementMasked
mask-faithful = grind (arith, element-faults, links-id, title-trusted, only-of, element-trusted, drawn-masked)

-- ---- texts of one line

feed-mask : (c : ℕ) → IsNoFeed c → IsNoFeed (mask_of c)
feed-mask c none = grind (arith, nat_tests)

feed-masked : (cs : List ℕ) → All IsNoFeed cs → All IsNoFeed (masked cs)
feed-masked [] all = All-nil IsNoFeed
feed-masked (c ∷ cs) all =
    All-cons IsNoFeed (mask_of c) (map mask_of cs) (feed-mask c (All-head IsNoFeed c cs all)) (feed-masked cs (All-tail IsNoFeed c cs all))

text-line : (a b : CowStr Global) → IsTextMasked false a b → All IsNoFeed (chars (cow_str_bytes a)) → All IsNoFeed (chars (cow_str_bytes b))
text-line a b is plain = subst (All IsNoFeed) (sym is) (feed-masked (chars (cow_str_bytes a)) plain)

option-line : (a b : Option (CowStr Global)) → SameOption (IsTextMasked false) a b → IsOneLineText (option_map cow_str_bytes a)
    → IsOneLineText (option_map cow_str_bytes b)
option-line None None is plain = tt
option-line None (Some b) is plain = cc
option-line (Some a) None is plain = absurd is
option-line (Some a) (Some b) is plain = text-line a b is plain

level-line : (a b : Level) → IsLevelMasked a b → IsOneLineName a → IsOneLineName b
level-line a b is plain = subst (λ (kind : LevelInner). All IsNoFeed (chars (shown_name kind b.name))) (sym is.1) (by a.name b.name is.0 plain)
  where
    by : (x y : LevelName) → IsNameMasked x y → All IsNoFeed (chars (shown_name a.kind x)) → All IsNoFeed (chars (shown_name a.kind y))
    by (Own x) (Own y) same line = text-line x y same line
    by x y same line = subst (λ (name : LevelName). All IsNoFeed (chars (shown_name a.kind name))) (sym same) line

id-line : (a b : Option Id) → SameOption IsIdMasked a b → IsOneLineId a → IsOneLineId b
id-line None None is plain = tt
id-line None (Some b) is plain = cc
id-line (Some a) None is plain = absurd is
id-line (Some a) (Some b) is plain = option-line a.id b.id is.0 plain

element-line : (a b : Element) → IsElementMasked a b → IsOneLineElement false a → IsOneLineElement false b
element-line (Message a) (Message b) is plain = level-line a.level b.level is.0 plain
element-line (Cause a) (Cause b) is plain = (
  option-line a.path b.path is.0 plain.0,
  all-over IsAnnotationMasked IsOneLineLabel (λ x y pair label. option-line x.label y.label pair.1 label) a.markers.items b.markers.items is.3 plain.1,
)
element-line (Suggestion a) (Suggestion b) is plain = option-line a.path b.path is.0 plain
element-line (Origin a) (Origin b) is plain = text-line a.path b.path is.0 plain
element-line (Padding a) (Padding b) is plain = tt
element-line a b is plain = absurd is

-- labels, paths, ids and names of levels hold no line feed where they held none
pub masked-line : (groups shown : List Group) → AllZip IsGroupMasked groups shown → HasOneLineTexts false groups → HasOneLineTexts false shown
masked-line groups shown pairs plain = grind (arith, line-made, level-line, id-line, element-line)

-- ---- what masking asks

-- nothing: every report is taken
pub groups-taken : (groups : List Group) → All (IsGroupTaken IsAnyTitle (λ e. Unit {0})) groups
groups-taken [] = All-nil (IsGroupTaken IsAnyTitle (λ e. Unit {0}))
groups-taken (g ∷ groups) = All-cons (IsGroupTaken IsAnyTitle (λ e. Unit {0})) g groups (any-title g.title, any-elements g.elements.items) (groups-taken groups)
  where
    any-title : (title : Option Title) → IfSome title IsAnyTitle
    any-title None = tt
    any-title (Some title) = tt

    any-elements : (es : List Element) → All (λ (e : Element). Unit {0}) es
    any-elements [] = All-nil (λ (e : Element). Unit {0})
    any-elements (e ∷ es) = All-cons (λ (e : Element). Unit {0}) e es tt (any-elements es)

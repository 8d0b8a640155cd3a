-- A report whose texts are as they are set: what it has in common with the one in whose place it is shown, and that where line feeds are
-- shown no text of it that may be on one line only holds one.
use Rattle.std.proofs.lemmas.Grind.{common_steps}
use Rattle.std.proofs.Common.{arith, append-nil}
use Rattle.annotate_snippets.proofs.Common.{◌≡◌, ◌∙◌, ℕ, ◌==◌, Bool, true, false, List, [], ◌∷◌, ◌++◌, Option, None, Some, All, IfSome, codes, if◌then◌else◌}
use Rattle.annotate_snippets.proofs.Common.{not, map, refl, sym, ap, ap₂, subst, eqb-true, All-cons, All-nil, sum_by-cons, cow_str_bytes, AllZip, flat_map}
use Rattle.annotate_snippets.proofs.Common.{option_map, option_to_list, Global, CowStr, shown_name, SameOption, SamePatch, SameText, standard_name_of}
use Rattle.annotate_snippets.proofs.Common.{trusted_of_element, trusted_of_title, LevelName, Standard, Own, Annotation, Element, Message, Cause, Suggestion}
use Rattle.annotate_snippets.proofs.Common.{Origin, Padding, Group, Id, Patch, Snippet, Title, IsAnnotationAsSet, IsElementAsSet, IsGroupAsSet, IsIdAsSet}
use Rattle.annotate_snippets.proofs.Common.{IsNameAsSet, IsSnippetAsSet, IsTitleAsSet, IsOptionAsSet, IsTextAsSet, picture_of, with_line_feeds_shown, Edit}
use Rattle.annotate_snippets.proofs.Common.{edit_of, LevelInner, Error, Warning, Info, Note, Help, norm, shown, each-fails, id_links, text_links, is_drawn}
use Rattle.annotate_snippets.proofs.Common.{added_lines, element_faults, HasOneLineTexts}
use Rattle.std.specs.Str.{chars}
use Rattle.snippet_model.specs.declared.level.LevelName.TheVariants.{Hidden}
use Rattle.annotate_snippets.proofs.OneLineTexts.{IsNoFeed, IsOneLineElement, IsOneLineGroup, IsOneLineId, IsOneLineLabel, IsOneLineText, IsOneLineTitle}
use Rattle.annotate_snippets.proofs.OneLineTexts.{one_line_texts}
use Rattle.annotate_snippets.proofs.PairedLemmas.{all-second, faults-same, zip-length}
use Rattle.annotate_snippets.proofs.RemadeLemmas.{IsFaithful, IsTextOf, own-texts, same-text}

-- ---- faults

-- patches that are the same make the same edits
edit-same : (p q : Patch) → SamePatch p q → edit_of q ≡ edit_of p
edit-same p q same = ap₂ (λ s t. record { start = s.start; end = s.end; text = t }) same.0 same.1

edits-same : (ps qs : List Patch) → AllZip SamePatch ps qs → map edit_of qs ≡ map edit_of ps
edits-same [] [] pairs = refl
edits-same [] (q ∷ qs) pairs = absurd pairs
edits-same (p ∷ ps) [] pairs = absurd pairs
edits-same (p ∷ ps) (q ∷ qs) pairs = ap₂ (λ (e : Edit) (es : List Edit). e ∷ es) (edit-same p q pairs.0) (edits-same ps qs pairs.1)

-- and add as many lines
added-same : (ps qs : List Patch) → AllZip SamePatch ps qs → added_lines qs ≡ added_lines ps
added-same [] [] pairs = refl
added-same [] (q ∷ qs) pairs = absurd pairs
added-same (p ∷ ps) [] pairs = absurd pairs
added-same (p ∷ ps) (q ∷ qs) pairs = grind (arith, common_steps, added-same ps qs pairs.1, sum_by-cons, ap₂, pairs.0.1, pairs.1)

module _ (feeds : Bool) (group element : ℕ) where
  -- an annotated snippet has the faults of the one in whose place it is shown
  cause-same : (a b : Snippet Annotation) → IsSnippetAsSet feeds (IsAnnotationAsSet feeds) a b
      → element_faults group element (Cause b) ≡ element_faults group element (Cause a)
  cause-same a b is = grind (arith, ap₂, faults-same, a.source.text, b.source.text, is.2.text, a.markers.items, b.markers.items, is.3, is.1)

  -- and so has a suggestion
  suggestion-same : (a b : Snippet Patch) → IsSnippetAsSet feeds SamePatch a b
      → element_faults group element (Suggestion b) ≡ element_faults group element (Suggestion a)
  suggestion-same a b is = grind (arith, common_steps, faults-same, edits-same, added-same)

  -- and each element
  element-faults : (a b : Element) → IsElementAsSet feeds a b → element_faults group element b ≡ element_faults group element a
  element-faults (Message a) (Message b) is = refl
  element-faults (Cause a) (Cause b) is = cause-same a b is
  element-faults (Suggestion a) (Suggestion b) is = suggestion-same a b is
  element-faults (Origin a) (Origin b) is = refl
  element-faults (Padding a) (Padding b) is = refl
  element-faults a b is = absurd is

-- ---- links

-- whether a text shows anything doesn't depend on whether its line feeds are shown
text_links-after : (address : Option (List ℕ)) (front xs ys : List ℕ) → text_links address ys ≡ text_links address xs
    → text_links address (front ++ ys) ≡ text_links address (front ++ xs)
text_links-after address [] xs ys same = same
text_links-after address (c ∷ front) xs ys same = refl

links-picture : (address : Option (List ℕ)) (c : ℕ) (feed : Bool) (xs ys : List ℕ) → (c == 10) ≡ feed → text_links address ys ≡ text_links address xs
    → text_links address (shown (picture_of c) ++ ys) ≡ text_links address (shown c ++ xs)
links-picture address c true xs ys is same = grind (arith, eqb-true)
links-picture address c false xs ys is same = cc (is, text_links-after address (shown c) xs ys same)

links-fed : (address : Option (List ℕ)) (cs : List ℕ) → text_links address (norm (with_line_feeds_shown cs)) ≡ text_links address (norm cs)
unfolding norm
links-fed address [] = refl
links-fed address (c ∷ cs) = links-picture address c (c == 10) (flat_map shown cs) (flat_map shown (map picture_of cs)) refl (links-fed address cs)

links-text : (feeds : Bool) (address : Option (List ℕ)) (a b : CowStr Global) → IsTextAsSet feeds a b
    → text_links address (norm (chars (cow_str_bytes b))) ≡ text_links address (norm (chars (cow_str_bytes a)))
links-text true address a b is = ap (λ (cs : List ℕ). text_links address (norm cs)) is ∙ links-fed address (chars (cow_str_bytes a))
links-text false address a b is = ap (λ (bytes : List ℕ). text_links address (norm (chars bytes))) is

links-id-text : (feeds : Bool) (address : Option (List ℕ)) (a b : Option (CowStr Global)) → IsOptionAsSet feeds a b
    → text_links address (flat_map (λ (t : CowStr Global). norm (chars (cow_str_bytes t))) (option_to_list b))
    ≡ text_links address (flat_map (λ (t : CowStr Global). norm (chars (cow_str_bytes t))) (option_to_list a))
links-id-text feeds address None None is = refl
links-id-text feeds address None (Some b) is = cc
links-id-text feeds address (Some a) None is = absurd is
links-id-text feeds address (Some a) (Some b) is =
    cc (append-nil (norm (chars (cow_str_bytes b))), links-text feeds address a b is, append-nil (norm (chars (cow_str_bytes a))))

url-same : (a b : Option (CowStr Global)) → SameOption SameText a b → option_map (cow_str_bytes {Z = Global}) b ≡ option_map cow_str_bytes a
url-same None None is = refl
url-same None (Some b) is = cc
url-same (Some a) None is = absurd is
url-same (Some a) (Some b) is = ap (λ (t : List ℕ). Some t) is

links-id : (feeds : Bool) (a b : Option Id) → SameOption (IsIdAsSet feeds) a b → id_links true b ≡ id_links true a
links-id feeds None None is = refl
links-id feeds None (Some b) is = cc
links-id feeds (Some a) None is = absurd is
links-id feeds (Some a) (Some b) is = cc (url-same a.url b.url is.1, links-id-text feeds (option_map cow_str_bytes a.url) a.id b.id is.0)

-- ---- what the report keeps

trusted-fed : (feeds : Bool) (a b : Element) → IsElementAsSet feeds a b → AllZip IsTextOf (trusted_of_element a) (trusted_of_element b)
trusted-fed feeds (Message a) (Message b) is = (same-text (cow_str_bytes a.text) (cow_str_bytes b.text) is.1, tt)
trusted-fed feeds (Cause a) (Cause b) is = tt
trusted-fed feeds (Suggestion a) (Suggestion b) is = tt
trusted-fed feeds (Origin a) (Origin b) is = tt
trusted-fed feeds (Padding a) (Padding b) is = tt
trusted-fed feeds a b is = absurd is

trusted-title : (feeds : Bool) (a b : Title) → IsTitleAsSet feeds a b → AllZip IsTextOf (trusted_of_title a) (trusted_of_title b)
trusted-title feeds a b is = grind (arith, ap₂, own-texts, is.3, is.2)

drawn-fed : (feeds : Bool) (a b : Element) → IsElementAsSet feeds a b → is_drawn b ≡ is_drawn a
drawn-fed feeds (Message a) (Message b) is = refl
drawn-fed feeds (Cause a) (Cause b) is = refl
drawn-fed feeds (Suggestion a) (Suggestion b) is = ap (λ (n : ℕ). not (n == 0)) (zip-length SamePatch a.markers.items b.markers.items is.3)
drawn-fed feeds (Origin a) (Origin b) is = refl
drawn-fed feeds (Padding a) (Padding b) is = refl
drawn-fed feeds a b is = absurd is

pub feeds-faithful : (feeds : Bool) → IsFaithful (IsTitleAsSet feeds) (IsElementAsSet feeds)
feeds-faithful feeds = record {
  faults = element-faults feeds;
  links = λ a b is. links-id feeds a.id b.id is.1;
  trusted_title = trusted-title feeds;
  trusted = trusted-fed feeds;
  drawn = drawn-fed feeds;
}

-- ---- line feeds that are shown

no_feed : (c : ℕ) (feed : Bool) → (c == 10) ≡ feed → IsNoFeed (picture_of c)
no_feed c true is = ap (λ (t : Bool). (if t then 0x240A else c) == 10) is
no_feed c false is = ap (λ (t : Bool). (if t then 0x240A else c) == 10) is ∙ is

fed-plain : (cs : List ℕ) → All IsNoFeed (with_line_feeds_shown cs)
fed-plain [] = All-nil IsNoFeed
fed-plain (c ∷ cs) = All-cons IsNoFeed (picture_of c) (map picture_of cs) (no_feed c (c == 10) refl) (fed-plain cs)

text-plain : (a b : CowStr Global) → IsTextAsSet true a b → All IsNoFeed (chars (cow_str_bytes b))
text-plain a b is = subst (All IsNoFeed) (sym is) (fed-plain (chars (cow_str_bytes a)))

option-plain : (a b : Option (CowStr Global)) → IsOptionAsSet true a b → IsOneLineText (option_map cow_str_bytes b)
option-plain None None is = tt
option-plain None (Some b) is = cc
option-plain (Some a) None is = absurd is
option-plain (Some a) (Some b) is = text-plain a b is

standard-plain : (kind : LevelInner) → All IsNoFeed (chars (standard_name_of kind))
unfolding chars
standard-plain Error = each-fails (λ c. c == 10) (codes "error") refl
standard-plain Warning = each-fails (λ c. c == 10) (codes "warning") refl
standard-plain Info = each-fails (λ c. c == 10) (codes "info") refl
standard-plain Note = each-fails (λ c. c == 10) (codes "note") refl
standard-plain Help = each-fails (λ c. c == 10) (codes "help") refl

nameless-plain : All IsNoFeed (chars [])
unfolding chars
nameless-plain = All-nil IsNoFeed

level-plain : (kind : LevelInner) (a b : LevelName) → IsNameAsSet true a b → All IsNoFeed (chars (shown_name kind b))
level-plain kind (Own a) (Own b) is = text-plain a b is
level-plain kind (Own a) Standard is = standard-plain kind
level-plain kind (Own a) Hidden is = nameless-plain
level-plain kind Standard Standard is = standard-plain kind
level-plain kind Standard Hidden is = nameless-plain
level-plain kind Standard (Own b) is = cc
level-plain kind Hidden Standard is = standard-plain kind
level-plain kind Hidden Hidden is = nameless-plain
level-plain kind Hidden (Own b) is = cc

id-plain : (a b : Option Id) → SameOption (IsIdAsSet true) a b → IsOneLineId b
id-plain None None is = tt
id-plain None (Some b) is = cc
id-plain (Some a) None is = absurd is
id-plain (Some a) (Some b) is = option-plain a.id b.id is.0

title-plain : (a b : Option Title) → SameOption (IsTitleAsSet true) a b → IfSome b IsOneLineTitle
title-plain None None is = tt
title-plain None (Some b) is = cc
title-plain (Some a) None is = absurd is
title-plain (Some a) (Some b) is = (level-plain b.level.kind a.level.name b.level.name is.0.0, id-plain a.id b.id is.1)

cause-plain : (a b : Snippet Annotation) → IsSnippetAsSet true (IsAnnotationAsSet true) a b → IsOneLineElement false (Cause b)
cause-plain a b is = (
  option-plain a.path b.path is.0,
  all-second (IsAnnotationAsSet true) IsOneLineLabel (λ x y pair. option-plain x.label y.label pair.1) a.markers.items b.markers.items is.3,
)

element-plain : (a b : Element) → IsElementAsSet true a b → IsOneLineElement false b
element-plain (Message a) (Message b) is = level-plain b.level.kind a.level.name b.level.name is.0.0
element-plain (Cause a) (Cause b) is = cause-plain a b is
element-plain (Suggestion a) (Suggestion b) is = option-plain a.path b.path is.0
element-plain (Origin a) (Origin b) is = text-plain a.path b.path is.0
element-plain (Padding a) (Padding b) is = tt
element-plain a b is = absurd is

-- where line feeds are shown, no label, path, id and name of a level of what is shown holds one
pub plain-fed : (groups shown : List Group) → AllZip (IsGroupAsSet true) groups shown → HasOneLineTexts false shown
plain-fed groups shown pairs =
    one_line_texts false shown (all-second (IsGroupAsSet true) (IsOneLineGroup false) (λ a b is. (
      title-plain a.title b.title is.1,
      all-second (IsElementAsSet true) (IsOneLineElement false) element-plain a.elements.items b.elements.items is.2,
    )) groups shown pairs)

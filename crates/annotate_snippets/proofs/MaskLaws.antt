-- Where controls are masked, no text of the report that is shown holds one: masking leaves none, and what is made of it then brings none.
use Rattle.annotate_snippets.proofs.Common.{◌≡◌, ℕ, Bool, true, false, List, [], ◌∷◌, ◌++◌, Option, None, Some, All, IfSome, codes, map, refl}
use Rattle.annotate_snippets.proofs.Common.{sym, subst, arith, nat_tests, All-append, All-cons, All-head, All-nil, All-tail, All-weaker, cow_str_bytes, AllZip}
use Rattle.annotate_snippets.proofs.Common.{list_any, Global, CowStr, Range, name_of, shown_name, SameOption, standard_name_of, Level, LevelName}
use Rattle.annotate_snippets.proofs.Common.{Standard, Own, Annotation, Element, Message, Cause, Suggestion, Origin, Padding, Group, Id, Snippet, Title}
use Rattle.annotate_snippets.proofs.Common.{wrapped-chars, IsAnnotationMasked, IsElementMasked, IsGroupMasked, IsIdMasked, IsNameMasked, IsPatchMasked}
use Rattle.annotate_snippets.proofs.Common.{IsTitleMasked, IsElementWrapped, IsGroupWrapped, IsTextWrapped, IsTitleWrapped, room_of_message, visible_mark}
use Rattle.annotate_snippets.proofs.Common.{is_masked, IsTextMasked, mask_of, masked, masked_in, IsGroupTaken, Stays, IsElementWithContext, IsGroupWithContext}
use Rattle.annotate_snippets.proofs.Common.{IsSnippetWithContext, LevelInner, Error, Warning, Info, Note, Help, norm, shown, each-fails, HasNoControls, IsClean}
use Rattle.annotate_snippets.proofs.Common.{IsCleanElement, IsCleanTitle}
use Rattle.std.specs.Str.{chars}
use Rattle.snippet_model.specs.declared.level.LevelName.TheVariants.{Hidden}
use Rattle.annotate_snippets.proofs.PairedLemmas.{all-second}
use Rattle.annotate_snippets.proofs.RemadeLemmas.{over-made}

abbrev Clean : ℕ → Type 0
Clean c = is_masked c ≡ false

-- ---- masked texts

clean-mask : (c : ℕ) → is_masked (mask_of c) ≡ false
clean-mask c = grind (arith, nat_tests)

clean-masked : (cs : List ℕ) → All Clean (masked cs)
clean-masked [] = All-nil Clean
clean-masked (c ∷ cs) = All-cons Clean (mask_of c) (map mask_of cs) (clean-mask c) (clean-masked cs)

clean-shown : (c : ℕ) → is_masked c ≡ false → list_any is_masked (shown c) ≡ false
clean-shown c none = grind (arith, nat_tests)

clean-norm : (cs : List ℕ) → All Clean cs → All Clean (norm cs)
unfolding norm
clean-norm [] all = All-nil Clean
clean-norm (c ∷ cs) all =
    All-append Clean _ _ (each-fails is_masked (shown c) (clean-shown c (All-head Clean c cs all))) (clean-norm cs (All-tail Clean c cs all))

clean-in : (trusted : Bool) (cs : List ℕ) → All Clean (masked_in trusted cs)
clean-in true cs = clean-norm (masked cs) (clean-masked cs)
clean-in false cs = clean-masked cs

text-clean : (trusted : Bool) (a b : CowStr Global) → IsTextMasked trusted a b → IsClean (cow_str_bytes b)
text-clean trusted a b is = subst (All Clean) (sym is) (clean-in trusted (chars (cow_str_bytes a)))

option-clean : (a b : Option (CowStr Global)) → SameOption (IsTextMasked false) a b → IfSome b (λ t. IsClean (cow_str_bytes t))
option-clean None None is = tt
option-clean None (Some b) is = cc
option-clean (Some a) None is = absurd is
option-clean (Some a) (Some b) is = text-clean false a b is

standard-clean : (kind : LevelInner) → IsClean (standard_name_of kind)
unfolding chars
standard-clean Error = each-fails is_masked (codes "error") refl
standard-clean Warning = each-fails is_masked (codes "warning") refl
standard-clean Info = each-fails is_masked (codes "info") refl
standard-clean Note = each-fails is_masked (codes "note") refl
standard-clean Help = each-fails is_masked (codes "help") refl

nameless-clean : IsClean []
unfolding chars
nameless-clean = All-nil Clean

name-clean : (kind : LevelInner) (a b : LevelName) → IsNameMasked a b → IsClean (shown_name kind b)
name-clean kind (Own a) (Own b) is = text-clean false a b is
name-clean kind (Own a) Standard is = standard-clean kind
name-clean kind (Own a) Hidden is = nameless-clean
name-clean kind Standard Standard is = standard-clean kind
name-clean kind Standard Hidden is = nameless-clean
name-clean kind Standard (Own b) is = cc
name-clean kind Hidden Standard is = standard-clean kind
name-clean kind Hidden Hidden is = nameless-clean
name-clean kind Hidden (Own b) is = cc

id-clean : (a b : Option Id) → SameOption IsIdMasked a b → IfSome b (λ (id : Id). IfSome id.id (λ t. IsClean (cow_str_bytes t)))
id-clean None None is = tt
id-clean None (Some b) is = cc
id-clean (Some a) None is = absurd is
id-clean (Some a) (Some b) is = option-clean a.id b.id is.0

title-clean : (a b : Option Title) → SameOption IsTitleMasked a b → IfSome b IsCleanTitle
title-clean None None is = tt
title-clean None (Some b) is = cc
title-clean (Some a) None is = absurd is
title-clean (Some a) (Some b) is =
    (name-clean b.level.kind a.level.name b.level.name is.0.0, id-clean a.id b.id is.1, text-clean a.allows_styling a.text b.text is.2)

element-clean : (a b : Element) → IsElementMasked a b → IsCleanElement b
element-clean (Message a) (Message b) is = (name-clean b.level.kind a.level.name b.level.name is.0.0, text-clean true a.text b.text is.1)
element-clean (Cause a) (Cause b) is = (
  text-clean false a.source.text b.source.text is.2.0,
  option-clean a.path b.path is.0,
  all-second IsAnnotationMasked (λ m. IfSome m.label (λ t. IsClean (cow_str_bytes t))) (λ x y pair. option-clean x.label y.label pair.1)
      a.markers.items b.markers.items is.3,
)
element-clean (Suggestion a) (Suggestion b) is = (
  text-clean false a.source.text b.source.text is.2.0,
  option-clean a.path b.path is.0,
  all-second IsPatchMasked (λ p. IsClean (cow_str_bytes p.replacement)) (λ x y pair. text-clean false x.replacement y.replacement pair.1.0)
      a.markers.items b.markers.items is.3,
)
element-clean (Origin a) (Origin b) is = text-clean false a.path b.path is.0
element-clean (Padding a) (Padding b) is = tt
element-clean a b is = absurd is

-- no text of a masked report holds one
pub masked-clean : (groups shown : List Group) → AllZip IsGroupMasked groups shown → HasNoControls shown
masked-clean groups shown pairs =
    all-second IsGroupMasked (IsGroupTaken IsCleanTitle IsCleanElement) (λ a b is. (
      title-clean a.title b.title is.1,
      all-second IsElementMasked IsCleanElement element-clean a.elements.items b.elements.items is.2,
    )) groups shown pairs

-- ---- lines around those that are kept

added-clean : (marks : List Annotation) (spans : List (Range ℕ)) → All (λ (a : Annotation). IfSome a.label (λ t. IsClean (cow_str_bytes t))) marks
    → All (λ (a : Annotation). IfSome a.label (λ t. IsClean (cow_str_bytes t))) (marks ++ map visible_mark spans)
added-clean [] [] all = All-nil (λ (a : Annotation). IfSome a.label (λ t. IsClean (cow_str_bytes t)))
added-clean [] (span ∷ spans) all =
    All-cons (λ (a : Annotation). IfSome a.label (λ t. IsClean (cow_str_bytes t))) (visible_mark span) (map visible_mark spans) tt (added-clean [] spans all)
added-clean (a ∷ marks) spans all =
    let Labelled : Annotation → Type 0 = λ m. IfSome m.label (λ t. IsClean (cow_str_bytes t)) in
    All-cons Labelled a (marks ++ map visible_mark spans) (All-head Labelled a marks all) (added-clean marks spans (All-tail Labelled a marks all))

module _ (before after : ℕ) where
  cause-around : (a b : Snippet Annotation) → IsSnippetWithContext before after a b → IsCleanElement (Cause a) → IsCleanElement (Cause b)
  cause-around a b is clean = grind (arith, added-clean, is.source, clean.0, is.path, clean.1, is.markers, a.markers.items, clean.2)

  element-around : (a b : Element) → IsElementWithContext before after a b → IsCleanElement a → IsCleanElement b
  element-around (Message a) (Message b) is clean = subst (λ m. IsCleanElement (Message m)) (sym is) clean
  element-around (Cause a) (Cause b) is clean = cause-around a b is clean
  element-around (Suggestion a) (Suggestion b) is clean = subst (λ s. IsCleanElement (Suggestion s)) (sym is) clean
  element-around (Origin a) (Origin b) is clean = subst (λ o. IsCleanElement (Origin o)) (sym is) clean
  element-around (Padding a) (Padding b) is clean = tt
  element-around a b is clean = absurd is

  pub around-clean : (groups shown : List Group) → AllZip (IsGroupWithContext before after) groups shown → HasNoControls groups → HasNoControls shown
  around-clean groups shown pairs clean =
      over-made Stays _ IsCleanTitle IsCleanElement (λ a b is own. subst IsCleanTitle (sym is) own) element-around groups shown pairs clean

-- ---- wrapped titles and messages

text-wrapped : (room : ℕ) (trusted : Bool) (a b : CowStr Global) → IsTextWrapped room trusted a b → IsClean (cow_str_bytes a) → IsClean (cow_str_bytes b)
text-wrapped room trusted a b is clean = grind (arith, All-weaker, wrapped-chars)

module _ (term_width gutter : ℕ) where
  title-wrapped : (a b : Title) → IsTitleWrapped term_width a b → IsCleanTitle a → IsCleanTitle b
  title-wrapped a b is clean = grind (arith, text-wrapped, is.0, clean.0, is.1, clean.1, a.allows_styling, a.text, b.text, is.2, clean.2)

  element-wrapped : (a b : Element) → IsElementWrapped term_width gutter a b → IsCleanElement a → IsCleanElement b
  element-wrapped (Message a) (Message b) is clean = (
    subst (λ (level : Level). IsClean (name_of level)) (sym is.0) clean.0,
    text-wrapped (room_of_message term_width gutter a) true a.text b.text is.1 clean.1,
  )
  element-wrapped (Cause a) (Cause b) is clean = subst (λ s. IsCleanElement (Cause s)) (sym is) clean
  element-wrapped (Suggestion a) (Suggestion b) is clean = subst (λ s. IsCleanElement (Suggestion s)) (sym is) clean
  element-wrapped (Origin a) (Origin b) is clean = subst (λ o. IsCleanElement (Origin o)) (sym is) clean
  element-wrapped (Padding a) (Padding b) is clean = tt
  element-wrapped a b is clean = absurd is

  pub wrapped-clean : (groups shown : List Group) → AllZip (IsGroupWrapped term_width gutter) groups shown → HasNoControls groups → HasNoControls shown
  wrapped-clean groups shown pairs clean = over-made _ _ IsCleanTitle IsCleanElement title-wrapped element-wrapped groups shown pairs clean

-- What the types of Rust give of a report's texts: that they are UTF-8.
use Rattle.annotate_snippets.proofs.Common.{◌≡◌, All, List, map, subst, cow_str_bytes, IsUtf8, All-map, All-weaker, IsUtf8-string_bytes}
use Rattle.annotate_snippets.proofs.Common.{Element, Cause, Message, Origin, Padding, Suggestion, Group, Patch, Snippet, given_text}
use Rattle.annotate_snippets.proofs.Common.{drawn_elements, IsElementPrepared, IsGroupPrepared, element_of, PreparedElement, PreparedGroup}
use Rattle.annotate_snippets.specs.declared.renderer.preprocess.PreparedElement.TheVariants as prepared
use Rattle.annotate_snippets.proofs.PreparedLemmas.{group_of}

-- the texts of a suggestion that laws speak of: its source, and the text of the lines that it gives
pub record IsTextSuggestion (s : Snippet Patch) : Type 0 where
  pub utf8 : IsUtf8 (cow_str_bytes s.source.text)
  pub given_utf8 : IsUtf8 (given_text s)

abbrev pub IsTextElement : Element → Type 0
IsTextElement (Message message) = Unit {0}
IsTextElement (Cause snippet) = IsUtf8 (cow_str_bytes snippet.source.text)
IsTextElement (Suggestion snippet) = IsTextSuggestion snippet
IsTextElement (Origin origin) = Unit {0}
IsTextElement (Padding padding) = Unit {0}

-- those of the elements of a group that are drawn, and of each group of a report
abbrev pub IsTextGroup : Group → Type 0
IsTextGroup g = All IsTextElement (drawn_elements g)

abbrev pub AreTexts : List Group → Type 0
AreTexts groups = All IsTextGroup groups

-- what is prepared has such texts
element_texts : (p : PreparedElement) → IsElementPrepared p → IsTextElement (element_of p)
element_texts (prepared.Message message) is = tt
element_texts (prepared.Cause cause) is = is.utf8
element_texts (prepared.Suggestion suggestion) is =
    record { utf8 = is.utf8; given_utf8 = subst IsUtf8 is.text (IsUtf8-string_bytes suggestion.splice.complete) }
element_texts (prepared.Origin origin) is = tt
element_texts (prepared.Padding padding) is = tt

group_texts : (p : PreparedGroup) → IsGroupPrepared p → IsTextGroup (group_of p)
group_texts p is =
    subst (All IsTextElement) is.elements_are
    (All-map IsTextElement element_of p.elements.items (All-weaker IsElementPrepared (λ e. IsTextElement (element_of e)) element_texts p.elements.items
    is.prepared))

-- so a report has them, once it is prepared
pub prepared_texts : (groups : List Group) (ps : List PreparedGroup) → map group_of ps ≡ groups → All IsGroupPrepared ps → AreTexts groups
prepared_texts groups ps same all =
    subst AreTexts same (All-map IsTextGroup group_of ps (All-weaker IsGroupPrepared (λ p. IsTextGroup (group_of p)) group_texts ps all))

-- A report whose titles and messages are wrapped: what it has in common with the one in whose place it is shown, and what follows of its texts.
use Rattle.std.proofs.lemmas.Grind.{common_steps}
use Rattle.annotate_snippets.proofs.Common.{◌≡◌, ◌∙◌, ℕ, ◌+◌, ◌-◌, ◌≤◌, Bool, true, false, List, [], ◌∷◌, Option, None, Some, All, fold, if◌then◌else◌, max}
use Rattle.annotate_snippets.proofs.Common.{refl, sym, ap, ap₂, subst, arith, false≢true, All-weaker, cow_str_bytes, AllZip, flat_map, Global, CowStr}
use Rattle.annotate_snippets.proofs.Common.{AllZip-weaker, ReportFits, TitleFits, heading_of_message, heading_of_title, SameOption, trusted_of_element}
use Rattle.annotate_snippets.proofs.Common.{trusted_of_title, Level, Element, Message, Cause, Suggestion, Origin, Padding, Group, Id, Title, message-within}
use Rattle.annotate_snippets.proofs.Common.{title-within, wrapped-chars, wrapped-laws, IsGroupMasked, IsElementAsSet, IsGroupAsSet, IsTitleAsSet}
use Rattle.annotate_snippets.proofs.Common.{IsElementWrapped, IsGroupWrapped, IsTextWrapped, IsTitleWrapped, room_of_message, room_of_title, IsElementWrappable}
use Rattle.annotate_snippets.proofs.Common.{letters_of, IsGroupTaken, IsElementWithContext, IsGroupWithContext, AreRowsWithin, AreWithin, IsRewrapped}
use Rattle.annotate_snippets.proofs.Common.{lines_in, width_of, heading_label_text, label_width, heading_texts, MessageContext, IsRemade, IsStep, adds_context}
use Rattle.annotate_snippets.proofs.Common.{wraps, is_drawn, element_faults, gutter_of_report, width_wanted, HasOneLineTexts, AreRewrapped, IsElementRewrapped}
use Rattle.annotate_snippets.proofs.Common.{IsGroupRewrapped, IsTextRewrapped, IsTitleRewrapped, Renderer, Form}
use Rattle.std.proofs.Common.{chars}
use Rattle.snippet_model.specs.declared.snippet.Message as message
use Rattle.snippet_titles.specs.declared.style.TitleStyle.TheVariants as style
use Rattle.annotate_snippets.proofs.OneLineTexts.{IsOneLineElement, IsOneLineName}
use Rattle.annotate_snippets.proofs.PairedLemmas.{compose, flat-zip}
use Rattle.annotate_snippets.proofs.RemadeLemmas.{IsFaithful, IsTextOf, line-made, text-own}

-- ---- texts

-- what is counted from them stays
folds-same : (P : Element → Element → Type 0) → ((x y : Element) → P x y → width_wanted y ≡ width_wanted x) → (n m : ℕ) → m ≡ n → (xs ys : List Element)
    → AllZip P xs ys → fold (λ gutter e. max (width_wanted e) gutter) m ys ≡ fold (λ gutter e. max (width_wanted e) gutter) n xs
folds-same P same n m start [] [] pairs = start
folds-same P same n m start [] (y ∷ ys) pairs = absurd pairs
folds-same P same n m start (x ∷ xs) [] pairs = absurd pairs
folds-same P same n m start (x ∷ xs) (y ∷ ys) pairs =
    folds-same P same (max (width_wanted x) n) (max (width_wanted y) m) (ap₂ (λ (p q : ℕ). max p q) (same x y pairs.0) start) xs ys pairs.1

rewrapped : (room : ℕ) (trusted : Bool) (a b : CowStr Global) → IsTextWrapped room trusted a b → IsTextRewrapped room trusted a b
rewrapped room trusted a b is =
    subst (λ (cs : List ℕ). IsRewrapped room (letters_of trusted (chars (cow_str_bytes a))) (letters_of trusted cs)) (sym is)
    (wrapped-laws room trusted (chars (cow_str_bytes a)))

IsTextOf-wrapped : (room : ℕ) (trusted : Bool) (a b : CowStr Global) → IsTextWrapped room trusted a b → IsTextOf (cow_str_bytes a) (cow_str_bytes b)
IsTextOf-wrapped room trusted a b is = grind (arith, text-own, wrapped-chars)

-- what stands before a text, by its level and its id
abbrev label_of : Level → Option Id → List ℕ
label_of level id = heading_label_text (record { level = level; id = id; text = []; allows_styling = true })

module _ (term_width gutter : ℕ) where
  abbrev Wraps : Element → Element → Type 0
  Wraps = IsElementWrapped term_width gutter

  abbrev GroupWraps : Group → Group → Type 0
  GroupWraps = IsGroupWrapped term_width gutter

  -- ---- what the report keeps

  wrapped-faults : (n k : ℕ) (a b : Element) → Wraps a b → element_faults n k b ≡ element_faults n k a
  wrapped-faults n k (Message a) (Message b) is = refl
  wrapped-faults n k (Cause a) (Cause b) is = ap (λ s. element_faults n k (Cause s)) is
  wrapped-faults n k (Suggestion a) (Suggestion b) is = ap (λ s. element_faults n k (Suggestion s)) is
  wrapped-faults n k (Origin a) (Origin b) is = refl
  wrapped-faults n k (Padding a) (Padding b) is = refl
  wrapped-faults n k a b is = absurd is

  trusted-title : (a b : Title) → IsTitleWrapped term_width a b → AllZip IsTextOf (trusted_of_title a) (trusted_of_title b)
  trusted-title a b is =
      let own : AllZip IsTextOf (cow_str_bytes a.text ∷ []) (cow_str_bytes b.text ∷ []) =
      (IsTextOf-wrapped (room_of_title term_width a) a.allows_styling a.text b.text is.2, tt) in by a.allows_styling b.allows_styling is.3 own
    where
      by : (s t : Bool) → t ≡ s → AllZip IsTextOf (cow_str_bytes a.text ∷ []) (cow_str_bytes b.text ∷ [])
          → AllZip IsTextOf (if s then cow_str_bytes a.text ∷ [] else []) (if t then cow_str_bytes b.text ∷ [] else [])
      by true true same own = own
      by true false same own = absurd (false≢true same)
      by false true same own = absurd (false≢true (sym same))
      by false false same own = tt

  wrapped-trusted : (a b : Element) → Wraps a b → AllZip IsTextOf (trusted_of_element a) (trusted_of_element b)
  wrapped-trusted (Message a) (Message b) is = (IsTextOf-wrapped (room_of_message term_width gutter a) true a.text b.text is.1, tt)
  wrapped-trusted (Cause a) (Cause b) is = tt
  wrapped-trusted (Suggestion a) (Suggestion b) is = tt
  wrapped-trusted (Origin a) (Origin b) is = tt
  wrapped-trusted (Padding a) (Padding b) is = tt
  wrapped-trusted a b is = absurd is

  wrapped-drawn : (a b : Element) → Wraps a b → is_drawn b ≡ is_drawn a
  wrapped-drawn (Message a) (Message b) is = refl
  wrapped-drawn (Cause a) (Cause b) is = refl
  wrapped-drawn (Suggestion a) (Suggestion b) is = ap (λ s. is_drawn (Suggestion s)) is
  wrapped-drawn (Origin a) (Origin b) is = refl
  wrapped-drawn (Padding a) (Padding b) is = refl
  wrapped-drawn a b is = absurd is

  pub wrap-faithful : IsFaithful (IsTitleWrapped term_width) Wraps
  wrap-faithful = grind (arith, wrapped-faults, trusted-title, wrapped-trusted, wrapped-drawn)

  -- ---- the gutter

  element-width : (a b : Element) → Wraps a b → width_wanted b ≡ width_wanted a
  element-width (Message a) (Message b) is = refl
  element-width (Cause a) (Cause b) is = ap (λ s. width_wanted (Cause s)) is
  element-width (Suggestion a) (Suggestion b) is = ap (λ s. width_wanted (Suggestion s)) is
  element-width (Origin a) (Origin b) is = refl
  element-width (Padding a) (Padding b) is = refl
  element-width a b is = absurd is

  -- the gutter is as wide
  pub wrapped-gutter : (r : Renderer) (groups shown : List Group) → AllZip GroupWraps groups shown
      → gutter_of_report r shown ≡ gutter_of_report r groups
  wrapped-gutter r groups shown pairs =
      ap (λ (n : ℕ). if r.anonymized_snippet_line_numbers then 2 else n)
      (folds-same Wraps element-width 0 0 refl (flat_map (λ (g : Group). g.elements.items) groups) (flat_map (λ (g : Group). g.elements.items) shown)
      (flat-zip GroupWraps Wraps (λ (g : Group). g.elements.items) (λ a b is. is.2) groups shown pairs))

  -- ---- texts of one line

  element-line : (a b : Element) → Wraps a b → IsOneLineElement false a → IsOneLineElement false b
  element-line (Message a) (Message b) is plain = subst IsOneLineName (sym is.0) plain
  element-line (Cause a) (Cause b) is plain = subst (λ s. IsOneLineElement false (Cause s)) (sym is) plain
  element-line (Suggestion a) (Suggestion b) is plain = subst (λ s. IsOneLineElement false (Suggestion s)) (sym is) plain
  element-line (Origin a) (Origin b) is plain = subst (λ o. IsOneLineElement false (Origin o)) (sym is) plain
  element-line (Padding a) (Padding b) is plain = tt
  element-line a b is plain = absurd is

  -- labels, paths, ids and names of levels hold no line feed where they held none
  pub wrapped-line : (groups shown : List Group) → AllZip GroupWraps groups shown → HasOneLineTexts false groups → HasOneLineTexts false shown
  wrapped-line groups shown pairs plain = grind (arith, line-made, element-line)

  -- ---- what follows of the texts

  title-rows : (b : Title) → 4 ≤ room_of_title term_width b
      → AreWithin (room_of_title term_width b) (lines_in (letters_of b.allows_styling (chars (cow_str_bytes b.text))))
      → AreRowsWithin b.allows_styling term_width (heading_texts style.Title (heading_of_title b))
  title-rows b enough within =
      let here : 4 ≤ term_width - label_width (heading_of_title b) = enough in title-within term_width (heading_of_title b) (omega (arith, here)) within

  title-rewrapped : (a b : Option Title) → SameOption (IsTitleWrapped term_width) a b → SameOption (IsTitleRewrapped term_width) a b
  title-rewrapped None None is = is
  title-rewrapped None (Some b) is = cc
  title-rewrapped (Some a) None is = absurd is
  title-rewrapped (Some a) (Some b) is =
      let room : room_of_title term_width a ≡ room_of_title term_width b =
      ap₂ (λ (level : Level) (id : Option Id). term_width - width_of (label_of level id)) (sym is.0) (sym is.1) in
      let text : IsTextRewrapped (room_of_title term_width b) b.allows_styling a.text b.text =
      subst (λ (trusted : Bool). IsTextRewrapped (room_of_title term_width b) trusted a.text b.text) (sym is.3)
      (subst (λ (n : ℕ). IsTextRewrapped n a.allows_styling a.text b.text) room (rewrapped (room_of_title term_width a) a.allows_styling a.text b.text is.2)) in
      (text, λ enough. title-rows b enough (text.rows enough))

  message-rows : (n : ℕ) (b : message.Message) (place : MessageContext) → place.layout.gutter ≡ n → 4 ≤ room_of_message term_width n b
      → AreWithin (room_of_message term_width n b) (lines_in (letters_of true (chars (cow_str_bytes b.text))))
      → AreRowsWithin true term_width (heading_texts (style.Message place) (heading_of_message b))
  message-rows n b place beside enough within =
      let width = label_width (heading_of_message b) in
      let here : 4 ≤ term_width - (place.layout.gutter + 3 + width) = subst (λ (g : ℕ). 4 ≤ term_width - (g + 3 + width)) (sym beside) enough in
      message-within term_width place (heading_of_message b) (omega (arith, here))
      (subst (λ (g : ℕ). AreWithin (term_width - (g + 3 + width)) (lines_in (letters_of true (chars (cow_str_bytes b.text))))) (sym beside) within)

  element-rewrapped : (n : ℕ) → n ≡ gutter → (a b : Element) → Wraps a b → IsElementRewrapped term_width n a b
  element-rewrapped n same (Message a) (Message b) is =
      let room : room_of_message term_width gutter a ≡ room_of_message term_width n b =
      ap₂ (λ (level : Level) (m : ℕ). term_width - (m + 3 + width_of (label_of level None))) (sym is.0) (sym same) in
      let text : IsTextRewrapped (room_of_message term_width n b) true a.text b.text =
      subst (λ (n : ℕ). IsTextRewrapped n true a.text b.text) room (rewrapped (room_of_message term_width gutter a) true a.text b.text is.1) in
      (text, λ place beside enough. message-rows n b place beside enough (text.rows enough))
  element-rewrapped n same (Cause a) b is = tt
  element-rewrapped n same (Suggestion a) b is = tt
  element-rewrapped n same (Origin a) b is = tt
  element-rewrapped n same (Padding a) b is = tt
  element-rewrapped n same a b is = absurd is

  pub wrapped-laws-hold : (r : Renderer) (groups shown : List Group) → r.term_width ≡ term_width → gutter_of_report r groups ≡ gutter
      → AllZip GroupWraps groups shown → AreRewrapped r groups shown
  wrapped-laws-hold r groups shown width beside pairs =
      let same : gutter_of_report r shown ≡ gutter = wrapped-gutter r groups shown pairs ∙ beside in
      grind (arith, common_steps, AllZip-weaker, title-rewrapped, element-rewrapped, same)

-- ---- what is asked

-- a report all texts of which fit can be wrapped, beside a gutter that is no wider than one can be
pub groups-wrappable : (gutter : ℕ) (groups : List Group) → ReportFits groups → gutter ≤ 20 → All (IsGroupTaken TitleFits (IsElementWrappable gutter)) groups
groups-wrappable gutter groups fits small = grind (arith, All-weaker)

-- ---- the steps before

-- a text of the same bytes
text-before : (room : ℕ) (trusted : Bool) (a b c : CowStr Global) → cow_str_bytes b ≡ cow_str_bytes a → IsTextRewrapped room trusted b c
    → IsTextRewrapped room trusted a c
text-before room trusted a b c same is =
    subst (λ (bytes : List ℕ). IsRewrapped room (letters_of trusted (chars bytes)) (letters_of trusted (chars (cow_str_bytes c)))) same is

module _ (term_width gutter : ℕ) where
  -- ---- line feeds that are shown

  title-fed : (feeds : Bool) (a b c : Option Title) → SameOption (IsTitleAsSet feeds) a b → SameOption (IsTitleRewrapped term_width) b c
      → SameOption (IsTitleRewrapped term_width) a c
  title-fed feeds None None c first second = second
  title-fed feeds None (Some b) c first second = cc
  title-fed feeds (Some a) None c first second = absurd first
  title-fed feeds (Some a) (Some b) None first second = absurd second
  title-fed feeds (Some a) (Some b) (Some c) first second = (text-before _ _ a.text b.text c.text first.2 second.0, second.1)

  element-fed : (feeds : Bool) (a b c : Element) → IsElementAsSet feeds a b → IsElementRewrapped term_width gutter b c
      → IsElementRewrapped term_width gutter a c
  element-fed feeds (Message a) (Message b) (Message c) first second = (text-before _ true a.text b.text c.text first.1 second.0, second.1)
  element-fed feeds (Message a) (Message b) c first second = absurd second
  element-fed feeds (Message a) b c first second = absurd first
  element-fed feeds a b c first second = tt

  group-fed : (feeds : Bool) (a b c : Group) → IsGroupAsSet feeds a b → IsGroupRewrapped term_width gutter b c → IsGroupRewrapped term_width gutter a c
  group-fed feeds a b c first second = (
    title-fed feeds a.title b.title c.title first.1 second.0,
    compose _ _ _ (element-fed feeds) a.elements.items b.elements.items _ first.2 second.1,
  )

  -- ---- lines around those that are kept

  element-around : (before after : ℕ) (a b c : Element) → IsElementWithContext before after a b → IsElementRewrapped term_width gutter b c
      → IsElementRewrapped term_width gutter a c
  element-around before after (Message a) (Message b) c first second = subst (λ m. IsElementRewrapped term_width gutter (Message m) c) first second
  element-around before after (Message a) b c first second = absurd first
  element-around before after a b c first second = tt

  around-same : (adds : Bool) (before after : ℕ) (fed around shown : List Group) → IsStep adds (IsGroupWithContext before after) fed around
      → AllZip (IsGroupRewrapped term_width gutter) around shown → AllZip (IsGroupRewrapped term_width gutter) fed shown
  around-same true before after fed around shown first second = grind (arith, compose, element-around)
  around-same false before after fed around shown first second = subst (λ (gs : List Group). AllZip (IsGroupRewrapped term_width gutter) gs shown) first second

-- ---- all steps

-- the titles and messages that are shown where they are wrapped
pub rewrapped-set : (form : Form) (r : Renderer) (groups shown : List Group) (made : IsRemade form r groups shown) (masks : Bool) → r.mask_controls ≡ masks
    → wraps form r ≡ true → AreRewrapped r (if masks then made.masked else groups) shown
rewrapped-set form r groups shown made masks set asked = by masks (subst (λ (given : Bool). IsStep given IsGroupMasked made.fed made.masked) set made.mask)
  where
    beside : ℕ
    beside = gutter_of_report r shown

    around : List Group
    around = made.around

    last : AreRewrapped r made.masked shown
    last =
        let pairs : AllZip (IsGroupWrapped r.term_width (gutter_of_report r around)) around shown =
        subst (λ (wrap : Bool). IsStep wrap (IsGroupWrapped r.term_width (gutter_of_report r around)) around shown) asked made.wrap in
        around-same r.term_width beside (adds_context form r) r.context_before r.context_after made.masked around shown made.context
        (wrapped-laws-hold r.term_width (gutter_of_report r around) r around shown refl refl pairs)

    by : (masks : Bool) → IsStep masks IsGroupMasked made.fed made.masked → AreRewrapped r (if masks then made.masked else groups) shown
    by true pairs = last
    by false same =
        compose _ (IsGroupRewrapped r.term_width beside) (IsGroupRewrapped r.term_width beside) (group-fed r.term_width beside r.show_line_feeds) groups
        made.fed shown made.feeds (subst (λ (gs : List Group). AllZip (IsGroupRewrapped r.term_width beside) gs shown) same last)

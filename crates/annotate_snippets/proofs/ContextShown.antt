-- A report with the lines around those that it keeps: what it has in common with the one in whose place it is shown, and that a page has just
-- the source rows of the lines near one that is kept, and of each single line between two of these.
use Rattle.std.proofs.lemmas.Grind.{common_steps}
use Rattle.annotate_snippets.proofs.Common.{◌≡◌, ◌∙◌, ℕ, ◌+◌, Bool, true, false, List, [], ◌∷◌, ◌++◌, Option, None, Some, All, IfSome, map, arith, refl, sym}
use Rattle.annotate_snippets.proofs.Common.{ap, ap₂, subst, if◌then◌else◌, All-cons, All-head, All-nil, All-tail, All-weaker, filter_agree, filter_map-append}
use Rattle.annotate_snippets.proofs.Common.{cow_str_bytes, AllZip, list_any, slice_get, slice_index_or, option_map, option_to_list, Range, keeps-around}
use Rattle.annotate_snippets.proofs.Common.{context_spans, visible_mark, Stays, HoldsSpan, IsElementWithContext, IsGroupWithContext, IsSnippetWithContext}
use Rattle.annotate_snippets.proofs.Common.{IsAnyTitle, IsElementSound, IsGroupSound, Layout, length-source_lines, SpanFault, AnnotationFits, ElementFits}
use Rattle.annotate_snippets.proofs.Common.{ReportFits, TitleFits, SourceSeen, trusted_of_element, Annotation, Element, Message, Cause, Suggestion, Origin}
use Rattle.annotate_snippets.proofs.Common.{Padding, Group, Snippet, Title, kept_lines, keeps, with_between, IsGroupMasked, IsAnnotationAsSet, IsElementAsSet}
use Rattle.annotate_snippets.proofs.Common.{IsSnippetAsSet, IsTitleAsSet, IsElementWrapped, IsGroupWrapped, IsTitleWrapped, Cell, IsRemade, IsStep}
use Rattle.annotate_snippets.proofs.Common.{adds_context, drawn_elements, is_drawn, element_faults, faults_from, first_fault, number_after_lines, number_faults}
use Rattle.annotate_snippets.proofs.Common.{refusal_of, span_faults, ShowsLinesAround, lines_with_context, HasOneLineTexts, PageLaws, ShowsSnippet, GroupPage}
use Rattle.annotate_snippets.proofs.Common.{NamedRow, lines_named, others, IsElementDrawable, cause_head, rows_after_cause, Renderer, ElementContext}
use Rattle.annotate_snippets.proofs.Common.{RenderError, Form}
use Rattle.std.proofs.Common.{append-nil}
use Rattle.annotate_snippets.proofs.BoundsLaws.{span-faultless}
use Rattle.annotate_snippets.proofs.FaultLemmas.{groups-drawable}
use Rattle.annotate_snippets.proofs.FeedsShown.{feeds-faithful}
use Rattle.annotate_snippets.proofs.OneLineTexts.{IsOneLineElement, IsOneLineLabel, IsOneLineTitle}
use Rattle.annotate_snippets.proofs.PageWords.{Page}
use Rattle.annotate_snippets.proofs.RemadeLemmas.{DrawnPair, IsFaithful, IsTextOf, drawn-pair, fits-made, line-made, own-texts}
use Rattle.annotate_snippets.proofs.WrapShown.{wrap-faithful}

-- ---- faults

module _ (group element : ℕ) (source : List ℕ) where
  -- the faults of annotations, numbered from n on
  abbrev faults_of : ℕ → List Annotation → List RenderError
  faults_of n marks = faults_from (λ m (a : Annotation). span_faults group element source m a.span) n marks

  -- annotations of parts of the source have none
  parts-clear : (n : ℕ) (spans : List (Range ℕ)) → All (HoldsSpan source) spans → faults_of n (map visible_mark spans) ≡ []
  parts-clear n [] parts = refl
  parts-clear n (span ∷ spans) parts =
      let part : HoldsSpan source span = All-head (HoldsSpan source) span spans parts in
      ap (λ (fault : Option SpanFault). option_to_list (option_map (refusal_of group element n) fault) ++ faults_of (n + 1) (map visible_mark spans))
      (span-faultless source span.start span.end part.ordered part.from part.to) ∙ parts-clear (n + 1) spans (All-tail (HoldsSpan source) span spans parts)

  -- so they add none to those before them
  added-clear : (n : ℕ) (marks : List Annotation) (spans : List (Range ℕ)) → All (HoldsSpan source) spans
      → faults_of n (marks ++ map visible_mark spans) ≡ faults_of n marks
  added-clear n [] spans parts = parts-clear n spans parts
  added-clear n (a ∷ marks) spans parts = cc (added-clear (n + 1) marks spans parts)

module _ (before after : ℕ) where
  -- an annotated snippet with the lines around those that it keeps has the faults that it had
  cause-around : (group element : ℕ) (a b : Snippet Annotation) → IsSnippetWithContext before after a b
      → element_faults group element (Cause b) ≡ element_faults group element (Cause a)
  cause-around group element a b is =
      let text : cow_str_bytes b.source.text ≡ cow_str_bytes a.source.text = ap (λ (s : SourceSeen). cow_str_bytes s.text) is.source in
      ap₂ (λ (x y : List RenderError). x ++ y) (ap (λ (source : List ℕ). faults_of group element source 0 b.markers.items) text
      ∙ ap (faults_of group element (cow_str_bytes a.source.text) 0) is.markers
      ∙ added-clear group element (cow_str_bytes a.source.text) 0 a.markers.items (context_spans before after a) is.spans)
      (ap₂ (λ start source. number_faults group element (number_after_lines start source)) is.line_start text)

  -- and so has each element
  element-around : (group element : ℕ) (a b : Element) → IsElementWithContext before after a b → element_faults group element b ≡ element_faults group element a
  element-around group element (Message a) (Message b) is = refl
  element-around group element (Cause a) (Cause b) is = cause-around group element a b is
  element-around group element (Suggestion a) (Suggestion b) is = ap (λ s. element_faults group element (Suggestion s)) is
  element-around group element (Origin a) (Origin b) is = refl
  element-around group element (Padding a) (Padding b) is = refl
  element-around group element a b is = absurd is

  -- ---- what the report keeps

  trusted-around : (a b : Element) → IsElementWithContext before after a b → AllZip IsTextOf (trusted_of_element a) (trusted_of_element b)
  trusted-around (Message a) (Message b) is =
      subst (λ m. AllZip IsTextOf (trusted_of_element (Message a)) (trusted_of_element (Message m))) (sym is) (own-texts (trusted_of_element (Message a)))
  trusted-around (Cause a) (Cause b) is = tt
  trusted-around (Suggestion a) (Suggestion b) is = tt
  trusted-around (Origin a) (Origin b) is = tt
  trusted-around (Padding a) (Padding b) is = tt
  trusted-around a b is = absurd is

  drawn-around : (a b : Element) → IsElementWithContext before after a b → is_drawn b ≡ is_drawn a
  drawn-around (Message a) (Message b) is = refl
  drawn-around (Cause a) (Cause b) is = refl
  drawn-around (Suggestion a) (Suggestion b) is = ap (λ s. is_drawn (Suggestion s)) is
  drawn-around (Origin a) (Origin b) is = refl
  drawn-around (Padding a) (Padding b) is = refl
  drawn-around a b is = absurd is

  pub context-faithful : IsFaithful Stays (IsElementWithContext before after)
  context-faithful = grind (arith, common_steps, element-around, own-texts, trusted-around, drawn-around)

-- ---- what finding lines asks

element-sound : (e : Element) → IsElementDrawable e → IsElementSound e
element-sound (Message message) drawable = tt
element-sound (Suggestion s) drawable = tt
element-sound (Origin origin) drawable = tt
element-sound (Padding padding) drawable = tt
element-sound (Cause s) drawable = grind (arith, length-source_lines, drawable.source, drawable.numbers, s.source.text, drawable.spans)

-- a report without a fault, all texts of which fit, has what is asked of it
any-title : (title : Option Title) → IfSome title IsAnyTitle
any-title None = tt
any-title (Some title) = tt

pub groups-sound : (groups : List Group) → ReportFits groups → first_fault groups ≡ None → All IsGroupSound groups
groups-sound groups fits none = grind (arith, All-weaker, element-sound, groups-drawable)

-- ---- what fits

added-fit : (marks : List Annotation) (spans : List (Range ℕ)) → All AnnotationFits marks → All AnnotationFits (marks ++ map visible_mark spans)
added-fit [] [] fit = All-nil AnnotationFits
added-fit [] (span ∷ spans) fit = All-cons AnnotationFits (visible_mark span) (map visible_mark spans) tt (added-fit [] spans fit)
added-fit (a ∷ marks) spans fit = grind (arith, added-fit marks spans (All-tail AnnotationFits a marks fit), All-cons, map, All-head, All-tail)

module _ (before after : ℕ) where
  cause-fits : (a b : Snippet Annotation) → IsSnippetWithContext before after a b → ElementFits (Cause a) → ElementFits (Cause b)
  cause-fits a b is fits = grind (arith, added-fit, is.source, fits.0, is.path, fits.1, is.markers, a.markers.items, fits.2)

  element-fits : (a b : Element) → IsElementWithContext before after a b → ElementFits a → ElementFits b
  element-fits (Message a) (Message b) is fits = subst (λ m. ElementFits (Message m)) (sym is) fits
  element-fits (Cause a) (Cause b) is fits = cause-fits a b is fits
  element-fits (Suggestion a) (Suggestion b) is fits = subst (λ s. ElementFits (Suggestion s)) (sym is) fits
  element-fits (Origin a) (Origin b) is fits = subst (λ o. ElementFits (Origin o)) (sym is) fits
  element-fits (Padding a) (Padding b) is fits = tt
  element-fits a b is fits = absurd is

  -- a report with such lines fits where it did
  pub fits-around : (groups shown : List Group) → AllZip (IsGroupWithContext before after) groups shown → ReportFits groups → ReportFits shown
  fits-around groups shown pairs fits =
      fits-made Stays (IsElementWithContext before after) (λ a b is fit. subst TitleFits (sym is) fit) element-fits groups shown pairs fits

  -- ---- texts of one line

  added-plain : (marks : List Annotation) (spans : List (Range ℕ)) → All IsOneLineLabel marks → All IsOneLineLabel (marks ++ map visible_mark spans)
  added-plain [] [] plain = All-nil IsOneLineLabel
  added-plain [] (span ∷ spans) plain = All-cons IsOneLineLabel (visible_mark span) (map visible_mark spans) tt (added-plain [] spans plain)
  added-plain (a ∷ marks) spans plain = grind (arith, added-plain marks spans (All-tail IsOneLineLabel a marks plain), All-cons, map, All-head, All-tail)

  cause-plain : (a b : Snippet Annotation) → IsSnippetWithContext before after a b → IsOneLineElement false (Cause a) → IsOneLineElement false (Cause b)
  cause-plain a b is plain = grind (arith, added-plain, is.path, plain.0, is.markers, a.markers.items, plain.1)

  element-plain : (a b : Element) → IsElementWithContext before after a b → IsOneLineElement false a → IsOneLineElement false b
  element-plain (Message a) (Message b) is plain = subst (λ m. IsOneLineElement false (Message m)) (sym is) plain
  element-plain (Cause a) (Cause b) is plain = cause-plain a b is plain
  element-plain (Suggestion a) (Suggestion b) is plain = subst (λ s. IsOneLineElement false (Suggestion s)) (sym is) plain
  element-plain (Origin a) (Origin b) is plain = subst (λ o. IsOneLineElement false (Origin o)) (sym is) plain
  element-plain (Padding a) (Padding b) is plain = tt
  element-plain a b is plain = absurd is

  pub plain-around : (groups shown : List Group) → AllZip (IsGroupWithContext before after) groups shown → HasOneLineTexts false groups
      → HasOneLineTexts false shown
  plain-around groups shown pairs plain =
      line-made Stays (IsElementWithContext before after) (λ a b is line. subst IsOneLineTitle (sym is) line) element-plain groups shown pairs plain

-- ---- which lines are kept

-- whether a span keeps a line is said by its bytes and its kind
keeps-same : (feeds : Bool) (source : List ℕ) (k : ℕ) (xs ys : List Annotation) → AllZip (IsAnnotationAsSet feeds) xs ys
    → list_any (keeps source k) ys ≡ list_any (keeps source k) xs
keeps-same feeds source k [] [] pairs = refl
keeps-same feeds source k [] (y ∷ ys) pairs = absurd pairs
keeps-same feeds source k (x ∷ xs) [] pairs = absurd pairs
keeps-same feeds source k (x ∷ xs) (y ∷ ys) pairs = grind (arith, keeps-same feeds source k xs ys pairs.1, ap₂, pairs.0.0, pairs.0.2, pairs.1)

-- so a snippet whose texts are as they are set keeps the lines that it kept
kept-set : (feeds : Bool) (a b : Snippet Annotation) → IsSnippetAsSet feeds (IsAnnotationAsSet feeds) a b
    → kept_lines b.fold (cow_str_bytes b.source.text) b.markers.items ≡ kept_lines a.fold (cow_str_bytes a.source.text) a.markers.items
kept-set feeds a b is = grind (arith, ap₂, filter_agree, keeps-same, b.markers.items, is.5, is.2.text, a.fold, a.source.text, a.markers.items, is.3)

module _ (before after : ℕ) where
  -- with the lines around them it keeps those near one of them
  lines-near : (feeds : Bool) (a fed b : Snippet Annotation) → IsSnippetAsSet feeds (IsAnnotationAsSet feeds) a fed → IsSnippetWithContext before after fed b
      → with_between (kept_lines b.fold (cow_str_bytes b.source.text) b.markers.items) ≡ lines_with_context before after a
  lines-near feeds a fed b is with = grind (arith, keeps-around, ap₂, kept-set, is.2.text)

  -- ---- rows

  none-named : (rows : List (List Cell)) → lines_named (others rows) ≡ []
  none-named [] = refl
  none-named (row ∷ rows) = none-named rows

  named-between : (head below : List (List Cell)) (rows : List NamedRow) → lines_named (others head ++ (rows ++ others below)) ≡ lines_named rows
  named-between head below rows = grind (arith, filter_map-append, none-named, append-nil)

  -- the lines that the rows of a snippet show
  named-shown : (r : Renderer) (layout : Layout) (around : ElementContext) (s : Snippet Annotation) (rows : List NamedRow)
      → ShowsSnippet r layout around s rows → lines_named rows ≡ with_between (kept_lines s.fold (cow_str_bytes s.source.text) s.markers.items)
  named-shown r layout around s rows shows =
      ap lines_named shows.rows_are ∙ named-between (cause_head r layout around s) (rows_after_cause r layout around) shows.after ∙ shows.lines

-- ---- the page

-- the snippet that stands in the place of one, with these lines
record IsAround (before after : ℕ) (a : Snippet Annotation) (e : Element) : Type 0 where
  shown : Snippet Annotation
  is : e ≡ Cause shown
  lines : with_between (kept_lines shown.fold (cow_str_bytes shown.source.text) shown.markers.items) ≡ lines_with_context before after a

snippet-around : (before after : ℕ) (feeds : Bool) (a : Snippet Annotation) (fed e : Element) → IsElementAsSet feeds (Cause a) fed
    → IsElementWithContext before after fed e → IsAround before after a e
snippet-around before after feeds a (Cause fed) (Cause b) is with = record { shown = b; is = refl; lines = lines-near before after feeds a fed b is with }
snippet-around before after feeds a (Cause fed) e is with = absurd with
snippet-around before after feeds a fed e is with = absurd is

same-around : (before after : ℕ) (a : Snippet Annotation) (e : Element) → IsElementWithContext before after (Cause a) e → IsAround before after a e
same-around before after a (Cause b) with = record { shown = b; is = refl; lines = ap with_between (keeps-around before after a b with).lines }
same-around before after a e with = absurd with

-- wrapped or not, a snippet stays
cause-wrapped : (asked : Bool) (term_width gutter : ℕ) (xs ys : List Group) (s : Snippet Annotation) → IsStep asked (IsGroupWrapped term_width gutter) xs ys
    → (i n : ℕ) (g : Group) → slice_get xs i ≡ Some g → slice_get (drawn_elements g) n ≡ Some (Cause s)
    → DrawnPair (λ a b. b ≡ a) ys i n (Cause s)
cause-wrapped true term_width gutter xs ys s pairs i n g at drawn =
    let one : DrawnPair (IsElementWrapped term_width gutter) ys i n (Cause s) =
    drawn-pair (IsTitleWrapped term_width) (IsElementWrapped term_width gutter) (wrap-faithful term_width gutter) xs ys pairs i n g (Cause s) at drawn in
    record { group = one.group; there = one.there; other = one.other; drawn = one.drawn; pair = stays one.other one.pair }
  where
    stays : (e : Element) → IsElementWrapped term_width gutter (Cause s) e → e ≡ Cause s
    stays (Cause b) is = ap (λ x. Cause x) is
    stays e is = absurd is
cause-wrapped false term_width gutter xs ys s same i n g at drawn =
    record { group = g; there = ap (λ (gs : List Group). slice_get gs i) same ∙ at; other = Cause s; drawn = drawn; pair = refl }

-- the snippet that is drawn in the place of one, with its lines
record IsDrawnAround (before after : ℕ) (around : List Group) (i n : ℕ) (s : Snippet Annotation) : Type 0 where
  group : Group
  there : slice_get around i ≡ Some group
  other : Element
  drawn : slice_get (drawn_elements group) n ≡ Some other
  found : IsAround before after s other

-- the page of the report that is shown, as the renderer is set, has just these lines
pub around-set : (form : Form) (r : Renderer) (groups shown : List Group) (page : Page) (made : IsRemade form r groups shown) (masks : Bool)
    → r.mask_controls ≡ masks → PageLaws r shown page → adds_context form r ≡ true
    → ShowsLinesAround r.context_before r.context_after (if masks then made.masked else groups) page
around-set form r groups shown page made masks set laws asked =
    record { lines = λ i n g part s at there drawn. by_step i n part s (before_step i n g s masks set at drawn) there }
  where
    before : ℕ
    before = r.context_before

    after : ℕ
    after = r.context_after

    feeds : Bool
    feeds = r.show_line_feeds

    with : AllZip (IsGroupWithContext before after) made.masked made.around
    with = subst (λ (adds : Bool). IsStep adds (IsGroupWithContext before after) made.masked made.around) asked made.context

    -- the snippet with its lines, of the masked report or of the given one
    before_step : (i n : ℕ) (g : Group) (s : Snippet Annotation) (masked : Bool) → r.mask_controls ≡ masked
        → slice_get (if masked then made.masked else groups) i ≡ Some g → slice_get (drawn_elements g) n ≡ Some (Cause s)
        → IsDrawnAround before after made.around i n s
    before_step i n g s true is at drawn =
        let one : DrawnPair (IsElementWithContext before after) made.around i n (Cause s) =
        drawn-pair Stays (IsElementWithContext before after) (context-faithful before after) made.masked made.around with i n g (Cause s) at drawn in
        record { group = one.group; there = one.there; other = one.other; drawn = one.drawn; found = same-around before after s one.other one.pair }
    before_step i n g s false is at drawn =
        let same : made.masked ≡ made.fed = subst (λ (given : Bool). IsStep given IsGroupMasked made.fed made.masked) is made.mask in
        let one : DrawnPair (IsElementAsSet feeds) made.fed i n (Cause s) =
        drawn-pair (IsTitleAsSet feeds) (IsElementAsSet feeds) (feeds-faithful feeds) groups made.fed made.feeds i n g (Cause s) at drawn in
        let two : DrawnPair (IsElementWithContext before after) made.around i n one.other =
        drawn-pair Stays (IsElementWithContext before after) (context-faithful before after) made.masked made.around with i n one.group one.other
        (ap (λ (gs : List Group). slice_get gs i) same ∙ one.there) one.drawn in
        record {
          group = two.group;
          there = two.there;
          other = two.other;
          drawn = two.drawn;
          found = snippet-around before after feeds s one.other two.other one.pair two.pair;
        }

    by_step : (i n : ℕ) (part : GroupPage) (s : Snippet Annotation) → IsDrawnAround before after made.around i n s → slice_get page i ≡ Some part
        → lines_named (slice_index_or part.elements n []) ≡ lines_with_context before after s
    by_step i n part s two there =
        let found : IsAround before after s two.other = two.found in
        let three : DrawnPair (λ a b. b ≡ a) shown i n (Cause found.shown) =
        cause-wrapped _ r.term_width _ made.around shown found.shown made.wrap i n two.group two.there (two.drawn ∙ ap (λ (e : Element). Some e) found.is) in
        let shows = (laws.shows.each i three.group part three.there there).elements.each n (Cause found.shown)
        (three.drawn ∙ ap (λ (e : Element). Some e) three.pair) in
        named-shown before after r _ _ found.shown _ shows ∙ found.lines

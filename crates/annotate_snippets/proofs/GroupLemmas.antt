-- The page that the graphic form has for a group shows it.
use Rattle.annotate_snippets.proofs.Common.{◌≡◌, ◌≢◌, ◌∙◌, ℕ, suc, ◌<◌, ◌==◌, true, not, Option, None, Some, List, [], ◌∷◌}
use Rattle.annotate_snippets.proofs.Common.{◌++◌, length, get_or, refl, sym, ap, subst, arith, inl, inr, flat_map, slice_get, option_to_list, cases_lt}
use Rattle.annotate_snippets.proofs.Common.{flat_map-append, append-nil, get_or_past, All-nil, All-append, All-filter, All-get_or, All-map, All-weaker}
use Rattle.annotate_snippets.proofs.Common.{filter_passes, get_or_from_slice_get, slice_get_cases, slice_get_within, Cell, SPACE, plain_text, links_after}
use Rattle.annotate_snippets.proofs.Common.{links_of, links_of-unlinked, trusted_of_element, trusted_of_title, Element, Message, Cause, Suggestion, Origin}
use Rattle.annotate_snippets.proofs.Common.{Padding, Group, Patch, Title, IsFree, IsFreeCell, id_links, title_rows, message_rows-unlinked, title_rows-links}
use Rattle.annotate_snippets.proofs.Common.{drawn_elements, next_of, context_at, is_drawn, begins_in_row_above, HasRoomFor, element_rows, rows_of_elements}
use Rattle.annotate_snippets.proofs.Common.{NamedRow, cells_of, IsElementDrawable, IsGroupDrawable, rows_after_title, title_part, IsFreeBut, IsFreeElement}
use Rattle.annotate_snippets.proofs.Common.{AreElementsShown, ShowsElement, Renderer, Layout, GroupPosition, Next, ElementContext, HasNoFeed}
use Rattle.std.specs.List.{All}
use Rattle.annotate_snippets.proofs.PageWords.{found_at}
use Rattle.annotate_snippets.proofs.OneLineTexts.{IsOneLineElement}
use Rattle.annotate_snippets.proofs.AreTexts.{IsTextElement, IsTextGroup}
use Rattle.annotate_snippets.proofs.CauseShown.{cause_shown}
use Rattle.annotate_snippets.proofs.ElementRows.{part_at, parts_count}
use Rattle.annotate_snippets.proofs.ElementShown.{ElementShown}
use Rattle.annotate_snippets.proofs.GroupShown.{GroupShown}
use Rattle.annotate_snippets.proofs.HeadingFeedLaws.{title_part-one_line}
use Rattle.annotate_snippets.proofs.HeadingShown.{message_shown, origin_shown, padding_shown, title_shown}
use Rattle.annotate_snippets.proofs.AroundLaws.{begins_is}
use Rattle.annotate_snippets.proofs.SuggestionLines.{IsEnding, found_ends}
use Rattle.annotate_snippets.proofs.SuggestionShown.{suggestion_shown}
use Rattle.annotate_snippets.proofs.TrustedLemmas.{AreTextsAmong, IsFreeRow, after_title-free, element_free, free_text, texts_among, title_part-free}

-- the rows of an element that is drawn show it
pub element_shown : (r : Renderer) (layout : Layout) (around : ElementContext) (found : List Cell) (e : Element) → IsElementDrawable e
    → is_drawn e ≡ true → HasRoomFor r layout e → (begins_in_row_above around ≡ true → IsEnding layout found) → IsTextElement e
    → ElementShown r layout around found e
element_shown r layout around found (Message message) drawable drawn room ends texts = message_shown r layout around found message
element_shown r layout around found (Cause snippet) drawable drawn room ends texts = cause_shown r layout around found snippet drawable room texts
element_shown r layout around found (Suggestion snippet) drawable drawn room ends texts =
    suggestion_shown r layout around found snippet drawable (some snippet.markers.items drawn) room ends texts
  where
    some : (patches : List Patch) → not (length patches == 0) ≡ true → patches ≢ []
    some [] given empty = cc
    some (p ∷ ps) given empty = cc
element_shown r layout around found (Origin origin) drawable drawn room ends texts = origin_shown r layout around found origin
element_shown r layout around found (Padding padding) drawable drawn room ends texts = padding_shown r layout around found padding

-- what holds of each part of a list holds of the whole
All-flat_map : {X Y : Type 0} (P : Y → Type 0) (f : X → List Y) (xs : List X) (d : X) → ((i : ℕ) → i < length xs → All P (f (get_or xs i d)))
    → All P (flat_map f xs)
All-flat_map P f [] d each = All-nil P
All-flat_map P f (x ∷ xs) d each =
    All-append P (f x) (flat_map f xs) (each 0 (omega arith)) (All-flat_map P f xs d (λ i within. each (suc i) (omega (arith, within))))

-- a row that links to nothing
abbrev IsUnlinked : List Cell → Type 0
IsUnlinked row = All (λ (cell : Cell). cell.link ≡ None) row

free_unlinked : (rows : List (List Cell)) → All IsFree rows → All IsUnlinked rows
free_unlinked rows free =
    All-weaker IsFree IsUnlinked (λ row is. All-weaker IsFreeCell (λ (cell : Cell). cell.link ≡ None) (λ cell both. both.1) row is) rows free

no_links : (rows : List (List Cell)) → All IsUnlinked rows → links_of rows ≡ []
no_links rows none =
    links_of-unlinked rows (λ r c. elim (cases_lt r (length rows)) [
      | inl within ↦ in_row (get_or rows r []) (All-get_or IsUnlinked rows r [] within none) c
      | inr past ↦ in_row (get_or rows r []) (subst IsUnlinked (sym (get_or_past rows r [] past)) (All-nil (λ (cell : Cell). cell.link ≡ None))) c
    ])
  where
    in_row : (row : List Cell) → IsUnlinked row → (c : ℕ) → (get_or row c SPACE).link ≡ None
    in_row row none c =
        elim (cases_lt c (length row)) [
          | inl within ↦ All-get_or (λ (cell : Cell). cell.link ≡ None) row c SPACE within none
          | inr past ↦ ap (λ (cell : Cell). cell.link) (get_or_past row c SPACE past)
        ]

-- the rows of an element link to nothing
element-unlinked : (r : Renderer) (layout : Layout) (around : ElementContext) (found : List Cell) (e : Element) (part : List NamedRow)
    → ShowsElement r layout around found e part → IsFreeElement e part → All IsUnlinked (cells_of part)
element-unlinked r layout around found (Message message) part shows free = grind (arith, message_rows-unlinked, shows.shows.rows_are, r.hyperlink, around.next)
element-unlinked r layout around found (Cause snippet) part shows free =
    free_unlinked (cells_of part) (All-map IsFree (λ (row : NamedRow). row.cells) part free)
element-unlinked r layout around found (Suggestion snippet) part shows free =
    free_unlinked (cells_of part) (All-map IsFree (λ (row : NamedRow). row.cells) part free)
element-unlinked r layout around found (Origin origin) part shows free =
    free_unlinked (cells_of part) (All-map IsFree (λ (row : NamedRow). row.cells) part free)
element-unlinked r layout around found (Padding padding) part shows free =
    free_unlinked (cells_of part) (All-map IsFree (λ (row : NamedRow). row.cells) part free)

-- what stands below rows that link to nothing doesn't link
links-append : (xs ys : List (List Cell)) → All IsUnlinked ys → links_of (xs ++ ys) ≡ links_of xs
links-append xs ys none = flat_map-append (λ row. links_after None row) xs ys ∙ ap (λ urls. links_of xs ++ urls) (no_links ys none) ∙ append-nil (links_of xs)

-- a title's part of a group links to what the title's id links to
title_part-links : (r : Renderer) (layout : Layout) (place : GroupPosition) (follows : Next) (title : Option Title)
    → links_of (title_part r layout place follows title) ≡ flat_map (λ (t : Title). id_links r.hyperlink t.id) (option_to_list title)
title_part-links r layout place follows None = refl
title_part-links r layout place follows (Some title) =
    let after : List (List Cell) = rows_after_title r layout place follows title.allows_styling in
    links-append (title_rows r.hyperlink title) after (free_unlinked after (after_title-free r layout place follows title.allows_styling))
    ∙ title_rows-links r.hyperlink title ∙ sym (append-nil (id_links r.hyperlink title.id))

module _ (r : Renderer) (layout : Layout) (place : GroupPosition) (file : Option (List ℕ)) (es : List Element) where
  abbrev parts : List (List NamedRow)
  parts = rows_of_elements r layout place file es

  -- the rows of element i
  abbrev rows_at : ℕ → Element → List NamedRow
  rows_at i e = element_rows r layout (context_at place file es i e) (found_at r layout es i) e

  -- the element whose part this is
  element_at : (i : ℕ) → i < length parts → (e : Element) × (slice_get es i ≡ Some e)
  element_at i within =
      elim (slice_get_cases es i).1 [
        | inl (e, inside, is, same) ↦ (e, is)
        | inr (past, none) ↦ absurd (omega (arith, within, parts_count r layout place file es, past))
      ]

  -- what holds of the rows of each element holds of all
  parts_each : (P : List Cell → Type 0) → ((i : ℕ) (e : Element) → slice_get es i ≡ Some e → All P (cells_of (rows_at i e))) → All P (flat_map cells_of parts)
  parts_each P each =
      All-flat_map P cells_of parts [] (λ i within. let e = element_at i within in
      subst (λ part. All P (cells_of part)) (sym (part_at r layout place file es i e.0 e.1)) (each i e.0 e.1))

  -- a property of each element
  own_of : (P : Element → Type 0) → All P es → (i : ℕ) (e : Element) → slice_get es i ≡ Some e → P e
  own_of P all i e is = subst P (get_or_from_slice_get es i e e is) (All-get_or P es i e (slice_get_within es i e is) all)

  module _ (drawable : All IsElementDrawable es) (drawn : All (λ e. is_drawn e ≡ true) es) (room : All (HasRoomFor r layout) es)
      (texts : All IsTextElement es) where
    part_shown : (i : ℕ) (e : Element) → slice_get es i ≡ Some e → ElementShown r layout (context_at place file es i e) (found_at r layout es i) e
    part_shown i e is =
        element_shown r layout (context_at place file es i e) (found_at r layout es i) e (own_of IsElementDrawable drawable i e is)
        (own_of (λ x. is_drawn x ≡ true) drawn i e is) (own_of (HasRoomFor r layout) room i e is)
        (λ begins. found_ends r layout es i (sym (begins_is place file es i e is) ∙ begins)) (own_of IsTextElement texts i e is)

    -- the parts show the elements
    parts_shown : AreElementsShown r layout place file es parts
    parts_shown = record {
      count = parts_count r layout place file es;
      each = λ i e is. subst (ShowsElement r layout (context_at place file es i e) (found_at r layout es i) e) (sym (part_at r layout place file es i e is))
          (part_shown i e is).shows;
      free = λ i e is. subst (IsFreeElement e) (sym (part_at r layout place file es i e is)) (part_shown i e is).free;
    }

    -- they link to nothing
    parts-unlinked : All IsUnlinked (flat_map cells_of parts)
    parts-unlinked =
        parts_each IsUnlinked (λ i e is.
        element-unlinked r layout (context_at place file es i e) (found_at r layout es i) e (rows_at i e) (part_shown i e is).shows (part_shown i e is).free)

    -- and hold no listed character but those of trusted texts
    parts-free : (trusted : List (List ℕ)) → All (λ e. AreTextsAmong trusted (trusted_of_element e)) es → All (IsFreeRow trusted) (flat_map cells_of parts)
    parts-free trusted among =
        parts_each (IsFreeRow trusted) (λ i e is.
        element_free trusted e (rows_at i e) (own_of (λ x. AreTextsAmong trusted (trusted_of_element x)) among i e is) (part_shown i e is).free)

    -- and no line feed, where no text of the elements brings one
    parts_one_line : All (IsOneLineElement layout.label_lines) es → All HasNoFeed (flat_map cells_of parts)
    parts_one_line plain = parts_each HasNoFeed (λ i e is. (part_shown i e is).one_line (own_of (IsOneLineElement layout.label_lines) plain i e is))

-- the page of a group shows it: each part shows its element
pub group_shown : (r : Renderer) (layout : Layout) (place : GroupPosition) (file : Option (List ℕ)) (g : Group) → IsGroupDrawable g
    → All (HasRoomFor r layout) (drawn_elements g) → IsTextGroup g → GroupShown r layout place file g
group_shown r layout place file g drawable room texts =
    let es : List Element = drawn_elements g in
    let own : All IsElementDrawable es = All-filter is_drawn IsElementDrawable g.elements.items drawable.1 in
    let drawn : All (λ e. is_drawn e ≡ true) es = filter_passes is_drawn g.elements.items in
    let title : List (List Cell) = title_part r layout place (next_of es) g.title in
    let below : List (List Cell) = flat_map cells_of (rows_of_elements r layout place file es) in
    let titles : List (List ℕ) = flat_map trusted_of_title (option_to_list g.title) in
    let trusted : List (List ℕ) = titles ++ flat_map trusted_of_element g.elements.items in
    let among : All (λ e. AreTextsAmong trusted (trusted_of_element e)) es = All-filter is_drawn (λ e. AreTextsAmong trusted (trusted_of_element e))
    g.elements.items (texts_among titles g.elements.items) in
    let free : All (IsFreeRow trusted) (title ++ below) = All-append (IsFreeRow trusted) title below
    (title_part-free r layout place (next_of es) g.title (flat_map trusted_of_element g.elements.items))
    (parts-free r layout place file es own drawn room texts trusted among) in
    record {
      shows = record { title = title_shown r layout place (next_of es) g.title; elements = parts_shown r layout place file es own drawn room texts };
      links = links-append title below (parts-unlinked r layout place file es own drawn room texts) ∙ title_part-links r layout place (next_of es) g.title;
      free = subst (λ ts. IsFreeBut ts (plain_text (title ++ below))) (sym (append-nil trusted)) (free_text trusted (title ++ below) free);
      one_line = λ plain. All-append HasNoFeed title below (title_part-one_line r layout place (next_of es) g.title plain.0)
          (parts_one_line r layout place file es own drawn room texts (All-filter is_drawn (IsOneLineElement layout.label_lines) g.elements.items plain.1));
    }

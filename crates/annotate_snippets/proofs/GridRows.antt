-- The groups of a report, in order, as they are drawn.
use Rattle.std.proofs.lemmas.Grind.{common_steps}
use Rattle.annotate_snippets.proofs.Common.{◌≡◌, ℕ, ◌+◌, ◌<◌, ◌==◌, All, Bool, true, false, Option, None, Some, List, [], ◌∷◌, ◌++◌, length, get_or, map, take}
use Rattle.annotate_snippets.proofs.Common.{drop, Bor, refl, sym, ap, ◌∙◌, arith, subst, if◌then◌else◌, ◌||◌, enumerate_from, slice_get, option_copied}
use Rattle.annotate_snippets.proofs.Common.{option_or, zero-add, nat_tests, append_assoc, get_or-map, length-map, length-take, take-append-drop, take_more}
use Rattle.annotate_snippets.proofs.Common.{get_or-enumerate_from, length-enumerate_from, get_or_from_slice_get, slice_get-get_or, slice_get_within, Layout}
use Rattle.annotate_snippets.proofs.Common.{Group, All-unmapped, drawn_elements, file_of_group, position_of_group, HasRoomFor, code_after, is_first_group}
use Rattle.annotate_snippets.proofs.Common.{graphic_form, group_page, layout_of_group, gutter_of_report, GroupPage, IsGroupDrawable, IsGroupPrepared}
use Rattle.annotate_snippets.proofs.Common.{element_of, Renderer, GroupPosition, Only, PreparedGroup}
use Rattle.annotate_snippets.specs.declared.renderer.element_context.GroupPosition.TheVariants.{First, Later}
use Rattle.annotate_snippets.proofs.ElementRows.{get-mapped, turn_item}
use Rattle.annotate_snippets.proofs.PageWords.{depth_of_group, page_at}
use Rattle.annotate_snippets.proofs.PreparedLemmas.{group_of}
use Rattle.annotate_snippets.proofs.RoomLemmas.{room_in_report}

-- the page of a report, by its groups
pub page_count : (r : Renderer) (groups : List Group) → length (graphic_form r groups) ≡ length groups
page_count r groups = length-map (enumerate_from 0 groups) (λ (pair : ℕ × Group). page_at r groups pair.0 pair.1) ∙ length-enumerate_from 0 groups

-- each is that of its group
page_of : (r : Renderer) (groups : List Group) (n : ℕ) (g : Group) (d : GroupPage) → slice_get groups n ≡ Some g
    → get_or (graphic_form r groups) n d ≡ page_at r groups n g
page_of r groups n g d is =
    let page : ℕ × Group → GroupPage = λ pair. page_at r groups pair.0 pair.1 in
    let inside : n < length groups = slice_get_within groups n g is in
    let numbered : n < length (enumerate_from 0 groups) = omega (arith, inside, length-enumerate_from 0 groups) in
    let item : get_or (enumerate_from 0 groups) n (0, g) ≡ (n, g) = get_or-enumerate_from 0 groups n (0, g) inside
    ∙ ap (λ (k : ℕ). (k, get_or groups n g)) (zero-add n) ∙ ap (λ (x : Group). (n, x)) (get_or_from_slice_get groups n g g is) in
    get_or-map page (enumerate_from 0 groups) n (0, g) d numbered ∙ ap page item

-- where two files are there in turn
pub copied_or : (a b : Option (Bor (List ℕ))) → option_copied (option_or a b) ≡ option_or (option_copied a) (option_copied b)
copied_or None b = refl
copied_or (Some x) b = refl

-- the layout is the one that the report gives the group
pub layout_is : (r : Renderer) (groups : List Group) (g : Group) (layout : Layout) (gutter depth : ℕ) → gutter ≡ gutter_of_report r groups
    → depth ≡ depth_of_group g → layout.gutter ≡ gutter → layout.code ≡ code_after gutter depth → layout.decor ≡ r.decor_style
    → layout.label_lines ≡ (r.label_lines || r.wrap) → layout.label_end ≡ (if r.wrap then r.term_width else 0) → layout ≡ layout_of_group r groups g
layout_is r groups g layout gutter depth wide deep left code decor lines ends = grind (arith, layout.code, layout.decor, layout.label_lines, layout.label_end)

-- it has room for the group's elements
pub room_at : (r : Renderer) (groups : List Group) (n : ℕ) (p : PreparedGroup) (layout : Layout) → All IsGroupDrawable groups → IsGroupPrepared p
    → slice_get groups n ≡ Some p.group.now → layout ≡ layout_of_group r groups p.group.now
    → All (λ e. HasRoomFor r layout (element_of e)) p.elements.items
room_at r groups n p layout drawable prepared here is =
    All-unmapped (HasRoomFor r layout) element_of p.elements.items (subst (λ es. All (HasRoomFor r layout) es) (sym prepared.elements_are) (subst (λ f.
    All (HasRoomFor r f) (drawn_elements p.group.now)) (sym is) (room_in_report r groups drawable n p.group.now here)))

-- the page of a group that is drawn in that layout, at its place and for its file, is the report's
page_here : (r : Renderer) (groups : List Group) (n : ℕ) (g : Group) (layout : Layout) (place : GroupPosition) (file : Option (List ℕ))
    → layout ≡ layout_of_group r groups g → place ≡ position_of_group (length groups) n → file ≡ file_of_group groups g
    → group_page r layout place file g ≡ page_at r groups n g
page_here r groups n g layout place file layout_here place_here file_here = grind arith

-- an iteration's group is the next of the report
pub turn_group : (groups : List Group) (ps : List PreparedGroup) (n i : ℕ) (p : PreparedGroup) → map group_of ps ≡ groups
    → (n < length (enumerate_from 0 ps)) × ((i, p) ≡ get_or (enumerate_from 0 ps) n (i, p)) → slice_get groups i ≡ Some p.group.now
turn_group groups ps n i p same turn = grind (arith, turn_item, get-mapped, p.group.now)

-- so no more groups were drawn yet than the report has
pub turn_within : (groups : List Group) (ps : List PreparedGroup) (n i : ℕ) (p : PreparedGroup) → map group_of ps ≡ groups
    → (n < length (enumerate_from 0 ps)) × ((i, p) ≡ get_or (enumerate_from 0 ps) n (i, p)) → n < length groups
turn_within groups ps n i p same turn = grind (arith, common_steps, slice_get_within, turn_item, turn_group, p.group.now)

-- it is prepared
pub turn_prepared : (ps : List PreparedGroup) (n i : ℕ) (p : PreparedGroup) → All IsGroupPrepared ps
    → (n < length (enumerate_from 0 ps)) × ((i, p) ≡ get_or (enumerate_from 0 ps) n (i, p)) → IsGroupPrepared p
turn_prepared ps n i p all turn =
    let item : slice_get ps n ≡ Some p = (turn_item ps n i p turn).1 in
    let within : n < length ps = slice_get_within ps n p item in
    let found : Some (get_or ps n p) ≡ Some p = sym (slice_get-get_or ps n p within) ∙ item in
    let is : get_or ps n p ≡ p = cc in subst IsGroupPrepared is (all n p within)

-- after the last turn as many groups were drawn as the report has
pub turns_all : (groups : List Group) (ps : List PreparedGroup) (n : ℕ) → map group_of ps ≡ groups → n ≡ length (enumerate_from 0 ps) → n ≡ length groups
turns_all groups ps n same all = omega (arith, all, length-enumerate_from 0 ps, length-map ps group_of, ap length same)

-- ---- what a sink takes up

-- a sink takes up a group where it stands in the report
pub taken_here : (r : Renderer) (groups : List Group) (ps : List PreparedGroup) (n i : ℕ) (p : PreparedGroup) (layout : Layout) (place : GroupPosition)
    (file : Option (List ℕ)) → map group_of ps ≡ groups → (n < length (enumerate_from 0 ps)) × ((i, p) ≡ get_or (enumerate_from 0 ps) n (i, p))
    → layout ≡ layout_of_group r groups p.group.now → place ≡ position_of_group (length groups) i → file ≡ file_of_group groups p.group.now
    → (T : Bool → GroupPage → Type 0) → T (is_first_group place) (group_page r layout place file p.group.now)
    → T (n == 0) (page_at r groups n p.group.now)
taken_here r groups ps n i p layout place file same turn layout_here place_here file_here T taken =
    grind (arith, common_steps, turn_item, page_at, page_here, first_at, turn_within)
  where
    first_of : (b c : Bool) → (b ≡ true → c ≡ true) → is_first_group (if b then Only else (if c then First else Later)) ≡ c
    first_of true c alone = sym (alone refl)
    first_of false true alone = refl
    first_of false false alone = refl

    zero_below : (count n : ℕ) → n < count → (count == 1) ≡ true → (n == 0) ≡ true
    zero_below count n within one = grind (arith, nat_tests)

    first_at : (count n : ℕ) → n < count → is_first_group (position_of_group count n) ≡ (n == 0)
    first_at count n within = first_of (count == 1) (n == 0) (zero_below count n within)

-- the page up to a group, that group, and those after it
pub record StandsAt (r : Renderer) (groups : List Group) (n : ℕ) (page : GroupPage) : Type 0 where
  pub count : length (take n (graphic_form r groups)) ≡ n
  pub next : take (n + 1) (graphic_form r groups) ≡ take n (graphic_form r groups) ++ page ∷ []
  pub whole : graphic_form r groups ≡ take n (graphic_form r groups) ++ page ∷ drop (n + 1) (graphic_form r groups)

pub stands_at : (r : Renderer) (groups : List Group) (ps : List PreparedGroup) (n i : ℕ) (p : PreparedGroup) → map group_of ps ≡ groups
    → (n < length (enumerate_from 0 ps)) × ((i, p) ≡ get_or (enumerate_from 0 ps) n (i, p)) → StandsAt r groups n (page_at r groups n p.group.now)
stands_at r groups ps n i p same turn =
    let at : i ≡ n = (turn_item ps n i p turn).0 in
    let g : Group = p.group.now in
    let here : slice_get groups n ≡ Some g = subst (λ k. slice_get groups k ≡ Some g) at (turn_group groups ps n i p same turn) in
    let within : n < length groups = turn_within groups ps n i p same turn in
    let page : GroupPage = page_at r groups n g in
    let form : List GroupPage = graphic_form r groups in
    let next : take (n + 1) form ≡ take n form ++ page ∷ [] = take_more form n page (omega (arith, within, page_count r groups))
    ∙ ap (λ d. take n form ++ d ∷ []) (page_of r groups n g page here) in
    record {
      count = omega (arith, length-take n form, within, page_count r groups);
      next = next;
      whole = sym (take-append-drop (n + 1) form) ∙ ap (λ gs. gs ++ drop (n + 1) form) next ∙ append_assoc (take n form) (page ∷ []) (drop (n + 1) form);
    }

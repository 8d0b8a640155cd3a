-- The rows of a group's elements, one below the other.
use Rattle.annotate_snippets.proofs.Common.{◌≡◌, ℕ, ◌+◌, ◌-◌, ◌<◌, ◌≤◌, All, Bool, true, false, not, drop, Option, Some, List, []}
use Rattle.annotate_snippets.proofs.Common.{◌∷◌, ◌++◌, length, get_or, map, refl, sym, ap, ◌∙◌, arith, subst, take, zero, suc, enumerate_from}
use Rattle.annotate_snippets.proofs.Common.{flat_map, slice_get, zero-add, flat_map-append, append-nil, get_or-map, length-map, take_all, take_more, Bor}
use Rattle.annotate_snippets.proofs.Common.{length-drop, option_copied, option_map, slice_get-map, ContextWalk, IsWalkAt, get_or-enumerate_from}
use Rattle.annotate_snippets.proofs.Common.{length-enumerate_from, get_or_from_slice_get, slice_get-get_or, slice_get_within, Cell, Element, context_at}
use Rattle.annotate_snippets.proofs.Common.{drawn_elements, first_two_share, is_end, next_of, last_row, element_rows, group_page, CanStandIn}
use Rattle.annotate_snippets.proofs.Common.{begins_in_row_above, shared_row, drawn_rows, title_part, Group, Title, rows_of_elements, NamedRow, cells_of}
use Rattle.annotate_snippets.proofs.Common.{group_rows, Renderer, Layout, element_of, PreparedElement, GroupPosition, Next, ElementContext}
use Rattle.std.proofs.Common.{add-one, append_assoc}
use Rattle.std.specs.Slice.{IsItemAt}
use Rattle.annotate_snippets.proofs.ContextLemmas.{front_item, slice_get-drop}
use Rattle.annotate_snippets.proofs.PageWords.{found_at}
use Rattle.annotate_snippets.proofs.AroundLaws.{begins_is, can_stand, shared_goes_on, shares_after, shares_before, shares_end}

module _ (r : Renderer) (layout : Layout) (place : GroupPosition) (file : Option (List ℕ)) (es : List Element) where
  abbrev parts : List (List NamedRow)
  parts = rows_of_elements r layout place file es

  abbrev rows_of : ℕ × Element → List NamedRow
  rows_of pair = element_rows r layout (context_at place file es pair.0 pair.1) (found_at r layout es pair.0) pair.1

  -- as many elements have rows as there are
  pub parts_count : length parts ≡ length es
  parts_count = length-map (enumerate_from 0 es) rows_of ∙ length-enumerate_from 0 es

  -- the rows of element i
  pub part_at : (i : ℕ) (e : Element) → slice_get es i ≡ Some e
      → get_or parts i [] ≡ element_rows r layout (context_at place file es i e) (found_at r layout es i) e
  part_at i e is =
      let inside : i < length es = slice_get_within es i e is in
      let numbered : i < length (enumerate_from 0 es) = omega (arith, inside, length-enumerate_from 0 es) in
      let item : get_or (enumerate_from 0 es) i (0, e) ≡ (i, e) = get_or-enumerate_from 0 es i (0, e) inside
      ∙ ap (λ (n : ℕ). (n, get_or es i e)) (zero-add i) ∙ ap (λ (x : Element). (i, x)) (get_or_from_slice_get es i e e is) in
      get_or-map rows_of (enumerate_from 0 es) i (0, e) [] numbered ∙ ap rows_of item

  -- the rows of the first so many stand below some rows, and nothing else, but the row in which the next one begins, where it shares that
  abbrev pub DrawnSoFar : ℕ → List (List Cell) → List (List Cell) → Type 0
  DrawnSoFar n old new =
      new ≡ (old ++ flat_map cells_of (take n parts)) ++ shared_row (shares_before es n) (found_at r layout es n)

  -- before the first element nothing is drawn
  pub drawn_none : (old : List (List Cell)) → DrawnSoFar 0 old old
  drawn_none old = sym (append-nil old) ∙ sym (append-nil (old ++ []))

  -- one more
  drawn_more : (n : ℕ) (e : Element) (old new : List (List Cell)) → slice_get es n ≡ Some e
      → new ≡ (old ++ flat_map cells_of (take n parts)) ++ drawn_rows r layout (context_at place file es n e) (found_at r layout es n) e
      → DrawnSoFar (n + 1) old new
  drawn_more n e old new here adds =
      let part : List NamedRow = element_rows r layout (context_at place file es n e) (found_at r layout es n) e in
      let before : List (List Cell) = flat_map cells_of (take n parts) in
      let within : n < length parts = omega (arith, parts_count, slice_get_within es n e here) in
      let taken : take (n + 1) parts ≡ take n parts ++ part ∷ [] = take_more parts n [] within ∙ ap (λ p. take n parts ++ p ∷ []) (part_at n e here) in
      let joined : flat_map cells_of (take (n + 1) parts) ≡ before ++ cells_of part = ap (flat_map cells_of) taken
      ∙ flat_map-append cells_of (take n parts) (part ∷ []) ∙ ap (λ rows. before ++ rows) (append-nil (cells_of part)) in
      let shares : Bool = first_two_share (drop n es) in
      let end : List Cell = last_row r layout (not (is_end (next_of (drop (n + 1) es)))) (Some e) in
      let next : List Cell = found_at r layout es (n + 1) in
      let ends : shares ≡ true → end ≡ next = λ shared. cc (shared_goes_on es n shared, here, one_back n) in
      let tail : shared_row shares end ≡ shared_row (shares_before es (n + 1)) next = cc (shared_same shares end next ends, shares_after es n) in
      cc (adds, append_assoc (old ++ before) (cells_of part) (shared_row shares end), append_assoc old before (cells_of part), joined, tail)
    where
      one_back : (n : ℕ) → n ≡ n + 1 - 1
      one_back n = omega arith

      -- rows that are shared are the same, where they are if they are shared
      shared_same : (shares : Bool) (row other : List Cell) → (shares ≡ true → row ≡ other) → shared_row shares row ≡ shared_row shares other
      shared_same true row other same = ap (λ (cells : List Cell). cells ∷ []) (same refl)
      shared_same false row other same = refl

  -- all of them
  drawn_all : (n : ℕ) (old new : List (List Cell)) → n ≡ length es → DrawnSoFar n old new → new ≡ old ++ flat_map cells_of parts
  drawn_all n old new all drawn = grind (arith, found_at, shares_end, take, append-nil, take_all, parts_count)

-- the item that an iteration has is the next of some, with its number
pub turn_item : {X : Type 0} (xs : List X) (n i : ℕ) (x : X) → (n < length (enumerate_from 0 xs)) × ((i, x) ≡ get_or (enumerate_from 0 xs) n (i, x))
    → (i ≡ n) × (slice_get xs n ≡ Some x)
turn_item xs n i x turn = grind (arith, length-enumerate_from, get_or-enumerate_from, slice_get-get_or, turn.0, turn.1)

-- the element at a place of what is made is made from the one at that place
pub get-mapped : {X Y : Type 0} (f : X → Y) (xs : List X) (n : ℕ) (x : X) → slice_get xs n ≡ Some x → slice_get (map f xs) n ≡ Some (f x)
get-mapped f [] n x is = absurd (cc)
get-mapped f (y ∷ xs) zero x is = grind arith
get-mapped f (y ∷ xs) (suc n) x is = get-mapped f xs n x is

-- an item of a list, and those after it
left_first : {X : Type 0} (xs rest : List X) (n : ℕ) (x : X) → drop n xs ≡ x ∷ rest → (slice_get xs n ≡ Some x) × (drop (suc n) xs ≡ rest)
left_first [] rest zero x is = absurd (cc)
left_first [] rest (suc n) x is = absurd (cc)
left_first (y ∷ xs) rest zero x is = grind arith
left_first (y ∷ xs) rest (suc n) x is = left_first xs rest n x is

-- the elements that are left are the one that a walk has come to and those after it
pub record AreLeft (ps : List PreparedElement) (n : ℕ) (left : List PreparedElement) (walk : ContextWalk) : Type 0 where
  pub left_are : drop n ps ≡ left
  pub within : n ≤ length ps
  pub walk_at : IsWalkAt (map element_of ps) n walk

-- before the first of them
pub left_all : (ps left : List PreparedElement) (walk : ContextWalk) → left ≡ ps → ((es : List Element) → IsWalkAt es 0 walk) → AreLeft ps 0 left walk
left_all ps left walk all begun = record { left_are = sym all; within = omega arith; walk_at = begun (map element_of ps) }

-- after the last
pub left_none : (ps left : List PreparedElement) (n : ℕ) (walk : ContextWalk) → AreLeft ps n left walk → length left ≡ 0 → n ≡ length ps
left_none ps left n walk at none = omega (arith, at.within, length-drop n ps, ap length at.left_are, none)

-- an element is passed: it is the next one, and what stands around it is known
pub record IsPassed (place : GroupPosition) (file : Option (List ℕ)) (ps : List PreparedElement) (n : ℕ) (p : PreparedElement) (at : ElementContext)
    (rest : List PreparedElement) (walk : ContextWalk) : Type 0 where
  pub here : slice_get ps n ≡ Some p
  pub at_is : at ≡ context_at place file (map element_of ps) n (element_of p)
  pub left : AreLeft ps (n + 1) rest walk

pub passed : (place : GroupPosition) (file : Option (List ℕ)) (ps left rest : List PreparedElement) (n : ℕ) (walk new : ContextWalk) (p : PreparedElement)
    (front : Option (Bor PreparedElement)) (at : ElementContext) → AreLeft ps n left walk → left ≡ p ∷ rest → IsItemAt rest 0 front
    → ((es : List Element) (i : ℕ) → IsWalkAt es i walk → slice_get es i ≡ Some (element_of p)
    → slice_get es (i + 1) ≡ option_map element_of (option_copied front) → at ≡ context_at place file es i (element_of p))
    → ((es : List Element) (i : ℕ) → IsWalkAt es i walk → slice_get es i ≡ Some (element_of p)
    → slice_get es (i + 1) ≡ option_map element_of (option_copied front) → IsWalkAt es (i + 1) new)
    → IsPassed place file ps n p at rest new
passed place file ps left rest n walk new p front at before is first around walked =
    let es : List Element = map element_of ps in
    let split = left_first ps rest n p (before.left_are ∙ is) in
    let after : drop (n + 1) ps ≡ rest = ap (λ k. drop k ps) (add-one n) ∙ split.1 in
    let here : slice_get es n ≡ Some (element_of p) = get-mapped element_of ps n p split.0 in
    let then : slice_get es (n + 1) ≡ option_map element_of (option_copied front) = slice_get-map element_of ps (n + 1)
    ∙ ap (option_map element_of) (sym (slice_get-drop ps (n + 1)) ∙ ap (λ (qs : List PreparedElement). slice_get qs 0) after ∙ front_item rest front first) in
    let inside : n < length ps = slice_get_within ps n p split.0 in
    record {
      here = split.0;
      at_is = around es n before.walk_at here then;
      left = record { left_are = after; within = omega (arith, inside); walk_at = walked es n before.walk_at here then };
    }

-- what holds of all of some items holds of each
pub all_at : {X : Type 0} (P : X → Type 0) (xs : List X) (n : ℕ) (x : X) → All P xs → slice_get xs n ≡ Some x → P x
all_at P xs n x all here = subst P (get_or_from_slice_get xs n x x here) (all n x (slice_get_within xs n x here))

-- an element can stand where it is passed
pub stands_there : (place : GroupPosition) (file : Option (List ℕ)) (ps : List PreparedElement) (n : ℕ) (p : PreparedElement) (at : ElementContext)
    → slice_get ps n ≡ Some p → at ≡ context_at place file (map element_of ps) n (element_of p) → CanStandIn at (element_of p)
stands_there place file ps n p at here at_is =
    subst (λ a. CanStandIn a (element_of p)) (sym at_is) (can_stand place file (map element_of ps) n (element_of p) (get-mapped element_of ps n p here))

-- its rows stand below those before it
pub one_drawn : (r : Renderer) (layout : Layout) (place : GroupPosition) (file : Option (List ℕ)) (ps : List PreparedElement)
    (n : ℕ) (p : PreparedElement) (at : ElementContext) (old mid new : List (List Cell)) → slice_get ps n ≡ Some p
    → at ≡ context_at place file (map element_of ps) n (element_of p) → DrawnSoFar r layout place file (map element_of ps) n old mid
    → ((above : List (List Cell)) (found : List Cell) → mid ≡ above ++ shared_row (begins_in_row_above at) found
    → new ≡ above ++ drawn_rows r layout at found (element_of p)) → DrawnSoFar r layout place file (map element_of ps) (n + 1) old new
one_drawn r layout place file ps n p at old mid new at_n at_is before adds =
    let es : List Element = map element_of ps in
    let e : Element = element_of p in
    let here : slice_get es n ≡ Some e = get-mapped element_of ps n p at_n in
    let begins : begins_in_row_above at ≡ shares_before es n = ap begins_in_row_above at_is ∙ begins_is place file es n e here in
    let above : List (List Cell) = old ++ flat_map cells_of (take n (rows_of_elements r layout place file es)) in
    let found : List Cell = found_at r layout es n in
    let added : new ≡ above ++ drawn_rows r layout at found e = adds above found (before ∙ ap (λ b. above ++ shared_row b found) (sym begins)) in
    drawn_more r layout place file es n e old new here (added ∙ ap (λ a. above ++ drawn_rows r layout a found e) at_is)

-- after the last all are drawn
pub each_drawn : (r : Renderer) (layout : Layout) (place : GroupPosition) (file : Option (List ℕ)) (ps left : List PreparedElement) (n : ℕ)
    (walk : ContextWalk) (old new : List (List Cell)) → AreLeft ps n left walk → length left ≡ 0
    → DrawnSoFar r layout place file (map element_of ps) n old new → new ≡ old ++ flat_map cells_of (rows_of_elements r layout place file (map element_of ps))
each_drawn r layout place file ps left n walk old new at none drawn =
    drawn_all r layout place file (map element_of ps) n old new (left_none ps left n walk at none ∙ sym (length-map ps element_of)) drawn

-- the rows of a title that is drawn in an empty grid
pub title_drawn : (r : Renderer) (layout : Layout) (place : GroupPosition) (next after : Next) (title : Title) (given : Option Title)
    (empty mid : List (List Cell)) → empty ≡ [] → next ≡ after → given ≡ Some title → mid ≡ empty ++ title_part r layout place next (Some title)
    → mid ≡ title_part r layout place after given
title_drawn r layout place next after title given empty mid none follows some is = grind arith

-- so the rows of a group's title and of its elements that are drawn are those of its page
pub group_drawn : (r : Renderer) (layout : Layout) (place : GroupPosition) (file : Option (List ℕ)) (g : Group) (es : List Element)
    (title new : List (List Cell)) → es ≡ drawn_elements g → title ≡ title_part r layout place (next_of es) g.title
    → new ≡ title ++ flat_map cells_of (rows_of_elements r layout place file es) → new ≡ group_rows (group_page r layout place file g)
group_drawn r layout place file g es title new are titled is = grind (arith, g.title)

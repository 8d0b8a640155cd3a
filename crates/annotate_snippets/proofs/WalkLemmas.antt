-- What a walk over some elements or groups knows of those that it hasn't met yet.
use Rattle.std.proofs.Common.{arith}
use Rattle.annotate_snippets.proofs.Common.{◌≡◌, ◌≢◌, ℕ, ◌+◌, ◌<◌, ◌≤◌, ◌∙◌, List, Option, Some, None, length, drop, get_or}
use Rattle.annotate_snippets.proofs.Common.{sym, ap, refl, cons_option, filter_map, slice_get, drop_more, drop_all, Element, Message, Cause, Suggestion, Origin}
use Rattle.annotate_snippets.proofs.Common.{Padding, Annotation, Snippet, Group, file_of_element, primary_path}
use Rattle.snippet_model.specs.declared.snippet.Origin.{Origin as PlaceGiven}

-- what the rest of a list gives, one item on
pub filter_map-rest : {X Y : Type 0} (h : X → Option Y) (xs : List X) (i : ℕ) (x : X) → i < length xs → x ≡ get_or xs i x
    → filter_map h (drop i xs) ≡ cons_option (h x) (filter_map h (drop (i + 1) xs))
filter_map-rest h xs i x within is = ap (filter_map h) (drop_more xs i x within) ∙ ap (λ y. cons_option (h y) (filter_map h (drop (i + 1) xs))) (sym is)

-- where nothing before an item gives anything, and the item does, it is the first
pub filter_map-first : {X Y : Type 0} (h : X → Option Y) (xs : List X) (i : ℕ) (x : X) (y : Y) → filter_map h xs ≡ filter_map h (drop i xs) → i < length xs
    → x ≡ get_or xs i x → h x ≡ Some y → slice_get (filter_map h xs) 0 ≡ Some y
filter_map-first h xs i x y none within is some = cc (none, filter_map-rest h xs i x within is, some)

-- nor does it give anything, where it doesn't
pub filter_map-passed : {X Y : Type 0} (h : X → Option Y) (xs : List X) (i : ℕ) (x : X) → filter_map h xs ≡ filter_map h (drop i xs) → i < length xs
    → x ≡ get_or xs i x → h x ≡ None → filter_map h xs ≡ filter_map h (drop (i + 1) xs)
filter_map-passed h xs i x none within is nothing = none ∙ filter_map-rest h xs i x within is ∙ ap (λ t. cons_option t (filter_map h (drop (i + 1) xs))) nothing

-- and nothing does, where no item is left
pub filter_map-none : {X Y : Type 0} (h : X → Option Y) (xs : List X) (i : ℕ) → filter_map h xs ≡ filter_map h (drop i xs) → length xs ≤ i
    → slice_get (filter_map h xs) 0 ≡ None
filter_map-none h xs i none past = ap (λ ys. slice_get ys 0) (none ∙ ap (filter_map h) (drop_all i xs past))

-- the path of a group's primary file
pub primary_path-first : (g : Group) (es : List Element) (i : ℕ) (e : Element) (path : Option (List ℕ)) → es ≡ g.elements.items
    → filter_map file_of_element es ≡ filter_map file_of_element (drop i es) → i < length es → e ≡ get_or es i e → file_of_element e ≡ Some path
    → path ≡ primary_path g
primary_path-first g es i e path same none within is some = grind (arith, filter_map-first)

-- a group has no primary path where none of its elements has one
pub primary_path-none : (g : Group) (es : List Element) (i : ℕ) → es ≡ g.elements.items → filter_map file_of_element es ≡ filter_map file_of_element (drop i es)
    → length es ≤ i → None ≡ primary_path g
primary_path-none g es i same none past = grind (arith, filter_map-none)

-- an element that is neither source with annotations nor an origin is of no file
pub no_file : (e : Element) → ((s : Snippet Annotation) → e ≢ Cause s) → ((o : PlaceGiven) → e ≢ Origin o) → file_of_element e ≡ None
no_file (Message m) cause origin = refl
no_file (Cause s) cause origin = absurd (cause s refl)
no_file (Suggestion s) cause origin = refl
no_file (Origin o) cause origin = absurd (origin o refl)
no_file (Padding p) cause origin = refl

-- the path of a report's primary file
pub report_path-first : (gs : List Group) (i : ℕ) (g : Group) (path : List ℕ) → filter_map primary_path gs ≡ filter_map primary_path (drop i gs) → i < length gs
    → g ≡ get_or gs i g → primary_path g ≡ Some path → Some path ≡ slice_get (filter_map primary_path gs) 0
report_path-first gs i g path none within is some = sym (filter_map-first primary_path gs i g path none within is some)

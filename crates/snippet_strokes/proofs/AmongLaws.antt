-- Lists and what stands among their elements.
use Rattle.snippet_strokes.proofs.Common.{◌≡◌, Option, Some, None, List, [], ◌∷◌, inl, inr, refl, ap, ◌∙◌, arith, cons_option, filter_map}
use Rattle.snippet_strokes.proofs.Common.{All-cons, All-nil, Among, contains-cases, contains-here, contains-there}
use Rattle.std.specs.List.{All, Contains}

-- what a list contains is among its elements
pub contains_among : {X : Type 0} (xs : List X) (x : X) → Contains xs x → Among xs x
contains_among [] x among = absurd (omega (arith, among.1))
contains_among (y ∷ xs) x among =
    elim (contains-cases x y xs among) [ inl same ↦ inl same | inr later ↦ inr (contains_among xs x later) ]

-- what is among the elements of a list it contains
pub among_contains : {X : Type 0} (xs : List X) (x : X) → Among xs x → Contains xs x
among_contains [] x among = absurd among
among_contains (y ∷ xs) x (inl same) = contains-here x y xs same
among_contains (y ∷ xs) x (inr later) = contains-there x y xs (among_contains xs x later)

-- what holds of whatever is among some elements holds of each
pub all_from_among : {X : Type 0} (P : X → Type 0) (xs : List X) → ((x : X) → Among xs x → P x) → All P xs
all_from_among P [] each = All-nil P
all_from_among P (x ∷ xs) each = All-cons P x xs (each x (inl refl)) (all_from_among P xs (λ y later. each y (inr later)))

-- what is among what a partial function gives of some elements it gives of one
pub filter_map_cases : {X Y : Type 0} (h : X → Option Y) (xs : List X) (y : Y) → Among (filter_map h xs) y → (x : X) × Among xs x × (h x ≡ Some y)
filter_map_cases {X} {Y} h [] y here = absurd here
filter_map_cases {X} {Y} h (x ∷ xs) y here = by_first (filter_map_cases h xs y) (h x) refl here
  where
    by_first : (Among (filter_map h xs) y → (z : X) × Among xs z × (h z ≡ Some y)) → (o : Option Y) → h x ≡ o → Among (cons_option o (filter_map h xs)) y
        → (z : X) × Among (x ∷ xs) z × (h z ≡ Some y)
    by_first rest None is among = let more = rest among in (more.0, inr more.1, more.2)
    by_first rest (Some w) is (inl same) = (x, inl refl, is ∙ ap Some same)
    by_first rest (Some w) is (inr later) = let more = rest later in (more.0, inr more.1, more.2)

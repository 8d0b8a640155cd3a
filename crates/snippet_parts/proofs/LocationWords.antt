-- Words for what the places that heads name are made of, which proofs cite.
use Rattle.snippet_parts.proofs.Common.{◌≡◌, ℕ, ◌+◌, true, Option, Some, None, List, [], ◌∷◌, ◌++◌, map, refl, sym, ap, ◌∙◌, filter, filter_map, slice_get}
use Rattle.snippet_parts.proofs.Common.{option_map, option_or, append-nil, is_primary, LineAnnotation, Location, KeptLine, least, least_place, primary_place}
use Rattle.snippet_parts.proofs.Common.{secondary_place, arith}

-- the columns at which some entries start: characters, counted from 1
abbrev pub start_columns : List LineAnnotation → List ℕ
start_columns parts = map (λ p. p.start.char + 1) parts

-- two choices among entries: the primary ones, and all
abbrev pub primary_parts : List LineAnnotation → List LineAnnotation
primary_parts parts = filter (λ p. is_primary p.kind) parts

abbrev pub all_parts : List LineAnnotation → List LineAnnotation
all_parts parts = filter (λ p. true) parts

-- the least column on a line at which an entry of a choice starts, if there is one
abbrev pub choice_place : (List LineAnnotation → List LineAnnotation) → KeptLine → Option Location
choice_place choice line =
    option_map (λ column. record { line = line.number; column = Some column }) (least (start_columns (choice line.parts)))

-- the column on a line at which its first entry starts, if there is one
abbrev pub entry_place : KeptLine → Option Location
entry_place line = option_map (λ p. record { line = line.number; column = Some (p.start.char + 1) }) (slice_get line.parts 0)

-- a line alone
abbrev pub bare_place : KeptLine → Option Location
bare_place line = Some (record { line = line.number; column = None })

-- the place on the first of some lines that has one
abbrev pub first_place : (KeptLine → Option Location) → List KeptLine → Option Location
first_place place_on [] = None
first_place place_on (line ∷ lines) = option_or (place_on line) (first_place place_on lines)

-- the first of the places of some lines, and of others after them
first-is : (place_on : KeptLine → Option Location) (lines : List KeptLine) (others : List Location)
    → slice_get (filter_map place_on lines ++ others) 0 ≡ option_or (first_place place_on lines) (slice_get others 0)
first-is place_on [] others = refl
first-is place_on (line ∷ lines) others = grind (arith, first_place, first-is place_on lines others)

-- all entries are chosen where each is
pub filter-true : {X : Type 0} (xs : List X) → filter (λ x. true) xs ≡ xs
filter-true [] = refl
filter-true (x ∷ xs) = ap (λ ys. x ∷ ys) (filter-true xs)

or-none : (o : Option Location) → option_or o None ≡ o
or-none x = grind (arith)

-- what the head of a primary snippet names, line by line
pub primary-is : (lines : List KeptLine)
    → primary_place lines ≡ option_or (first_place (choice_place primary_parts) lines) (first_place (choice_place all_parts) lines)
primary-is lines =
    first-is (least_place is_primary) lines (filter_map (least_place (λ kind. true)) lines)
    ∙ ap (option_or (first_place (choice_place primary_parts) lines))
    (ap (λ places. slice_get places 0) (sym (append-nil (filter_map (least_place (λ kind. true)) lines)))
    ∙ first-is (least_place (λ kind. true)) lines [] ∙ or-none (first_place (choice_place all_parts) lines))

-- and that of another snippet
pub secondary-is : (lines : List KeptLine) → secondary_place lines ≡ option_or (first_place entry_place lines) (first_place bare_place lines)
secondary-is lines =
    first-is entry_place lines (map (λ line. record { line = line.number; column = None }) lines)
    ∙ ap (option_or (first_place entry_place lines)) (alone lines)
  where
    alone : (lines : List KeptLine)
        → slice_get (map (λ (line : KeptLine). record { line = line.number; column = None }) lines) 0 ≡ first_place bare_place lines
    alone [] = refl
    alone (line ∷ lines) = refl

-- The fewest and the most runs of a row's cells, stretch by stretch.
use Rattle.snippet_grid.proofs.Common.{common_steps, ◌≡◌, ℕ, zero, suc, ◌+◌, ◌<◌, ◌≤◌, List, [], ◌∷◌, length, map, Bool, true, false, not, ◌&&◌, ◌||◌}
use Rattle.snippet_grid.proofs.Common.{if◌then◌else◌, nat_eq, Option, None, Some, refl, sym, ap, ◌∙◌, subst, arith, false≢true, same_text, nat_list_eq_equiv}
use Rattle.snippet_grid.proofs.Common.{range_with_len, option_eq, Cell, SPACE, ElementStyle, MainHeaderMsg, HeaderMsg, LineAndColumn, Quotation, NoStyle}
use Rattle.snippet_grid.proofs.Common.{LineNumber, UnderlinePrimary, LabelPrimary, UnderlineSecondary, LabelSecondary, Level, Addition, Removal, LevelInner}
use Rattle.snippet_grid.proofs.Common.{Error, Warning, Info, Note, Help, num_cells, Look, look_of, same_level, same_role, same_look, goes_on, is_bare}
use Rattle.snippet_grid.proofs.Common.{fewest_after, most_after, most_runs}
use lib.Pointwise.{pointwise}

-- ---- what it says that two looks are the same

level_is : (a b : LevelInner) → same_level a b ≡ true → a ≡ b
level_is Error Error h = refl
level_is Warning Warning h = refl
level_is Info Info h = refl
level_is Note Note h = refl
level_is Help Help h = refl
level_is a b h = absurd (false≢true h)

level_own : (a : LevelInner) → same_level a a ≡ true
level_own Error = refl
level_own Warning = refl
level_own Info = refl
level_own Note = refl
level_own Help = refl

role_is : (a b : ElementStyle) → same_role a b ≡ true → a ≡ b
role_is MainHeaderMsg MainHeaderMsg h = refl
role_is HeaderMsg HeaderMsg h = refl
role_is LineAndColumn LineAndColumn h = refl
role_is Quotation Quotation h = refl
role_is NoStyle NoStyle h = refl
role_is LineNumber LineNumber h = refl
role_is UnderlinePrimary UnderlinePrimary h = refl
role_is LabelPrimary LabelPrimary h = refl
role_is UnderlineSecondary UnderlineSecondary h = refl
role_is LabelSecondary LabelSecondary h = refl
role_is (Level a) (Level b) h = ap Level (level_is a b h)
role_is Addition Addition h = refl
role_is Removal Removal h = refl
role_is a b h = absurd (false≢true h)

role_own : (a : ElementStyle) → same_role a a ≡ true
role_own MainHeaderMsg = refl
role_own HeaderMsg = refl
role_own LineAndColumn = refl
role_own Quotation = refl
role_own NoStyle = refl
role_own LineNumber = refl
role_own UnderlinePrimary = refl
role_own LabelPrimary = refl
role_own UnderlineSecondary = refl
role_own LabelSecondary = refl
role_own (Level a) = level_own a
role_own Addition = refl
role_own Removal = refl

link_is : (a b : Option (List ℕ)) → option_eq (pointwise nat_eq) a b ≡ true → a ≡ b
link_is None None h = refl
link_is None (Some b) h = absurd (false≢true h)
link_is (Some a) None h = absurd (false≢true h)
link_is (Some a) (Some b) h = ap Some (same_text a b (sym h))

link_own : (a : Option (List ℕ)) → option_eq (pointwise nat_eq) a a ≡ true
link_own None = refl
link_own (Some a) = nat_list_eq_equiv.refl a

both_true : (a b : Bool) → (a && b) ≡ true → (a ≡ true) × (b ≡ true)
both_true true b h = (refl, h)
both_true false b h = absurd (false≢true h)

-- two looks that are the same are equal
pub look_is : (a b : Look) → same_look a b ≡ true → a ≡ b
look_is a b h =
    let both = both_true (same_role a.role b.role) (option_eq (pointwise nat_eq) a.link b.link) h in
    ap (λ (r : ElementStyle). (let look : Look = record { role = r; link = a.link } in look)) (role_is a.role b.role both.0)
    ∙ ap (λ (l : Option (List ℕ)). (let look : Look = record { role = b.role; link = l } in look)) (link_is a.link b.link both.1)

-- a look is the same as itself
pub look_own : (a b : Look) → a ≡ b → same_look a b ≡ true
look_own a b same =
    subst (λ (l : Look). same_look a l ≡ true) same (ap (λ (t : Bool). t && option_eq (pointwise nat_eq) a.link a.link) (role_own a.role) ∙ link_own a.link)

-- ---- the cells from one on

abbrev pub cells_at : (ℕ → Cell) → ℕ → ℕ → List Cell
cells_at f a n = map f (range_with_len a n)

-- ---- the fewest runs

-- a run that reaches up to the rest of a row or doesn't, of whatever look, makes a difference of one
near : (g h b : Bool) (look : Look) (cells : List Cell) → ((s t : Option Look) → fewest_after s cells ≤ 1 + fewest_after t cells)
    → (if g || b then 0 else 1) + fewest_after (if not g && b then None else Some look) cells ≤ 1 +
    ((if h || b then 0 else 1) + fewest_after (if not h && b then None else Some look) cells)
near true true b look cells less = omega arith
near true false true look cells less = omega (arith, less (Some look) None)
near true false false look cells less = omega arith
near false true true look cells less = omega (arith, less None (Some look))
near false true false look cells less = omega arith
near false false true look cells less = omega arith
near false false false look cells less = omega arith

pub fewest_near : (s t : Option Look) (cells : List Cell) → fewest_after s cells ≤ 1 + fewest_after t cells
fewest_near s t [] = omega arith
fewest_near s t (cell ∷ cells) =
    near (goes_on s cell) (goes_on t cell) (is_bare cell) (look_of cell) cells (λ s t. fewest_near s t cells)

going : (g b : Bool) (look : Look) (cells : List Cell) → g ≡ true
    → (if g || b then 0 else 1) + fewest_after (if not g && b then None else Some look) cells ≡ fewest_after (Some look) cells
going true b look cells h = omega arith
going false b look cells h = absurd (false≢true h)

-- a run goes on over cells of its look
fewest_going : (look : Look) (cell : Cell) (cells : List Cell) → look ≡ look_of cell → fewest_after (Some look) (cell ∷ cells) ≡ fewest_after (Some look) cells
fewest_going look cell cells same = grind (arith, common_steps, going, look_own)

fewest_on : (f : ℕ → Cell) (look : Look) (m n a to rest : ℕ) → a + m ≡ to → n ≡ m + rest → ((c : ℕ) → a ≤ c → c < to → look ≡ look_of (f c))
    → fewest_after (Some look) (cells_at f a n) ≤ fewest_after (Some look) (cells_at f to rest)
fewest_on f look zero n a to rest reach long same = grind (arith, common_steps)
fewest_on f look (suc m) zero a to rest reach long same = absurd (omega arith)
fewest_on f look (suc m) (suc n) a to rest reach long same =
    omega (
      arith,
      fewest_going look (f a) (cells_at f (a + 1) n) (same a (omega arith) (omega arith)),
      fewest_on f look m n (a + 1) to rest (omega arith)
          (omega arith) (λ c low high. same c (omega arith) high),
    )

-- a stretch of one look needs at most one run
pub fewest_run : (f : ℕ → Cell) (look : Look) (m n a to rest bound : ℕ) → a + m ≡ to → n ≡ m + rest → ((c : ℕ) → a ≤ c → c < to → look ≡ look_of (f c))
    → ((s : Option Look) → fewest_after s (cells_at f to rest) ≤ bound) → (s : Option Look) → fewest_after s (cells_at f a n) ≤ 1 + bound
fewest_run f look m n a to rest bound reach long same after s =
    omega (arith, fewest_near s (Some look) (cells_at f a n), fewest_on f look m n a to rest reach long same, after (Some look))

bare_step : (g b : Bool) (look : Look) (cells : List Cell) (bound : ℕ) → b ≡ true → ((s : Option Look) → fewest_after s cells ≤ bound) →
    (if g || b then 0 else 1) + fewest_after (if not g && b then None else Some look) cells ≤ bound
bare_step true true look cells bound is after = omega (arith, after (Some look))
bare_step false true look cells bound is after = omega (arith, after None)
bare_step g false look cells bound is after = absurd (false≢true is)

-- bare spaces need none
pub fewest_gap : (f : ℕ → Cell) (m n a to rest bound : ℕ) → a + m ≡ to → n ≡ m + rest → ((c : ℕ) → a ≤ c → c < to → f c ≡ SPACE)
    → ((s : Option Look) → fewest_after s (cells_at f to rest) ≤ bound) → (s : Option Look) → fewest_after s (cells_at f a n) ≤ bound
fewest_gap f zero n a to rest bound reach long space after s =
    omega (
      arith,
      after s,
      ap (λ k. fewest_after s (cells_at f k n)) (let here : a ≡ to = omega arith in here),
      ap (λ k. fewest_after s (cells_at f to k))
          (let all : n ≡ rest = omega arith in all),
    )
fewest_gap f (suc m) zero a to rest bound reach long space after s = absurd (omega arith)
fewest_gap f (suc m) (suc n) a to rest bound reach long space after s =
    bare_step (goes_on s (f a)) (is_bare (f a)) (look_of (f a)) (cells_at f (a + 1) n) bound (ap is_bare (space a (omega arith) (omega arith)))
    (fewest_gap f m n (a + 1) to rest bound (omega arith) (omega arith) (λ c low high. space c (omega arith) high) after)

-- ---- the most runs

step : (g b : Bool) (look : Look) (cells : List Cell) → most_after (Some look) cells ≤ most_after None cells
    → most_after None cells ≤ 1 + most_after (Some look) cells
    → ((if g then 0 else 1) + most_after (if g && b then None else Some look) cells ≤ 1 + most_after (Some look) cells) ×
    (most_after (Some look) cells ≤ (if g then 0 else 1) + most_after (if g && b then None else Some look) cells)
step true true look cells less more = (omega arith, omega arith)
step true false look cells less more = (omega arith, omega arith)
step false b look cells less more = (omega arith, omega arith)

-- a run that reaches up to the rest of a row takes at most one of those that can begin there
pub most_near : (look : Look) (cells : List Cell) → (most_after (Some look) cells ≤ most_after None cells) ×
    (most_after None cells ≤ 1 + most_after (Some look) cells)
most_near look [] = (omega arith, omega arith)
most_near look (cell ∷ cells) = grind (arith, common_steps, most_near (look_of cell) cells, step)

on : (g b : Bool) (look : Look) (cells : List Cell) → g ≡ true
    → most_after (Some look) cells ≤ (if g then 0 else 1) + most_after (if g && b then None else Some look) cells
on true true look cells h = omega (arith, (most_near look cells).0)
on true false look cells h = omega arith
on false b look cells h = absurd (false≢true h)

most_on : (f : ℕ → Cell) (look : Look) (m n a to rest : ℕ) → a + m ≡ to → n ≡ m + rest → ((c : ℕ) → a ≤ c → c < to → look ≡ look_of (f c))
    → most_after (Some look) (cells_at f to rest) ≤ most_after (Some look) (cells_at f a n)
most_on f look zero n a to rest reach long same = grind (arith, common_steps)
most_on f look (suc m) zero a to rest reach long same = absurd (omega arith)
most_on f look (suc m) (suc n) a to rest reach long same =
    let here : look ≡ look_of (f a) = same a (omega arith) (omega arith) in
    omega (
      arith,
      on (goes_on (Some look) (f a)) (is_bare (f a)) (look_of (f a)) (cells_at f (a + 1) n) (look_own look (look_of (f a)) here),
      ap (λ (l : Look). most_after (Some l) (cells_at f (a + 1) n)) here,
      most_on f look m n (a + 1) to rest (omega arith) (omega arith) (λ c low high. same c (omega arith) high),
    )

begun : (g b : Bool) (look : Look) (cells : List Cell) → g ≡ false
    → (if g then 0 else 1) + most_after (if g && b then None else Some look) cells ≡ 1 + most_after (Some look) cells
begun true b look cells h = absurd (false≢true (sym h))
begun false b look cells h = refl

-- a stretch of one look can be a run of its own, where the one before it can't go on
pub most_run : (f : ℕ → Cell) (look : Look) (m n a to rest : ℕ) (before : Option Look) → 0 < m → a + m ≡ to → n ≡ m + rest →
    ((c : ℕ) → a ≤ c → c < to → look ≡ look_of (f c)) → goes_on before (f a) ≡ false
    → 1 + most_after (Some look) (cells_at f to rest) ≤ most_after before (cells_at f a n)
most_run f look zero n a to rest before some reach long same stops = absurd (omega arith)
most_run f look (suc m) zero a to rest before some reach long same stops = absurd (omega arith)
most_run f look (suc m) (suc n) a to rest before some reach long same stops =
    omega (
      arith,
      begun (goes_on before (f a)) (is_bare (f a)) (look_of (f a)) (cells_at f (a + 1) n) stops,
      ap (λ (l : Look). most_after (Some l) (cells_at f (a + 1) n)) (same a (omega arith) (omega arith)),
      most_on f look m n (a + 1) to rest (omega arith) (omega arith) (λ c low high. same c (omega arith) high),
    )

-- after bare spaces that no run holds any can begin
pub most_gap : (f : ℕ → Cell) (m n a to rest : ℕ) → a + m ≡ to → n ≡ m + rest → ((c : ℕ) → a ≤ c → c < to → f c ≡ SPACE)
    → most_after None (cells_at f to rest) ≤ most_after None (cells_at f a n)
most_gap f zero n a to rest reach long space = grind (arith, common_steps)
most_gap f (suc m) zero a to rest reach long space = absurd (omega arith)
most_gap f (suc m) (suc n) a to rest reach long space =
    omega (
      arith,
      (most_near (look_of (f a)) (cells_at f (a + 1) n)).1,
      most_gap f m n (a + 1) to rest (omega arith) (omega arith)
          (λ c low high. space c (omega arith) high),
    )

left : (g b : Bool) (look : Look) (cells : List Cell) → b ≡ true
    → most_after None cells ≤ (if g then 0 else 1) + most_after (if g && b then None else Some look) cells
left true true look cells h = omega arith
left false b look cells h = omega (arith, (most_near look cells).1)
left true false look cells h = absurd (false≢true h)

pub most_left : (f : ℕ → Cell) (look : Look) (m n a to rest : ℕ) → 0 < m → a + m ≡ to → n ≡ m + rest → ((c : ℕ) → a ≤ c → c < to → f c ≡ SPACE)
    → most_after None (cells_at f to rest) ≤ most_after (Some look) (cells_at f a n)
most_left f look zero n a to rest some reach long space = absurd (omega arith)
most_left f look (suc m) zero a to rest some reach long space = absurd (omega arith)
most_left f look (suc m) (suc n) a to rest some reach long space =
    omega (
      arith,
      left (goes_on (Some look) (f a)) (is_bare (f a)) (look_of (f a)) (cells_at f (a + 1) n) (ap is_bare (space a (omega arith) (omega arith))),
      most_gap f m n (a + 1) to rest (omega arith) (omega arith) (λ c low high. space c (omega arith) high),
    )

-- ---- no more runs than cells

one : (g b : Bool) (look : Look) (cells : List Cell) → ((s : Option Look) → most_after s cells ≤ length cells)
    → (if g then 0 else 1) + most_after (if g && b then None else Some look) cells ≤ 1 + length cells
one true true look cells few = omega (arith, few None)
one true false look cells few = omega (arith, few (Some look))
one false b look cells few = omega (arith, few (Some look))

pub most_in_row : (before : Option Look) (cells : List Cell) → most_after before cells ≤ length cells
most_in_row before [] = omega arith
most_in_row before (cell ∷ cells) =
    omega (arith, one (goes_on before cell) (is_bare cell) (look_of cell) cells (λ s. most_in_row s cells))

pub most_in : (rows : List (List Cell)) → most_runs rows ≤ num_cells rows
most_in [] = omega arith
most_in (row ∷ rows) = omega (arith, most_in_row None row, most_in rows)

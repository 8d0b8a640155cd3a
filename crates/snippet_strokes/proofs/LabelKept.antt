-- Marks, painted later, leave each label as it stands.
use Rattle.snippet_strokes.proofs.Common.{◌≡◌, ℕ, zero, suc, ◌+◌, ◌<◌, ◌≤◌, ◌&&◌, ◌||◌, nat_le, nat_lt, Bool, true, false, List}
use Rattle.snippet_strokes.proofs.Common.{[], ◌∷◌, length, map, get_or, refl, sym, ap, ◌∙◌, subst, arith, inl, inr, ◌⊎◌, All, list_any}
use Rattle.snippet_strokes.proofs.Common.{cases_lt, nat_tests, All-cons, All-nil, All-weaker, LineAnnotation, Layout, PlacedEntry, has_label}
use Rattle.snippet_strokes.proofs.Common.{crosses, position_at, position_after, positions, label_place, get_or-map, length-map, list_all_at, All-permutation}
use Rattle.snippet_strokes.proofs.Common.{Cell, SPACE, cell_at, cases_eq, mark_end, HasPlace, ArePlaced, crowds, label_width, rules}
use Rattle.snippet_strokes.proofs.PositionLemmas.{length-positions}
use Rattle.snippet_strokes.proofs.PaintedMarks.{AreMarked, IsPaintedAt, StandsWhole}
use Rattle.snippet_strokes.proofs.PieceWrites.{has_piece, label_chars_le}
use Rattle.snippet_strokes.proofs.PieceWrites.{labels_some_at}
use Rattle.snippet_strokes.proofs.Common.{label_at}
use Rattle.snippet_labels.specs.Positions.{pieces_of}
use Rattle.snippet_strokes.proofs.Common.{◌==◌}
use Rattle.snippet_strokes.proofs.Common.{false≢true, takes_space}
use Rattle.snippet_strokes.proofs.Common.{common_steps}
use Rattle.std.proofs.lemmas.List.{get_or_default}

-- a position is no lower than the one reached, and so no lower than those before it
at_least : (p : ℕ) (e : PlacedEntry) (others : List PlacedEntry) → p ≤ position_at p e others
at_least p e others = search rules

after_least : (q : ℕ) (e : PlacedEntry) (others : List PlacedEntry) → q ≤ position_after q e others
after_least q e others = search rules

pub positions_from : (p : ℕ) (es : List PlacedEntry) → All (λ q. p ≤ q) (positions p es)
positions_from p [] = All-nil (λ q. p ≤ q)
positions_from p (e ∷ others) =
    grind (arith, common_steps, at_least, after_least, All-cons, All-weaker, positions_from (position_after (position_at p e others) e others) others)

-- a test that no element passes
pub any_false : {X : Type 0} (p : X → Bool) (xs : List X) → list_any p xs ≡ false → All (λ x. p x ≡ false) xs
any_false p [] none = All-nil (λ x. p x ≡ false)
any_false p (x ∷ xs) none =
    All-cons (λ y. p y ≡ false) x xs (left (p x) (list_any p xs) none) (any_false p xs (right (p x) (list_any p xs) none))
  where
    left : (a b : Bool) → (a || b) ≡ false → a ≡ false
    left true b is = is
    left false b is = refl

    right : (a b : Bool) → (a || b) ≡ false → b ≡ false
    right true b is = cc is
    right false b is = is

-- two entries aren't crowded if the second stands no lower than the label of the first has pieces
pub uncrowded : (p : ℕ) (es : List PlacedEntry) (i j : ℕ) (d d2 : PlacedEntry) → i < j → j < length es
    → get_or (positions p es) j 0 < get_or (positions p es) i 0 + length (label_at (get_or (positions p es) i 0) (get_or es i d).label)
    → crowds (get_or (positions p es) i 0) (get_or es i d) (get_or es j d2) ≡ false
uncrowded p [] i j d d2 before within same = absurd (omega (arith, within))
uncrowded p (e ∷ others) zero zero d d2 before within same = absurd (omega (arith, before))
uncrowded p (e ∷ others) zero (suc j) d d2 before within same = grind (arith, positions_from, length-positions, any_false)
uncrowded p (e ∷ others) (suc i) zero d d2 before within same = absurd (omega (arith, before))
uncrowded p (e ∷ others) (suc i) (suc j) d d2 before within same =
    uncrowded (position_after (position_at p e others) e others) others i j d d2 (omega (arith, before)) (omega (arith, within)) same

-- an entry with a label at position 0 isn't crossed
pub uncrossed : (p : ℕ) (es : List PlacedEntry) (i j : ℕ) (d d2 : PlacedEntry) → i < j → j < length es → get_or (positions p es) i 0 ≡ 0
    → has_label (get_or es i d) ≡ true → crosses (get_or es i d) (get_or es j d2) ≡ false
uncrossed p [] i j d d2 before within zero_there has = absurd (omega (arith, within))
uncrossed p (e ∷ others) zero zero d d2 before within zero_there has = absurd (omega (arith, before))
uncrossed p (e ∷ others) zero (suc j) d d2 before within zero_there has = grind (arith, any_false)
uncrossed p (e ∷ others) (suc i) zero d d2 before within zero_there has = absurd (omega (arith, before))
uncrossed p (e ∷ others) (suc i) (suc j) d d2 before within zero_there has =
    uncrossed (position_after (position_at p e others) e others) others i j d d2 (omega (arith, before)) (omega (arith, within)) zero_there has

-- positions grow
pub ascending : (p : ℕ) (es : List PlacedEntry) (i j : ℕ) → i < j → j < length es → get_or (positions p es) i 0 ≤ get_or (positions p es) j 0
ascending p [] i j before within = absurd (omega (arith, within))
ascending p (e ∷ others) zero zero before within = absurd (omega (arith, before))
ascending p (e ∷ others) zero (suc j) before within = grind (arith, positions_from, length-positions, after_least)
ascending p (e ∷ others) (suc i) zero before within = absurd (omega (arith, before))
ascending p (e ∷ others) (suc i) (suc j) before within =
    ascending (position_after (position_at p e others) e others) others i j (omega (arith, before)) (omega (arith, within))

-- where the label of an entry stands: after its mark in the row of the marks, or at its start in a row farther down
pub record StandsAfter (e : PlacedEntry) : Type 0 where
  pub position : e.position ≡ 0
  pub row : (label_place e).0 ≡ 0
  pub from : e.entry.end.display + 1 ≤ (label_place e).1
  pub to : (label_place e).1 ≤ e.entry.end.display + 2

pub record StandsBelow (e : PlacedEntry) : Type 0 where
  pub position : 0 < e.position
  pub row : (label_place e).0 ≡ e.position + 1
  pub column : (label_place e).1 ≡ e.entry.start.display

-- a label stands after its mark or in a row below
pub label_parts : (e : PlacedEntry) → StandsAfter e ⊎ StandsBelow e
label_parts e = search rules

-- an entry farther left that doesn't reach the other one ends, with its label and a gap, before it
pub apart : (fs fe es ee more : ℕ) → ((nat_le es fs && nat_lt fs ee) || (nat_le fs es && nat_lt es (fe + more))) ≡ false → fs ≤ es → fe + more ≤ es
apart fs fe es ee more is left = grind (arith, nat_tests)

-- where an entry has a label the positions aren't flipped
pub labelled_positions : (layout : Layout) (given : List LineAnnotation) (es : List PlacedEntry) (k : ℕ) (d : PlacedEntry) → ArePlaced layout given es
    → k < length es → has_label (get_or es k d) ≡ true → map (λ (e : PlacedEntry). e.position) es ≡ positions 0 es
labelled_positions layout given es k d placed within has = grind (arith, list_all_at)

-- where positions aren't flipped, that of an entry is found by its place
pub position_of : (es : List PlacedEntry) (k : ℕ) (d : PlacedEntry) → map (λ (e : PlacedEntry). e.position) es ≡ positions 0 es → k < length es
    → (get_or es k d).position ≡ get_or (positions 0 es) k 0
position_of es k d are within =
    sym (get_or-map (λ (e : PlacedEntry). e.position) es k d 0 within) ∙ ap (λ ps. get_or ps k 0) are

-- a later entry starts no farther right
pub stands_left : (layout : Layout) (given : List LineAnnotation) (es : List PlacedEntry) (i j : ℕ) (d d2 : PlacedEntry) → ArePlaced layout given es → i ≤ j
    → j < length es → (get_or es j d2).entry.start.display ≤ (get_or es i d).entry.start.display
stands_left layout given es i j d d2 placed before within =
    let f : PlacedEntry → LineAnnotation = λ e. e.entry in
    let first : get_or (map f es) i d.entry ≡ (get_or es i d).entry = get_or-map f es i d d.entry (omega (arith, before, within)) in
    let second : get_or (map f es) j d.entry ≡ (get_or es j d2).entry = get_or-map f es j d2 d.entry within in
    let column = (placed.from_right i j d.entry (omega (arith, before)) (omega (arith, within, length-map es f))).column in
    omega (arith, column, ap (λ (e : LineAnnotation). e.start.display) first, ap (λ (e : LineAnnotation). e.start.display) second)

-- no mark covers a label in the row of the marks: an entry whose mark may stand there ends no farther right, or starts
-- after the label
pub record IsClear (e f : PlacedEntry) : Type 0 where
  pub clear : (f.entry.end.display ≤ e.entry.end.display) ⊎ (e.entry.end.display + (label_width e.label + 2) ≤ f.entry.start.display)

clear_left : (e f : PlacedEntry) → crosses e f ≡ false → HasPlace e.entry → f.entry.start.display ≤ e.entry.start.display → IsClear e f
clear_left e f uncrossed place left = search rules

clear_right : (e f : PlacedEntry) → crowds 0 f e ≡ false → has_label e ≡ true → e.entry.start.display ≤ f.entry.start.display → IsClear e f
clear_right e f uncrowded has left = grind (arith, common_steps, by_parts)
  where
    by_parts : (block own last other past : Bool) (fs fe es ee ec fc more : ℕ)
        → (block || (own && (((last || ((nat_le fs es && nat_lt es fe) || (nat_le es fs && nat_lt fs (ee + more))))
        && (other || ((0 == 0) && (nat_lt ee fe || (ee == fe && nat_le ec fc))))) || ((0 == 0) && past)))) ≡ false
        → own ≡ true → es ≤ fs → (fe ≤ ee) ⊎ (ee + more ≤ fs)
    by_parts block own last other past fs fe es ee ec fc more is has left = grind (arith, nat_tests)

-- nor, where nothing may stand right of the label, does one that starts there
last_right : (e f : PlacedEntry) → crowds 0 f e ≡ false → has_label e ≡ true → e.label.last ≡ true → f.entry.end.display ≤ e.entry.end.display
last_right e f uncrowded has last = search (rules, nat_tests)

-- what has a label is crowded by a label right of which nothing may stand, and what has a line to its bar by each label
pub last_crowds : (p : ℕ) (e f : PlacedEntry) → has_label f ≡ true → f.label.last ≡ true → has_label e ≡ true → crowds p e f ≡ true
last_crowds p e f has last has_e = search rules

pub line_crowds : (p : ℕ) (e f : PlacedEntry) → has_label f ≡ true → takes_space e ≡ true → crowds p e f ≡ true
line_crowds p e f has takes = search rules

-- a mark that goes past where labels are to end is crowded by each label in its row
pub past_clear : (e f : PlacedEntry) → crowds 0 e f ≡ false → has_label f ≡ true → e.label.past ≡ false
past_clear e f clear has = grind (arith, common_steps, by_parts)
  where
    by_parts : (block own rest past : Bool) → (block || (own && (rest || ((0 == 0) && past)))) ≡ false → own ≡ true → past ≡ false
    by_parts block own rest past is has = grind (arith, nat_tests)

mark_end_le : (f : PlacedEntry) → mark_end f ≤ f.entry.end.display + 1
mark_end_le f = search rules

pub unpainted : (e f : PlacedEntry) (n : ℕ) → StandsAfter e → IsClear e f → n < length (get_or (pieces_of e) 0 []) → IsPaintedAt f ((label_place e).1 + n) → ⊥
unpainted e f n at clear inside there =
    let few : length (get_or (pieces_of e) 0 []) ≤ label_width e.label = label_chars_le e 0 in
    elim clear.clear [
      | inl ends ↦ omega (arith, ends, at.from, there.1, mark_end_le f)
      | inr right ↦ omega (arith, right, at.to, there.0, few, inside)
    ]

-- where a label stands in the row of the marks, it doesn't crowd what stands right of it
pub right_clear : (layout : Layout) (given : List LineAnnotation) (es : List PlacedEntry) (i j : ℕ) (d d2 : PlacedEntry) → ArePlaced layout given es
    → i < j → j < length es → has_label (get_or es j d2) ≡ true → (get_or es j d2).position ≡ 0 → crowds 0 (get_or es i d) (get_or es j d2) ≡ false
right_clear layout given es i j d d2 placed before within has zero_here =
    let zero_there = sym (position_of es j d2 (labelled_positions layout given es j d2 placed within has) within) ∙ zero_here in
    let low : get_or (positions 0 es) i 0 ≡ 0 = omega (arith, zero_there, ascending 0 es i j before within) in
    subst (λ p. crowds p (get_or es i d) (get_or es j d2) ≡ false) low
    (uncrowded 0 es i j d d2 before within
    (omega (arith, zero_there, low, labels_some_at layout given es placed (get_or (positions 0 es) i 0) i d (omega (arith, before, within)))))

pub all_clear : (layout : Layout) (given : List LineAnnotation) (es : List PlacedEntry) (i : ℕ) (d : PlacedEntry) → ArePlaced layout given es
    → All (λ e. HasPlace e.entry) es → i < length es → has_label (get_or es i d) ≡ true → (get_or es i d).position ≡ 0
    → All (IsClear (get_or es i d)) es
all_clear layout given es i d placed places within has zero_here j d2 fits =
    let are = labelled_positions layout given es i d placed within has in
    let zero_there : get_or (positions 0 es) i 0 ≡ 0 = sym (position_of es i d are within) ∙ zero_here in
    elim (cases_lt i j) [
      | inl left ↦ clear_left (get_or es i d) (get_or es j d2) (uncrossed 0 es i j d d2 left fits zero_there has) (places i d within)
          (stands_left layout given es i j d d2 placed (omega (arith, left)) fits)
      | inr not_left ↦ elim (cases_lt j i) [
        | inl right ↦ clear_right (get_or es i d) (get_or es j d2) (right_clear layout given es j i d2 d placed right within has zero_here) has
            (stands_left layout given es j i d2 d placed (omega (arith, right)) within)
        | inr not_right ↦
            let own : j ≡ i = omega (arith, not_left, not_right) in
            let same : get_or es j d2 ≡ get_or es i d = ap (λ k. get_or es k d2) own ∙ get_or_default es i d2 d within in
            subst (IsClear (get_or es i d)) (sym same) (record { clear = inl (omega arith) })
      ]
    ]

-- what is crowded by a label hangs above it, with all pieces of its own
pub far_above : (layout : Layout) (given : List LineAnnotation) (es : List PlacedEntry) (i j : ℕ) (d d2 : PlacedEntry) → ArePlaced layout given es
    → i < j → j < length es → has_label (get_or es j d2) ≡ true → ((p : ℕ) → crowds p (get_or es i d) (get_or es j d2) ≡ true)
    → (get_or es i d).position + length (pieces_of (get_or es i d)) ≤ (get_or es j d2).position
far_above layout given es i j d d2 placed before within has crowded =
    let e : PlacedEntry = get_or es i d in
    let f : PlacedEntry = get_or es j d2 in
    let are = labelled_positions layout given es j d2 placed within has in
    let at_e = position_of es i d are (omega (arith, before, within)) in
    let at_f = position_of es j d2 are within in
    elim (cases_lt f.position (e.position + length (pieces_of e))) [
      | inl close ↦ absurd (false≢true (sym (uncrowded 0 es i j d d2 before within
          (omega (arith, at_f, subst (λ p. f.position < p + length (label_at p e.label)) at_e close)))
          ∙ crowded (get_or (positions 0 es) i 0)))
      | inr far ↦ far
    ]

-- where nothing may stand right of a label in the row of the marks, no mark there ends farther right than its own
pub all_left : (layout : Layout) (given : List LineAnnotation) (es : List PlacedEntry) (i : ℕ) (d : PlacedEntry) → ArePlaced layout given es
    → All (λ e. HasPlace e.entry) es → i < length es → has_label (get_or es i d) ≡ true → (get_or es i d).label.last ≡ true
    → (get_or es i d).position ≡ 0 → All (λ f. f.entry.end.display ≤ (get_or es i d).entry.end.display) es
all_left layout given es i d placed places within has last zero_here j d2 fits =
    let e : PlacedEntry = get_or es i d in
    let f : PlacedEntry = get_or es j d2 in
    let clear : IsClear e f = all_clear layout given es i d placed places within has zero_here j d2 fits in
    elim (cases_lt j i) [
      | inl right ↦ last_right e f (right_clear layout given es j i d2 d placed right within has zero_here) has last
      | inr left ↦ elim clear.clear [
        | inl ends ↦ ends
        | inr starts ↦ omega (arith, starts, (places i d within).ordered, stands_left layout given es i j d d2 placed left fits)
      ]
    ]

-- marks, painted later, leave each label as it stands
pub labels_kept : (layout : Layout) (row : ℕ) (given : List LineAnnotation) (es : List PlacedEntry) (old new : List (List Cell))
    → ArePlaced layout given es → All (λ e. HasPlace e.entry) es → AreMarked layout es row old new → All (StandsWhole layout row old) es
    → All (StandsWhole layout row new) es
labels_kept layout row given es old new placed places marked stand k d within m n inside =
    let e : PlacedEntry = get_or es k d in
    let r : ℕ = row + (label_place e).0 + m in
    let before = stand k d within m n inside in
    elim (cases_eq r row) [
      | inl here ↦ elim (label_parts e) [
        | inl at ↦
            let first : m ≡ 0 = omega (arith, here) in
            let p : ℕ = (label_place e).1 + n in
            let there : layout.code + (label_place e).1 + n ≡ layout.code + p = omega arith in
            let begun : n < length (get_or (pieces_of e) 0 []) = subst (λ j. n < length (get_or (pieces_of e) j [])) first inside in
            let clear : All (λ (f : PlacedEntry). IsPaintedAt f p → ⊥) es = All-weaker (IsClear e) (λ (f : PlacedEntry). IsPaintedAt f p → ⊥) (λ f is.
            unpainted e f n at is begun) es
            (all_clear layout given es k d placed places within (has_piece e m (omega (arith, inside))) at.position) in
            ap (λ i. cell_at new i (layout.code + (label_place e).1 + n)) here ∙ ap (cell_at new row) there
            ∙ marked.painted.unmarked p (All-permutation (λ (f : PlacedEntry). IsPaintedAt f p → ⊥) es marked.order marked.same clear)
            ∙ sym (ap (cell_at old row) there) ∙ sym (ap (λ i. cell_at old i (layout.code + (label_place e).1 + n)) here) ∙ before
        | inr at ↦ absurd (omega (arith, here, at.row))
      ]
      | inr other ↦ ap (λ cells. get_or cells (layout.code + (label_place e).1 + n) SPACE) (marked.painted.others r other) ∙ before
    ]

-- The positions of labels.
use Rattle.snippet_strokes.proofs.Common.{◌≡◌, ℕ, suc, ◌+◌, ◌<◌, ◌≤◌, ◌^◌, ◌==◌, ◌&&◌, ◌||◌, cond, nat_lt}
use Rattle.snippet_strokes.proofs.Common.{Bool, true, false, List, [], ◌∷◌, length, map, get_or, refl, sym, ap, ◌∙◌, subst, arith, All}
use Rattle.snippet_strokes.proofs.Common.{list_any, ltb-true, length-map, get_or-map, All-cons, All-nil, All-head, All-tail}
use Rattle.snippet_strokes.proofs.Common.{list_any_none, AllPass-from_list_all, LineAnnotation, PlacedEntry, has_label, takes_space, has_stem}
use Rattle.snippet_strokes.proofs.Common.{crosses, position_at, position_after, positions, line_positions, label_place, look_counts, row_count, HasRows}
use Rattle.snippet_strokes.proofs.Common.{greatest, rows_below, is_start, is_start_part, nat_tests, not, false≢true, ArePlaced, HasPlace}
use Rattle.snippet_strokes.proofs.Common.{◌-◌, crowds, if◌then◌else◌, max, rules}
use Rattle.snippet_parts.proofs.RawDepthLemmas.{greatest-cons}
use Rattle.snippet_strokes.proofs.Common.{Layout, label_at}
use Rattle.snippet_strokes.proofs.Common.{common_steps}
use Rattle.snippet_labels.specs.Positions.{pieces_of}

-- there are as many positions as entries
pub length-positions : (p : ℕ) (es : List PlacedEntry) → length (positions p es) ≡ length es
length-positions p [] = refl
length-positions p (e ∷ others) =
    ap suc (length-positions (position_after (position_at p e others) e others) others)

pub length-line_positions : (es : List PlacedEntry) → length (line_positions es) ≡ length es
length-line_positions es = grind (arith, length-map, length-positions)

-- the positions of a list that has no labels
pub positions-unlabelled : (p : ℕ) (es : List PlacedEntry) → All (λ e. has_label e ≡ false) es → All (λ e. takes_space e ≡ false) es
    → All (λ q. q ≡ p) (positions p es)
positions-unlabelled p [] none flat = All-nil (λ q. q ≡ p)
positions-unlabelled p (e ∷ others) none flat =
    let L : PlacedEntry → Type 0 = λ x. has_label x ≡ false in
    let own : has_label e ≡ false = All-head L e others none in
    let rest : All L others = All-tail L e others none in
    let T : PlacedEntry → Type 0 = λ x. takes_space x ≡ false in
    let own_flat : takes_space e ≡ false = All-head T e others flat in
    let rest_flat : All T others = All-tail T e others flat in
    let here : position_at p e others ≡ p = at_bare p e others own in
    let uncrowded : list_any (crowds p e) others ≡ false = list_any_none (crowds p e) others (λ k d within.
    crowds_bare p e (get_or others k d) own own_flat (rest k d within) (rest_flat k d within)) in
    let after : position_after p e others ≡ p = ap (λ t. cond t (p + length (label_at p e.label)) p) uncrowded in
    All-cons (λ q. q ≡ p) (position_at p e others) _ here (subst (λ q.
    All (λ x. x ≡ p) (positions (position_after q e others) others)) (sym here)
    (subst (λ q. All (λ x. x ≡ p) (positions q others)) (sym after) (positions-unlabelled p others rest rest_flat)))
  where
    cond_and : (b : Bool) (x y : ℕ) → cond (b && false) x y ≡ y
    cond_and true x y = refl
    cond_and false x y = refl

    at_bare : (p : ℕ) (e : PlacedEntry) (others : List PlacedEntry) → has_label e ≡ false → position_at p e others ≡ p
    at_bare p e others bare =
        ap (λ t. cond ((p == 0) && (t && list_any (crosses e) others)) 1 p) bare ∙ cond_and (p == 0) 1 p

    crowds_bare : (p : ℕ) (e x : PlacedEntry) → has_label e ≡ false → takes_space e ≡ false → has_label x ≡ false → takes_space x ≡ false → crowds p e x ≡ false
    crowds_bare p e x own own_flat bare flat = rw (own, own_flat, bare) refl

-- the positions of a list of one
pub positions_sole : (e : PlacedEntry) → positions 0 (e ∷ []) ≡ 0 ∷ []
positions_sole e = search rules

-- each of some numbers is at most the greatest
each_at_most : (ns : List ℕ) → All (λ n. n ≤ greatest ns) ns
each_at_most [] = All-nil (λ n. n ≤ 0)
each_at_most (n ∷ ns) = grind (arith, All-cons, greatest-cons, each_at_most ns)

-- no entry needs more rows than there are below the row of the marks
rows_at_most : (starts : Bool) (es : List PlacedEntry) → All (λ e. rows_below starts e ≤ greatest (map (rows_below starts) es)) es
rows_at_most starts es k d within =
    subst (λ n. n ≤ greatest (map (rows_below starts) es)) (get_or-map (rows_below starts) es k d 0 within)
    (each_at_most (map (rows_below starts) es) k 0 (omega (arith, within, length-map es (rows_below starts))))

-- what is known of numbers that entries have, each one, is known of the entries
of_numbers : (f : PlacedEntry → ℕ) (P : ℕ → Type 0) (es : List PlacedEntry) (ns : List ℕ) → map f es ≡ ns → All P ns → All (λ e. P (f e)) es
of_numbers f P es ns are all k d within =
    subst P (ap (λ xs. get_or xs k (f d)) (sym are) ∙ get_or-map f es k d (f d) within)
    (all k (f d) (omega (arith, within, length-map es f, ap length are)))

-- what is known of all positions is known of the entries
pub of_positions : (P : ℕ → Type 0) (es : List PlacedEntry) (ps : List ℕ) → map (λ (e : PlacedEntry). e.position) es ≡ ps → All P ps
    → All (λ e. P e.position) es
of_positions = of_numbers (λ e. e.position)

-- a label's column isn't left of its entry, and fits
pub label_column : (e : PlacedEntry) → HasPlace e.entry → (e.entry.start.display ≤ (label_place e).1) × ((label_place e).1 < 2 ^ 61)
label_column e place = search rules

-- an entry without a label has no stem where it takes no space, nor has one at position 0
pub stemless_bare : (e : PlacedEntry) → has_label e ≡ false → takes_space e ≡ false → has_stem e ≡ false
stemless_bare e bare flat = search rules

-- an entry whose label stands beside the marks has no stem
pub stemless_beside : (e : PlacedEntry) → e.position ≡ 0 → has_stem e ≡ false
stemless_beside e beside = ap (λ n. nat_lt 0 n && (has_label e || takes_space e)) beside

-- the rows down to the last piece of each label are among those that are begun
pub HasRows-row_count : (row n : ℕ) (es : List PlacedEntry) → All (λ e. 0 < length (pieces_of e)) es → n ≡ row + row_count es → All (HasRows row n) es
HasRows-row_count row n es some is k d within = grind (arith, common_steps, rows_at_most, AllPass-from_list_all, is_start, false≢true, deep)
  where
    bare : (e : PlacedEntry) → is_start e ≡ true → has_label e ≡ false
    bare e is = not_true (is_start_part e.entry.annotation_type) (has_label e) is
      where
        not_true : (a b : Bool) → (a && not b) ≡ true → b ≡ false
        not_true true false is = refl
        not_true true true is = cc is
        not_true false b is = cc is

    deep : (e : PlacedEntry) → 0 < length (pieces_of e)
        → (e.position ≤ rows_below false e) × ((label_place e).0 + length (pieces_of e) ≤ rows_below false e + 1)
    deep e some = grind (arith, common_steps)

-- where each label has one piece as many rows are needed as the greatest position, and one more for labels that hang
pub rows_of_whole : (starts : Bool) (es : List PlacedEntry) → All (λ e. length (pieces_of e) ≡ 1) es
    → greatest (map (rows_below starts) es) ≡ (let lowest = greatest (map (λ e. e.position) es) in if lowest == 0 || starts then lowest else lowest + 1)
rows_of_whole starts [] whole = refl
rows_of_whole starts (e ∷ es) whole =
    grind (arith, common_steps, greatest-cons, All-tail, step, All-head, rows_of_whole starts es (All-tail (λ x. length (pieces_of x) ≡ 1) e es whole))
  where
    step : (starts : Bool) (p h g : ℕ) → h ≡ 1
        → max (if starts then p else (if p == 0 then h - 1 else p + h)) (if g == 0 || starts then g else g + 1)
        ≡ (if max p g == 0 || starts then max p g else max p g + 1)
    step true p h g one = grind (arith, nat_tests)
    step false p h g one = grind (arith, nat_tests, one)

-- the greatest of low positions is low
pub positions_low : (es : List PlacedEntry) → All (λ e. e.position < 2 ^ 60) es → greatest (map (λ e. e.position) es) < 2 ^ 60
positions_low [] low = omega arith
positions_low (e ∷ es) low = grind (arith, common_steps, greatest-cons, All-head, All-tail, positions_low es (All-tail (λ x. x.position < 2 ^ 60) e es low))

-- a line's strokes have at least one row
pub row_count_some : (es : List PlacedEntry) → 0 < row_count es
row_count_some es = omega arith

-- no more entries are looked at for one than there are
look_counts_low : (p n : ℕ) (es : List PlacedEntry) → length es ≤ n → All (λ q. q ≤ n) (look_counts p es)
look_counts_low p n [] low = All-nil (λ q. q ≤ n)
look_counts_low p n (e ∷ others) low =
    grind (arith, All-cons, ltb-true, look_counts_low (position_after (position_at p e others) e others) n others (omega (arith, low)))

pub looked_of_placed : (layout : Layout) (es : List LineAnnotation) (placed : List PlacedEntry) → ArePlaced layout es placed
    → All (λ e. e.looked ≤ length placed) placed
looked_of_placed layout es placed is =
    of_numbers (λ e. e.looked) (λ q. q ≤ length placed) placed (look_counts 0 placed) is.looked_are (look_counts_low 0 (length placed) placed (omega arith))

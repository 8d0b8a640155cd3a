-- A run that is put over others.
use Rattle.snippet_grid.proofs.Common.{common_steps, ◌≡◌, ℕ, ◌+◌, ◌-◌, ◌<◌, ◌≤◌, ◌^◌, List, [], ◌∷◌, ◌++◌, length, take, drop, get_or, refl, sym, ap, ◌∙◌}
use Rattle.snippet_grid.proofs.Common.{arith, inl, inr, subst, All, places, same_lists, get_or_default, get_or-append_right, get_or-take, get_or-drop}
use Rattle.snippet_grid.proofs.Common.{length-take, length-drop, All-take, All-drop, All-append, cases_lt, cases_eq, AllPairs, Cell, IsRun, BeginsWith, AddsRun}
use Rattle.snippet_grid.proofs.Common.{IsRow, EndsBy, FitIn, Precedes, Differ, run_cell, painted_over, shown_cell, Run, ◌≢◌, RowAt}
use Rattle.snippet_grid.proofs.RunLemmas.{stretch, below_take, get_or-stretch}
use Rattle.snippet_grid.proofs.ShownLemmas.{painted-append, All-tail, All-IsRun-grown, pick, holds_elsewhere}

-- runs that stand in order of rows and cells
abbrev pub AreOrdered : List Run → Type 0
AreOrdered runs = AllPairs (λ a b. Precedes a b) runs

-- runs of which no two share a cell
abbrev pub AreApart : List Run → Type 0
AreApart runs = AllPairs (λ a b. Differ a b) runs

Precedes-trans : (a b c : Run) → Precedes a b → Precedes b c → Precedes a c
Precedes-trans a b c first second = grind (arith, common_steps, first.rows, second.rows, a.row, b.row, first.cells, second.cells)

-- each run ends before the greatest cell
abbrev pub AllFit : List Run → Type 0
AllFit runs = All (λ x. x.cell + x.count < 2 ^ 64) runs

-- runs of a text fit
pub fits_all : (text : List ℕ) (runs : List Run) → All (λ x. IsRun text x) runs → AllFit runs
fits_all text runs are = λ k d within. (are k d within).fits

-- what stands before the last run's place stands before what the last run precedes
pub all_before : (runs : List Run) (run d : Run) → 0 < length runs → AreOrdered runs → Precedes (get_or runs (length runs - 1) d) run
    → All (λ x. Precedes x run) runs
all_before runs run d some ordered last =
    λ k e within.
    let last_is : get_or runs (length runs - 1) d ≡ get_or runs (length runs - 1) e = get_or_default runs (length runs - 1) d e (omega arith) in
    let last_e : Precedes (get_or runs (length runs - 1) e) run = subst (λ x. Precedes x run) last_is last in
    elim (cases_eq k (length runs - 1)) [
      | inl same ↦ subst (λ i. Precedes (get_or runs i e) run) (sym same) last_e
      | inr other ↦ Precedes-trans (get_or runs k e) (get_or runs (length runs - 1) e) run (ordered k (length runs - 1) e (omega arith) (omega arith)) last_e
    ]

-- a later one of ordered runs stands in the same row or in a lower one
pub rows_rise : (runs : List Run) (i j : ℕ) (d : Run) → AreOrdered runs → i ≤ j → j < length runs → (get_or runs i d).row ≤ (get_or runs j d).row
rows_rise runs i j d ordered below within =
    elim (cases_eq i j) [
      | inl same ↦ omega (arith, ap (λ k. (get_or runs k d).row) same)
      | inr other ↦ (ordered i j d (omega arith) within).rows
    ]

-- a row of runs is a row also once the text has grown
pub IsRow-grown : (old new : List ℕ) (row : ℕ) (runs : List Run) → BeginsWith old new → IsRow old row runs → IsRow new row runs
IsRow-grown old new row runs grows is =
    record { are_runs = All-IsRun-grown old new runs grows is.are_runs; in_row = is.in_row; ordered = is.ordered; apart = is.apart }

-- a row to which a run was added
pub IsRow-added : (old new : List ℕ) (row n : ℕ) (runs now : List Run) (run : Run) → IsRow old row runs → EndsBy n runs → n ≤ run.cell → run.row ≡ row
    → All (λ x. IsRun new x) now → AddsRun runs now run → IsRow new row now
IsRow-added old new row n runs now run is ends before in_row are adds =
    let all_before : All (λ x. Precedes x run) runs = λ k d within.
    record { rows = omega (arith, is.in_row k d within, in_row); cells = λ same. omega (arith, ends k d within, before) } in
    record {
      are_runs = are;
      in_row = adds.rows row is.in_row in_row;
      ordered = adds.order is.ordered all_before;
      apart = adds.apart is.ordered all_before is.apart;
    }

-- what is painted by runs of other rows
pub painted_elsewhere : (text : List ℕ) (r c : ℕ) (d : Cell) (runs : List Run) → All (λ x. x.row ≡ r → ⊥) runs → painted_over text r c d runs ≡ d
painted_elsewhere text r c d [] others = refl
painted_elsewhere text r c d (run ∷ runs) others =
    ap (λ (cell : Cell). painted_over text r c cell runs) (pick (run_cell text run c) d (holds_elsewhere run r c (others 0 run (omega arith))))
    ∙ painted_elsewhere text r c d runs (All-tail (λ x. x.row ≡ r → ⊥) run runs others)

-- a list in three parts
pub split_three : {X : Type 0} (xs : List X) (i j : ℕ) → i ≤ j → j ≤ length xs → xs ≡ take i xs ++ stretch xs i j ++ drop j xs
split_three xs i j low high =
    same_lists _ _ (grind (arith, places)) (λ k d h. grind (arith, places, cases_lt k i, cases_lt k j))

-- what three parts show, where the outer two hold nothing of the row
pub painted_middle : (text : List ℕ) (r c : ℕ) (xs ys zs : List Run) → All (λ x. x.row ≡ r → ⊥) xs → All (λ x. x.row ≡ r → ⊥) zs
    → shown_cell text (xs ++ ys ++ zs) r c ≡ shown_cell text ys r c
painted_middle text r c xs ys zs left right = grind (arith, common_steps, painted-append, painted_elsewhere)

-- and where the middle holds nothing of the row
pub painted_outer : (text : List ℕ) (r c : ℕ) (xs ys zs : List Run) → All (λ x. x.row ≡ r → ⊥) ys
    → shown_cell text (xs ++ ys ++ zs) r c ≡ painted_over text r c (shown_cell text xs r c) zs
painted_outer text r c xs ys zs none = grind (arith, common_steps, painted-append, painted_elsewhere)

-- what holds of the pairs of two lists and of each pair across holds of the pairs of both together
pub AllPairs-append : {X : Type 0} (R : X → X → Type 0) (xs ys : List X) → AllPairs R xs → AllPairs R ys
    → ((i j : ℕ) (d : X) → i < length xs → j < length ys → R (get_or xs i d) (get_or ys j d)) → AllPairs R (xs ++ ys)
AllPairs-append R xs ys left right across = grind (arith, common_steps, get_or-append_right)

-- the runs of one row
pub IsRow-stretch : (text : List ℕ) (row : ℕ) (runs : List Run) (start end : ℕ) → start ≤ end → end ≤ length runs → All (λ x. IsRun text x) runs
    → AreOrdered runs → AreApart runs → ((k : ℕ) (d : Run) → start ≤ k → k < end → (get_or runs k d).row ≡ row) → IsRow text row (stretch runs start end)
IsRow-stretch text row runs start end low high are ordered apart inside =
    let ys = stretch runs start end in
    let read : (k : ℕ) (d : Run) → k < length ys → (k < end - start) × (get_or ys k d ≡ get_or runs (start + k) d) = λ k d within.
    (below_take (drop start runs) (end - start) k within, get_or-stretch runs start end k d within) in
    record {
      are_runs = All-take (λ x. IsRun text x) (end - start) (drop start runs) (All-drop (λ x. IsRun text x) start runs are);
      in_row = λ k d within. let at = read k d within in subst (λ (z : Run). z.row ≡ row) (sym at.1) (inside (start + k) d (omega arith) (omega (arith, at.0)));
      ordered = λ i j d below within.
          let at_i = read i d (omega arith) in
          let at_j = read j d within in
          subst (λ (z : Run). Precedes (get_or ys i d) z) (sym at_j.1) (subst (λ (z : Run). Precedes z (get_or runs (start + j) d)) (sym at_i.1)
          (ordered (start + i) (start + j) d (omega arith) (omega (arith, at_j.0))));
      apart = λ i j d below within.
          let at_i = read i d (omega arith) in
          let at_j = read j d within in
          subst (λ (z : Run). Differ (get_or ys i d) z) (sym at_j.1) (subst (λ (z : Run). Differ z (get_or runs (start + j) d)) (sym at_i.1)
          (apart (start + i) (start + j) d (omega arith) (omega (arith, at_j.0))));
    }

-- the facts that stay when the runs of a row give their place to others
pub are_runs-put : (old new : List ℕ) (runs now fresh : List Run) (row start end : ℕ) → BeginsWith old new → All (λ x. IsRun old x) runs → IsRow new row fresh
    → now ≡ take start runs ++ fresh ++ drop end runs → All (λ x. IsRun new x) now
are_runs-put old new runs now fresh row start end grows are is_row is =
    let all : All (λ x. IsRun new x) runs = All-IsRun-grown old new runs grows are in
    subst (λ (l : List Run). All (λ x. IsRun new x) l) (sym is) (All-append (λ x.
    IsRun new x) (take start runs ++ fresh) (drop end runs) (All-append (λ x.
    IsRun new x) (take start runs) fresh (All-take (λ x. IsRun new x) start runs all) is_row.are_runs) (All-drop (λ x. IsRun new x) end runs all))

-- runs with a row put in between lower and higher rows stand in order
pub ordered-put : (new : List ℕ) (runs now fresh : List Run) (row start end : ℕ) → start ≤ end → end ≤ length runs
    → ((k : ℕ) (d : Run) → k < start → (get_or runs k d).row < row) → ((k : ℕ) (d : Run) → end ≤ k → k < length runs → row < (get_or runs k d).row)
    → AreOrdered runs → IsRow new row fresh → now ≡ take start runs ++ fresh ++ drop end runs → AreOrdered now
ordered-put new runs now fresh row start end low high above below ordered is_row is =
    let xs = take start runs in
    let zs = drop end runs in
    let left : (k : ℕ) (d : Run) → k < length xs → (k < start) × (get_or xs k d ≡ get_or runs k d) = λ k d within.
    let short : k < start = below_take runs start k within in
    (short, get_or-take start runs k d short) in
    let xs_ordered : AreOrdered xs = λ i j d before within.
    let at_i = left i d (omega arith) in
    let at_j = left j d within in
    subst (λ (z : Run). Precedes (get_or xs i d) z) (sym at_j.1) (subst (λ (z : Run). Precedes z (get_or runs j d)) (sym at_i.1)
    (ordered i j d before (omega (arith, at_j.0)))) in
    let zs_ordered : AreOrdered zs = λ i j d before within.
    subst (λ (z : Run). Precedes (get_or zs i d) z) (sym (get_or-drop end runs j d))
    (subst (λ (z : Run). Precedes z (get_or runs (end + j) d)) (sym (get_or-drop end runs i d))
    (ordered (end + i) (end + j) d (omega arith) (omega (arith, length-drop end runs)))) in
    let xs_rows : All (λ x. x.row < row) xs = λ k d within. let at = left k d within in subst (λ (z : Run). z.row < row) (sym at.1) (above k d at.0) in
    let zs_rows : All (λ x. row < x.row) zs = λ k d within. subst (λ (z : Run). row < z.row) (sym (get_or-drop end runs k d))
    (below (end + k) d (omega arith) (omega (arith, length-drop end runs))) in
    let front : AreOrdered (xs ++ fresh) = AllPairs-append (λ a b. Precedes a b)
    xs fresh xs_ordered is_row.ordered
    (λ i j d i_within j_within.
    record {
      rows = omega (arith, xs_rows i d i_within, is_row.in_row j d j_within);
      cells =
          λ same. absurd (omega (arith, xs_rows i d i_within, is_row.in_row j d j_within, same));
    }) in
    let front_rows : All (λ x. x.row ≤ row) (xs ++ fresh) = All-append (λ x. x.row ≤ row) xs fresh (λ k d within.
    omega (arith, xs_rows k d within)) (λ k d within. omega (arith, is_row.in_row k d within)) in
    subst (λ (l : List Run). AreOrdered l) (sym is)
    (AllPairs-append (λ a b. Precedes a b) (xs ++ fresh)
    zs front zs_ordered (λ i j d i_within j_within.
    record {
      rows = omega (arith, front_rows i d i_within, zs_rows j d j_within);
      cells =
          λ same. absurd (omega (arith, front_rows i d i_within, zs_rows j d j_within, same));
    }))

-- a part of the front or of the back of a list
pub AllPairs-take : {X : Type 0} (R : X → X → Type 0) (n : ℕ) (xs : List X) → AllPairs R xs → AllPairs R (take n xs)
AllPairs-take R n xs pairs = grind (arith, common_steps, below_take)

-- what holds of the pairs of a list holds of those of its rest
pub AllPairs-drop : {X : Type 0} (R : X → X → Type 0) (n : ℕ) (xs : List X) → AllPairs R xs → AllPairs R (drop n xs)
AllPairs-drop R n xs pairs = grind (arith, common_steps)

-- runs that touch differ still
pub apart-put : (new : List ℕ) (runs now fresh : List Run) (row start end : ℕ) → start ≤ end → end ≤ length runs
    → ((k : ℕ) (d : Run) → k < start → (get_or runs k d).row < row) → ((k : ℕ) (d : Run) → end ≤ k → k < length runs → row < (get_or runs k d).row)
    → AreApart runs → IsRow new row fresh → now ≡ take start runs ++ fresh ++ drop end runs → AreApart now
apart-put new runs now fresh row start end low high above below apart is_row is =
    let xs = take start runs in
    let zs = drop end runs in
    let xs_rows : All (λ x. x.row < row) xs = λ k d within.
    let short : k < start = below_take runs start k within in
    subst (λ (z : Run). z.row < row) (sym (get_or-take start runs k d short)) (above k d short) in
    let zs_rows : All (λ x. row < x.row) zs = λ k d within. subst (λ (z : Run). row < z.row) (sym (get_or-drop end runs k d))
    (below (end + k) d (omega arith) (omega (arith, length-drop end runs))) in
    let front : AreApart (xs ++ fresh) = AllPairs-append (λ a b. Differ a b) xs fresh (AllPairs-take (λ a b. Differ a b) start runs apart) is_row.apart
    (λ i j d i_within j_within goes. absurd (omega (arith, xs_rows i d i_within, is_row.in_row j d j_within, goes.row))) in
    let front_rows : All (λ x. x.row ≤ row) (xs ++ fresh) = All-append (λ x. x.row ≤ row) xs fresh (λ k d within.
    omega (arith, xs_rows k d within)) (λ k d within. omega (arith, is_row.in_row k d within)) in
    subst (λ (l : List Run). AreApart l) (sym is) (AllPairs-append (λ a b.
    Differ a b) (xs ++ fresh) zs front (AllPairs-drop (λ a b. Differ a b) end runs apart) (λ i j d i_within j_within goes.
    absurd (omega (arith, front_rows i d i_within, zs_rows j d j_within, goes.row))))

-- runs with a row put in fit the widths, where those before did
pub fit-put : (widths : List ℕ) (new : List ℕ) (runs now fresh : List Run) (row start end : ℕ) → start ≤ end → end ≤ length runs
    → ((k : ℕ) (d : Run) → start ≤ k → k < end → (get_or runs k d).row ≡ row) → FitIn widths runs → IsRow new row fresh
    → (EndsBy (get_or widths row 0) (stretch runs start end) → EndsBy (get_or widths row 0) fresh) → now ≡ take start runs ++ fresh ++ drop end runs
    → FitIn widths now
fit-put widths new runs now fresh row start end low high inside fit is_row ends is =
    let P = λ (x : Run). x.cell + x.count ≤ get_or widths x.row 0 in
    let ys = stretch runs start end in
    let ends_old : EndsBy (get_or widths row 0) ys = λ k d within.
    let short : k < end - start = below_take (drop start runs) (end - start) k within in
    let read : get_or ys k d ≡ get_or runs (start + k) d = get_or-stretch runs start end k d within in
    let row_is : (get_or runs (start + k) d).row ≡ row = inside (start + k) d (omega arith) (omega arith) in
    subst (λ (z : Run). z.cell + z.count ≤ get_or widths row 0) (sym read)
    (subst (λ r. (get_or runs (start + k) d).cell + (get_or runs (start + k) d).count ≤ get_or widths r 0) row_is (fit (start + k) d (omega arith))) in
    let ends_new = ends ends_old in
    let fresh_fit : FitIn widths fresh = λ k d within. subst (λ r. (get_or fresh k d).cell + (get_or fresh k d).count ≤ get_or widths r 0)
    (sym (is_row.in_row k d within)) (ends_new k d within) in
    subst (λ (l : List Run). FitIn widths l) (sym is) (All-append P (take start runs ++ fresh) (drop end runs)
    (All-append P (take start runs) fresh (All-take P start runs fit) fresh_fit) (All-drop P end runs fit))

-- The runs of a row that others took the place of.
-- the runs above a row hold none of its cells, nor do those below it
no_left : (runs : List Run) (row start end : ℕ) → RowAt runs row start end → All (λ x. x.row ≡ row → ⊥) (take start runs)
no_left runs row start end at = grind (arith, common_steps, below_take, at.above)

no_right : (runs : List Run) (row start end : ℕ) → RowAt runs row start end → All (λ x. x.row ≡ row → ⊥) (drop end runs)
no_right runs row start end at = grind (arith, common_steps, at.below)

no_middle : (runs : List Run) (row start end r : ℕ) → RowAt runs row start end → r ≢ row → All (λ x. x.row ≡ r → ⊥) (stretch runs start end)
no_middle runs row start end r at other = grind (arith, common_steps, below_take, get_or-stretch)

-- a row shows what its own runs show
pub row_shows : (text : List ℕ) (runs : List Run) (row start end c : ℕ) → RowAt runs row start end
    → shown_cell text (stretch runs start end) row c ≡ shown_cell text runs row c
row_shows text runs row start end c at =
    sym (ap (λ (l : List Run). shown_cell text l row c) (split_three runs start end at.ordered at.within)
    ∙ painted_middle text row c (take start runs) (stretch runs start end) (drop end runs) (no_left runs row start end at) (no_right runs row start end at))

-- and after others took their place, what these show
pub put_shows : (text : List ℕ) (runs now fresh : List Run) (row start end c : ℕ) → RowAt runs row start end → now ≡ take start runs ++ fresh ++ drop end runs
    → shown_cell text now row c ≡ shown_cell text fresh row c
put_shows text runs now fresh row start end c at is = grind (arith, common_steps, painted_middle, no_left, no_right)

-- the other rows stay
pub put_others : (text : List ℕ) (runs now fresh : List Run) (row start end r c : ℕ) → RowAt runs row start end → All (λ x. x.row ≡ row) fresh
    → now ≡ take start runs ++ fresh ++ drop end runs → r ≢ row → shown_cell text now r c ≡ shown_cell text runs r c
put_others text runs now fresh row start end r c at in_row is other =
    let no_fresh : All (λ x. x.row ≡ r → ⊥) fresh = λ k d within same. other (sym same ∙ in_row k d within) in
    ap (λ (l : List Run). shown_cell text l r c) is ∙ painted_outer text r c (take start runs) fresh (drop end runs) no_fresh
    ∙ sym (ap (λ (l : List Run). shown_cell text l r c) (split_three runs start end at.ordered at.within) ∙ painted_outer text r c (take start
    runs) (stretch runs start end) (drop end runs) (no_middle runs row start end r at other))

-- as many runs are added as are put in, and as many are gone as stood there
pub put_length : (runs now fresh : List Run) (row start end : ℕ) → RowAt runs row start end → now ≡ take start runs ++ fresh ++ drop end runs
    → length now + (end - start) ≡ length runs + length fresh
put_length runs now fresh row start end at is = grind (arith, common_steps, at.ordered, at.within)

-- the bounds of a row hold of the same runs under another name
pub RowAt-read : (runs was : List Run) (row start end : ℕ) → was ≡ runs → RowAt was row start end → RowAt runs row start end
RowAt-read runs was row start end same at =
    subst (λ (l : List Run). RowAt l row start end) same at

-- a row's runs are as many as lie between its bounds
pub length-stretch : (runs : List Run) (row start end : ℕ) → RowAt runs row start end → length (stretch runs start end) ≡ end - start
length-stretch runs row start end at =
    omega (arith, at.ordered, at.within, length-take (end - start) (drop start runs), length-drop start runs)

-- a run begins at a cell that has a number
pub begins_fit : (text : List ℕ) (runs : List Run) → All (λ x. IsRun text x) runs → All (λ x. x.cell < 2 ^ 64) runs
begins_fit text runs are = λ k d within. omega (arith, (are k d within).fits)

-- no run of a row reaches past the row's end
pub row_ends : (w : List ℕ) (runs : List Run) (row start end : ℕ) → RowAt runs row start end → FitIn w runs → EndsBy (get_or w row 0) (stretch runs start end)
row_ends w runs row start end at fit = grind (arith, common_steps, below_take, get_or-stretch, at.within)

-- A row in which a text took the place of some cells.
use Rattle.snippet_grid.proofs.Common.{common_steps, ◌≡◌, ◌≢◌, ℕ, ◌<◌, List, [], ◌++◌, length, take, drop, get_or, refl, sym, ap, ◌∙◌, arith, false, inl, inr}
use Rattle.snippet_grid.proofs.Common.{subst, All, min, Result, OnOk, same_lists, get_or_default, cases_lt, cases_eq, RowAt, ShowsSpan, is_within, row_at}
use Rattle.snippet_grid.proofs.Common.{cell_at, cells_changed, ChangesCells, Cell, SPACE, IsRun, IsRow, IsGrid, BeginsWith, EndsBy, FitIn, shown_cell}
use Rattle.snippet_grid.proofs.Common.{grid_shown, Run, ◌+◌, ◌-◌, ◌≤◌, ◌^◌, None, get_or-take, get_or-drop, length-drop, nil_from_length, All-append, chars-nil}
use Rattle.snippet_grid.proofs.Common.{slice_index_or-text_cells, ShowsReplaced, cells_replaced, ReplacesCells, text_cells, IsWord, ShowsCopy, ShowsMore}
use Rattle.snippet_grid.proofs.Common.{run_cell, run_chars, ElementStyle, suc, ◌∷◌, max, lt-ltb, le-ltb, num_touched, Precedes}
use Rattle.std.specs.Bool.{if◌then◌else◌}
use Rattle.snippet_grid.proofs.ReplaceLemmas.{ChangesCells-cells_changed, ChangesCells-from_equal, ReplacesCells-cells_replaced}
use Rattle.snippet_grid.proofs.GridShown.{count_shown, width_shown, cell_shown, same_row}
use Rattle.snippet_grid.proofs.PutLemmas.{are_runs-put, ordered-put, apart-put, fit-put, AreOrdered, AreApart, row_shows, put_shows, put_others}
use Rattle.snippet_grid.proofs.ShownLemmas.{pick, painted-grown, cell_same, holds_inside, holds_before, holds-after, All-tail}
use Rattle.snippet_grid.proofs.CopyLemmas.{within_yes, within_before, within_after, copied_yes, copied_before, copied_after, shown_past}
use Rattle.snippet_grid.proofs.RunLemmas.{stretch, below_take, BeginsWith-trans}
use Rattle.std.specs.Str.{chars}

-- The rows of cells that runs show, after cells of a row were changed.
-- grids whose rows have the same cells are one
pub same_rows : (old a b : List (List Cell)) (row : ℕ) → length a ≡ length b → length (row_at a row) ≡ length (row_at b row)
    → ((c : ℕ) → c < length (row_at a row) → cell_at a row c ≡ cell_at b row c) → ((r : ℕ) → r ≢ row → row_at a r ≡ row_at b r) → a ≡ b
same_rows old a b row count width cells others =
    let row_is : row_at a row ≡ row_at b row = same_lists (row_at a row) (row_at b row) width (λ k d within.
    let inside : k < length (row_at b row) = omega arith in
    get_or_default (row_at a row) k d SPACE within ∙ cells k within ∙ sym (get_or_default (row_at b row) k d SPACE inside)) in
    let each : (r : ℕ) → row_at a r ≡ row_at b r = λ r. elim (cases_eq r row) [
      | inl here ↦ subst (λ k. row_at a k ≡ row_at b k) (sym here) row_is
      | inr other ↦ others r other
    ] in
    same_lists a b count (λ r d within.
    let inside : r < length b = omega arith in
    get_or_default a r d [] within ∙ each r ∙ sym (get_or_default b r d [] inside))

-- two grids that a change left are one
ChangesCells-unique : (f : Cell → Cell) (old a b : List (List Cell)) (row start end : ℕ) → ChangesCells f old a row start end
    → ChangesCells f old b row start end → a ≡ b
ChangesCells-unique f old a b row start end one two =
    same_rows old a b row (one.count ∙ sym two.count) (one.width ∙ sym two.width) (λ c within. elim (cases_lt c start) [
      | inl before ↦ one.before c before ∙ sym (two.before c before)
      | inr low ↦ elim (cases_lt c end) [
        | inl high ↦ one.inside c low high (omega (arith, one.width)) ∙ sym (two.inside c low high (omega (arith, one.width)))
        | inr after ↦ one.after c after ∙ sym (two.after c after)
      ]
    ]) (λ r other. one.others r other ∙ sym (two.others r other))

-- runs that show cells of a row changed, read cell by cell
ChangesCells-shown : (f : Cell → Cell) (old new : List ℕ) (runs now : List Run) (w : List ℕ) (row start end last : ℕ)
    → last ≡ min end (get_or w row 0) → FitIn w runs → FitIn w now → ShowsSpan old new runs now row start last (λ c. f (shown_cell old runs row c))
    → ((r c : ℕ) → r ≢ row → shown_cell new now r c ≡ shown_cell old runs r c) → ChangesCells f (grid_shown old runs w) (grid_shown new now w) row start end
ChangesCells-shown f old new runs now w row start end last is_last fit_old fit_new shows others =
    let before = grid_shown old runs w in
    let follows = grid_shown new now w in
    let g = λ (c : ℕ). f (shown_cell old runs row c) in
    let stays : (c : ℕ) → is_within start last c ≡ false → cell_at follows row c ≡ cell_at before row c = λ c no.
    cell_shown new now w row c fit_new ∙ shows c ∙ pick (g c) (shown_cell old runs row c) no ∙ sym (cell_shown old runs w row c fit_old) in
    record {
      inside = λ c low high within.
          cell_shown new now w row c fit_new ∙ shows c ∙ pick (g c) (shown_cell old runs row c)
          (within_yes start last c low (omega (arith, width_shown old runs w row))) ∙ ap f (sym (cell_shown old runs w row c fit_old));
      before = λ c low. stays c (within_before start last c low);
      after = λ c high. stays c (within_after start last c (omega arith));
      others = λ r other. same_row old new runs now w w r refl (λ c. others r c other);
      width = width_shown new now w row ∙ sym (width_shown old runs w row);
      count = count_shown new now w ∙ sym (count_shown old runs w);
    }

-- and so what they show is the change
pub grid_span : (f : Cell → Cell) (old new : List ℕ) (runs now : List Run) (w : List ℕ) (row start end last : ℕ) → last ≡ min end (get_or w row 0)
    → FitIn w runs → FitIn w now → ShowsSpan old new runs now row start last (λ c. f (shown_cell old runs row c))
    → ((r c : ℕ) → r ≢ row → shown_cell new now r c ≡ shown_cell old runs r c) → grid_shown new now w ≡ cells_changed f (grid_shown old runs w) row start end
grid_span f old new runs now w row start end last is_last fit_old fit_new shows others =
    let before = grid_shown old runs w in
    ChangesCells-unique f before (grid_shown new now w) (cells_changed f before row start end) row start end
    (ChangesCells-shown f old new runs now w row start end last is_last fit_old fit_new shows others) (ChangesCells-cells_changed f before row start end)

-- what holds after the runs of a row gave their place to others
pub record IsExchanged (old new : List ℕ) (runs now fresh : List Run) (row start end : ℕ) : Type 0 where
  pub at : RowAt runs row start end
  pub grows : BeginsWith old new
  pub are_runs : All (λ x. IsRun old x) runs
  pub ordered : AreOrdered runs
  pub apart : AreApart runs
  pub is_row : IsRow new row fresh
  pub is : now ≡ take start runs ++ fresh ++ drop end runs

-- runs that are put in one row leave each other row as it was
pub put_elsewhere : (old new : List ℕ) (runs now fresh : List Run) (row start end r c : ℕ) → IsExchanged old new runs now fresh row start end → r ≢ row
    → shown_cell new now r c ≡ shown_cell old runs r c
put_elsewhere old new runs now fresh row start end r c put other =
    put_others new runs now fresh row start end r c put.at put.is_row.in_row put.is other ∙ painted-grown old new r c SPACE runs put.grows put.are_runs

-- runs that are put in for others leave a grid, where they fit the widths
pub IsGrid-put : (old new : List ℕ) (runs now fresh : List Run) (w v : List ℕ) (row start end : ℕ) → IsExchanged old new runs now fresh row start end
    → FitIn v now → IsGrid new now v
IsGrid-put old new runs now fresh w v row start end put fit =
    record {
      are_runs = are_runs-put old new runs now fresh row start end put.grows put.are_runs put.is_row put.is;
      ordered = ordered-put new runs now fresh row start end put.at.ordered put.at.within put.at.above put.at.below put.ordered put.is_row put.is;
      apart = apart-put new runs now fresh row start end put.at.ordered put.at.within put.at.above put.at.below put.apart put.is_row put.is;
      inside = fit;
    }

-- runs that are put in for others fit the widths, where those before did
pub FitIn-put : (old new : List ℕ) (runs now fresh : List Run) (w : List ℕ) (row start end : ℕ) → IsExchanged old new runs now fresh row start end
    → FitIn w runs → (EndsBy (get_or w row 0) (stretch runs start end) → EndsBy (get_or w row 0) fresh) → FitIn w now
FitIn-put old new runs now fresh w row start end put fit ends =
    fit-put w new runs now fresh row start end put.at.ordered put.at.within put.at.inside fit put.is_row ends put.is

-- a grid whose runs show changed cells in a stretch is that grid with its cells changed there
pub grid_changed : (f : Cell → Cell) (old new : List ℕ) (runs now fresh : List Run) (w : List ℕ) (row start end last from to : ℕ)
    → IsExchanged old new runs now fresh row from to → last ≡ min end (get_or w row 0) → FitIn w runs → FitIn w now
    → ShowsSpan old new (stretch runs from to) fresh row start last (λ c. f (shown_cell old (stretch runs from to) row c))
    → grid_shown new now w ≡ cells_changed f (grid_shown old runs w) row start end
grid_changed f old new runs now fresh w row start end last from to put is_last fit_old fit_new shows =
    let was : (c : ℕ) → shown_cell old (stretch runs from to) row c ≡ shown_cell old runs row c = λ c. row_shows old runs row from to c put.at in
    let g = λ (c : ℕ). f (shown_cell old (stretch runs from to) row c) in
    let h = λ (c : ℕ). f (shown_cell old runs row c) in
    let here : ShowsSpan old new runs fresh row start last h = λ c.
    shows c ∙ ap (λ (d : Cell). (let cell : Cell = if is_within start last c then f d else d in cell)) (was c) in
    let there : ShowsSpan old new runs now row start last h = λ c. put_shows new runs now fresh row from to c put.at put.is ∙ here c in
    grid_span f old new runs now w row start end last is_last fit_old fit_new there (λ r c other.
    put_elsewhere old new runs now fresh row from to r c put other)

-- the change of a grid, read cell by cell
pub reads_changed : {T E : Type 0} (r : Result T E) (f : Cell → Cell) (old grid new : List (List Cell)) (row start end : ℕ) → old ≡ grid
    → OnOk r (new ≡ cells_changed f old row start end) → OnOk r (ChangesCells f grid new row start end)
reads_changed r f old grid new row start end was is = grind (arith, common_steps, ChangesCells-from_equal)

-- a text with no byte shows nothing
pub span_empty : (text : List ℕ) (out : List Run) (row at : ℕ) (word : List ℕ) (g : ℕ → Cell) → length word ≤ 0
    → ShowsSpan text text out out row at (at + length (chars word)) g
span_empty text out row at word g none = grind (arith, common_steps, nil_from_length, chars-nil, pick, within_before, within_after)

-- a word that was added after some runs
pub word_span : (t0 t1 t2 : List ℕ) (out now : List Run) (run : Run) (row at : ℕ) (role : ElementStyle) (word : List ℕ) → BeginsWith t0 t1
    → All (λ x. IsRun t0 x) out → IsWord t1 row at role word run → ShowsMore t1 t2 out now run
    → ShowsSpan t0 t2 out now row at (at + length (chars word)) (λ c. get_or (text_cells role (chars word)) (c - at) SPACE)
word_span t0 t1 t2 out now run row at role word grows are is shows =
    λ c.
    let end = at + length (chars word) in
    let x = run_cell t1 run c in
    let y = shown_cell t1 out row c in
    let g : Cell = get_or (text_cells role (chars word)) (c - at) SPACE in
    let stays : y ≡ shown_cell t0 out row c = painted-grown t0 t1 row c SPACE out grows are in
    let count : run.count ≡ length (chars word) = is.is_run.counted ∙ ap length is.chars_are in
    shows row c ∙ elim (cases_lt c at) [
      | inl before ↦ pick x y (holds_before run row c (omega (arith, is.cell_is))) ∙ stays
          ∙ sym (pick g (shown_cell t0 out row c) (within_before at end c before))
      | inr low ↦ elim (cases_lt c end) [
        | inr after ↦ pick x y (holds-after run row c (omega (arith, is.cell_is))) ∙ stays
            ∙ sym (pick g (shown_cell t0 out row c) (within_after at end c after))
        | inl high ↦
            let inside : c - at < length (chars word) = omega arith in
            let ch : get_or (run_chars t1 run) (c - run.cell) 32 ≡ get_or (chars word) (c - at) 0 = ap
            (λ (cs : List ℕ). get_or cs (c - run.cell) 32) is.chars_are ∙ ap (λ i. get_or (chars word) (c - i) 32) is.cell_is
            ∙ get_or_default (chars word) (c - at) 32 0 inside in
            let yes = holds_inside run row c is.row_is (omega (arith, is.cell_is)) (omega (arith, is.cell_is)) in
            pick x y yes ∙ cell_same x record { ch = get_or (chars word) (c - at) 0; role = role; link = None } ch is.role_is is.unlinked
            ∙ sym (slice_index_or-text_cells role (chars word) (c - at) SPACE inside)
            ∙ sym (pick g (shown_cell t0 out row c) (within_yes at end c low high))
      ]
    ]

-- a row that was copied up to a text and after it
pub row_replaced : (t0 t1 t2 t3 : List ℕ) (runs f0 f1 f2 f3 : List Run) (row start end at top : ℕ) (cells : List Cell) → start ≤ end
    → at ≡ start + length cells → 2 ^ 64 ≤ top + 1 → IsRow t0 row runs → BeginsWith t0 t1 → BeginsWith t1 t2 → ShowsCopy t0 t1 f0 f1 runs 0 start 0
    → ShowsSpan t1 t2 f1 f2 row start at (λ c. get_or cells (c - start) SPACE) → EndsBy at f2 → ShowsCopy t2 t3 f2 f3 runs end top at
    → ShowsReplaced t0 t3 runs f3 row start end cells
row_replaced t0 t1 t2 t3 runs f0 f1 f2 f3 row start end at top cells some is_at wide are grows more first second ends third =
    let g = λ (c : ℕ). get_or cells (c - start) SPACE in
    let back = λ (c : ℕ). shown_cell t2 runs row (end + (c - at)) in
    let up_to : (c : ℕ) → c < at → shown_cell t3 f3 row c ≡ shown_cell t2 f2 row c = λ c before.
    third row c ∙ pick (back c) (shown_cell t2 f2 row c) (copied_before end top at c before) in
    record {
      before = λ c left.
          let front : Cell = shown_cell t0 runs row (0 + (c - 0)) in
          up_to c (omega arith) ∙ second c ∙ pick (g c) (shown_cell t1 f1 row c) (within_before start at c left) ∙ first row c
          ∙ pick front (shown_cell t0 f0 row c) (copied_yes 0 start 0 c (omega arith) (omega arith)) ∙ ap (λ i. shown_cell t0 runs row i) (omega arith);
      inside = λ k within.
          let index : (start + k) - start ≡ k = omega arith in
          up_to (start + k) (omega arith) ∙ second (start + k) ∙ pick (g (start + k)) (shown_cell t1 f1 row (start + k))
          (within_yes start at (start + k) (omega arith) (omega arith)) ∙ ap (λ i. get_or cells i SPACE) index;
      after = λ k.
          let c = start + length cells + k in
          let there : end + (c - at) ≡ end + k = omega arith in
          let outside = shown_cell t2 f2 row c in
          third row c ∙ elim (cases_lt c (at + (top - end))) [
            | inl below ↦ pick (back c) outside (copied_yes end top at c (omega arith) below) ∙ ap (λ i. shown_cell t2 runs row i) there
                ∙ painted-grown t0 t2 row (end + k) SPACE runs (BeginsWith-trans t0 t1 t2 grows more) are.are_runs
            | inr beyond ↦
                let gone : shown_cell t0 runs row (end + k) ≡ SPACE = shown_past t0 row (end + k) top SPACE runs (λ i d within.
                omega (arith, (are.are_runs i d within).fits)) (omega arith) in
                pick (back c) outside (copied_after end top at c beyond) ∙ shown_past t2 row c at SPACE f2 ends (omega arith) ∙ sym gone
          ];
    }

-- two grids that a replacement left are one
ReplacesCells-unique : (old a b : List (List Cell)) (row start end : ℕ) (cells : List Cell) → start < end → end ≤ length (row_at old row)
    → ReplacesCells old a row start end cells → ReplacesCells old b row start end cells → a ≡ b
ReplacesCells-unique old a b row start end cells some within one two =
    same_rows old a b row (one.count ∙ sym two.count) (omega (arith, one.width some within, two.width some within)) (λ c inside. elim (cases_lt c start) [
      | inl before ↦ one.before c before ∙ sym (two.before c before)
      | inr low ↦ elim (cases_lt c (start + length cells)) [
        | inl high ↦
            let place : start + (c - start) ≡ c = omega arith in
            ap (cell_at a row) (sym place) ∙ one.inside some within (c - start) (omega arith) ∙ sym (two.inside some within (c - start) (omega arith))
            ∙ ap (cell_at b row) place
        | inr after ↦
            let k = c - (start + length cells) in
            let place : start + length cells + k ≡ c = omega arith in
            ap (cell_at a row) (sym place) ∙ one.after some within k ∙ sym (two.after some within k) ∙ ap (cell_at b row) place
      ]
    ]) (λ r other. one.others r other ∙ sym (two.others r other))

-- a grid whose runs show a stretch replaced is that grid with its cells replaced
pub grid_replaced : (old new : List ℕ) (runs now fresh : List Run) (w v : List ℕ) (row start end from to : ℕ) (cells : List Cell)
    → IsExchanged old new runs now fresh row from to → start < end → end ≤ get_or w row 0 → FitIn w runs → FitIn v now → length v ≡ length w
    → get_or v row 0 + (end - start) ≡ get_or w row 0 + length cells → ((r : ℕ) → r ≢ row → get_or v r 0 ≡ get_or w r 0)
    → ShowsReplaced old new (stretch runs from to) fresh row start end cells
    → grid_shown new now v ≡ cells_replaced (grid_shown old runs w) row start end cells
grid_replaced old new runs now fresh w v row start end from to cells put some within fit_old fit_new count wide others shows =
    let before = grid_shown old runs w in
    let follows = grid_shown new now v in
    let width : length (row_at before row) ≡ get_or w row 0 = width_shown old runs w row in
    let was : (c : ℕ) → shown_cell old (stretch runs from to) row c ≡ cell_at before row c = λ c.
    row_shows old runs row from to c put.at ∙ sym (cell_shown old runs w row c fit_old) in
    let is : (c : ℕ) → cell_at follows row c ≡ shown_cell new fresh row c = λ c.
    cell_shown new now v row c fit_new ∙ put_shows new runs now fresh row from to c put.at put.is in
    let reads : ReplacesCells before follows row start end cells = record {
      inside = λ _ _ k inside. is (start + k) ∙ shows.inside k inside;
      after = λ _ _ k. is (start + length cells + k) ∙ shows.after k ∙ was (end + k);
      width = λ _ _. omega (arith, width, width_shown new now v row);
      before = λ c left. is c ∙ shows.before c left ∙ was c;
      others = λ r other. same_row old new runs now w v r (others r other) (λ c. put_elsewhere old new runs now fresh row from to r c put other);
      count = count_shown new now v ∙ count ∙ sym (count_shown old runs w);
      empty = λ none. absurd (omega arith);
      past = λ none. absurd (omega arith);
    } in
    ReplacesCells-unique before follows (cells_replaced before row start end cells) row start end cells some (omega arith) reads
    (ReplacesCells-cells_replaced before row start end cells)

-- the runs of the other rows fit as before, those of the row in its new length
pub FitIn-replaced : (old new : List ℕ) (runs now fresh : List Run) (w v : List ℕ) (row start end : ℕ) → IsExchanged old new runs now fresh row start end
    → FitIn w runs → EndsBy (get_or v row 0) fresh → ((r : ℕ) → r ≢ row → get_or v r 0 ≡ get_or w r 0) → FitIn v now
FitIn-replaced old new runs now fresh w v row start end put fit ends others =
    let P = λ (x : Run). x.cell + x.count ≤ get_or v x.row 0 in
    let xs = take start runs in
    let zs = drop end runs in
    let left : All P xs = λ k d within.
    let short : k < start = below_take runs start k within in
    let x = get_or runs k d in
    let here : P x = omega (
      arith,
      fit k d (omega (arith, put.at.ordered, put.at.within)),
      others x.row (λ same.
          omega (arith, put.at.above k d short, same)),
    ) in
    subst P (sym (get_or-take start runs k d short)) here in
    let right : All P zs = λ k d within.
    let inside : end + k < length runs = omega (arith, length-drop end runs) in
    let x = get_or runs (end + k) d in
    let here : P x = omega (arith, fit (end + k) d inside, others x.row (λ same. omega (arith, put.at.below (end + k) d (omega arith) inside, same))) in
    subst P (sym (get_or-drop end runs k d)) here in
    let middle : All P fresh = λ k d within. subst (λ r. (get_or fresh k d).cell + (get_or fresh k d).count ≤ get_or v r 0)
    (sym (put.is_row.in_row k d within)) (ends k d within) in
    subst (λ (l : List Run). FitIn v l) (sym put.is) (All-append P (xs ++ fresh) zs (All-append P xs fresh left middle) right)

-- How many runs of a row have cells before a stretch, and after it.
num_touched-le : (from to : ℕ) (runs : List Run) → num_touched from to runs ≤ length runs
num_touched-le from to [] = omega arith
num_touched-le from to (run ∷ runs) = grind (arith, common_steps, run.cell, run.count, num_touched-le from to runs, pick)

-- no run is touched that begins after the span
none_touched : (from to : ℕ) (runs : List Run) → All (λ x. to ≤ x.cell) runs → num_touched from to runs ≡ 0
none_touched from to [] all = refl
none_touched from to (run ∷ runs) all =
    let past : to ≤ run.cell = all 0 run (omega arith) in
    omega (
      arith,
      none_touched from to runs (All-tail (λ x. to ≤ x.cell) run runs all),
      pick {X = ℕ} 1 0
          (le-ltb (max run.cell from) (min (run.cell + run.count) to) (omega arith)),
    )

-- of the runs of a row, one at most is touched before a cell and after a later one
pub touched_outer : (text : List ℕ) (row a b top : ℕ) (runs : List Run) → a ≤ b → IsRow text row runs
    → num_touched 0 a runs + num_touched b top runs ≤ length runs + 1
touched_outer text row a b top [] low is = omega arith
touched_outer text row a b top (run ∷ runs) low is =
    let rest : IsRow text row runs = record {
      are_runs = All-tail (λ x. IsRun text x) run runs is.are_runs;
      in_row = All-tail (λ x. x.row ≡ row) run runs is.in_row;
      ordered = λ i j d below within. is.ordered (suc i) (suc j) d (omega arith) (omega arith);
      apart = λ i j d below within. is.apart (suc i) (suc j) d (omega arith) (omega arith);
    } in
    elim (cases_lt (max run.cell b) (min (run.cell + run.count) top)) [
      | inl right ↦
          let beyond : All (λ z. a ≤ z.cell) runs = λ k d within.
          let precedes : Precedes run (get_or runs k d) = is.ordered 0 (suc k) d (omega arith) (omega arith) in
          let reaches : run.cell + run.count ≤ (get_or runs k d).cell = precedes.cells (is.in_row 0 d (omega arith) ∙ sym (rest.in_row k d within)) in
          omega arith in
          let none : num_touched 0 a runs ≡ 0 = none_touched 0 a runs beyond in
          elim (cases_lt (max run.cell 0) (min (run.cell + run.count) a)) [
            | inl left ↦ omega (
              arith,
              none,
              num_touched-le b top runs,
              pick {X = ℕ} 1 0 (lt-ltb (max run.cell 0) (min (run.cell + run.count) a) left),
              pick
                  {X = ℕ} 1 0 (lt-ltb (max run.cell b) (min (run.cell + run.count) top) right),
            )
            | inr free ↦ omega (
              arith,
              none,
              num_touched-le b top runs,
              pick {X = ℕ} 1 0 (le-ltb (max run.cell 0) (min (run.cell + run.count) a) free),
              pick
                  {X = ℕ} 1 0 (lt-ltb (max run.cell b) (min (run.cell + run.count) top) right),
            )
          ]
      | inr free ↦ elim (cases_lt (max run.cell 0) (min (run.cell + run.count) a)) [
        | inl left ↦ omega (
          arith,
          touched_outer text row a b top runs low rest,
          pick {X = ℕ} 1 0
              (lt-ltb (max run.cell 0) (min (run.cell + run.count) a) left),
          pick {X = ℕ} 1 0 (le-ltb (max run.cell b) (min (run.cell + run.count) top) free),
        )
        | inr none ↦ omega (
          arith,
          touched_outer text row a b top runs low rest,
          pick {X = ℕ} 1 0
              (le-ltb (max run.cell 0) (min (run.cell + run.count) a) none),
          pick {X = ℕ} 1 0 (le-ltb (max run.cell b) (min (run.cell + run.count) top) free),
        )
      ]
    ]

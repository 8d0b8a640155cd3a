-- Runs that are copied, cut and moved.
use Rattle.snippet_grid.proofs.Common.{common_steps, ◌≡◌, ℕ, ◌+◌, ◌-◌, ◌<◌, ◌≤◌, List, [], ◌∷◌, ◌++◌, length, take, get_or, refl, sym, ap, ◌∙◌, arith, Bool}
use Rattle.snippet_grid.proofs.Common.{true, false, inl, inr, subst, All, nat_lt, nat_le, min, max, take_more, get_or_default, cases_lt, cases_eq, and_from}
use Rattle.snippet_grid.proofs.Common.{and_left, and_right, le-leb, lt-leb, lt-ltb, le-ltb, option_copied, num_touched, Cell, SPACE, IsRun, IsPart, BeginsWith}
use Rattle.snippet_grid.proofs.Common.{ShowsMore, ShowsCopy, AddsRun, IsRow, EndsBy, Precedes, run_cell, holds, painted_over, shown_cell, Run, ◌^◌, replicate}
use Rattle.snippet_grid.proofs.Common.{None, length-replicate, get_or-replicate, get_or_past, chars-IsAscii, IsUtf8, IsBlankRun, is_within, ShowsSpan, NoStyle}
use Rattle.std.specs.Bool.{if◌then◌else◌}
use Rattle.std.specs.Prelude.{◌&&◌}
use Rattle.std.specs.Str.{chars}
use Rattle.snippet_grid.proofs.RunLemmas.{run_bytes-grown, BeginsWith-same, BeginsWith-trans}
use Rattle.snippet_grid.proofs.ShownLemmas.{painted-append, All-tail, pick, cell_same, holds_inside, holds_elsewhere, holds_before, holds-after}
use Rattle.snippet_grid.proofs.GridShown.{IsWord-pushed}

-- whether a cell is among those that are copied
abbrev pub is_copied : ℕ → ℕ → ℕ → ℕ → Bool
is_copied from to at c = nat_le at c && nat_lt c (at + (to - from))

-- a column of the copy is copied to
pub copied_yes : (from to at c : ℕ) → at ≤ c → c < at + (to - from) → is_copied from to at c ≡ true
copied_yes from to at c low high = and_from _ _ (le-leb at c low) (lt-ltb c (at + (to - from)) high)

-- a column left of the copy isn't copied to
pub copied_before : (from to at c : ℕ) → c < at → is_copied from to at c ≡ false
copied_before from to at c before = and_left _ _ (lt-leb at c before)

-- a column right of the copy isn't copied to
pub copied_after : (from to at c : ℕ) → at + (to - from) ≤ c → is_copied from to at c ≡ false
copied_after from to at c after = and_right _ _ (le-ltb c (at + (to - from)) after)

-- what runs show where none reaches
pub shown_past : (text : List ℕ) (r c n : ℕ) (d : Cell) (runs : List Run) → EndsBy n runs → n ≤ c → painted_over text r c d runs ≡ d
shown_past text r c n d [] ends past = refl
shown_past text r c n d (run ∷ runs) ends past =
    ap (λ (cell : Cell). painted_over text r c cell runs) (pick (run_cell text run c) d (holds-after run r c (omega (arith, ends 0 run (omega arith)))))
    ∙ shown_past text r c n d runs (All-tail (λ x. x.cell + x.count ≤ n) run runs ends) past

num_touched-append : (from to : ℕ) (xs ys : List Run) → num_touched from to (xs ++ ys) ≡ num_touched from to xs + num_touched from to ys
num_touched-append from to [] ys = omega arith
num_touched-append from to (run ∷ xs) ys = omega (arith, num_touched-append from to xs ys)

-- one more run is touched, or not
touched_more : (from to n : ℕ) (runs : List Run) (run : Run) → n < length runs → run ≡ get_or runs n run
    → num_touched from to (take (n + 1) runs) ≡ num_touched from to (take n runs) + num_touched from to (run ∷ [])
touched_more from to n runs run within read = grind (arith, common_steps, take_more, num_touched-append)

touched_one : (from to : ℕ) (run : Run) → max run.cell from < min (run.cell + run.count) to → num_touched from to (run ∷ []) ≡ 1
touched_one from to run some = ap (λ k. k + 0) (pick 1 0 (lt-ltb (max run.cell from) (min (run.cell + run.count) to) some))

-- what was copied so far
pub record CopySoFar (old now : List ℕ) (out_old out_now runs : List Run) (row from to at n : ℕ) : Type 0 where
  pub grows : BeginsWith old now
  pub is_row : IsRow now row out_now
  pub ends : EndsBy (at + (to - from)) out_now
  pub tight : (m : ℕ) → EndsBy m runs → EndsBy (at + (min m to - from)) out_now
  pub before : (k : ℕ) (d : Run) → n ≤ k → k < length runs → EndsBy (at + ((get_or runs k d).cell - from)) out_now
  pub shows : ShowsCopy old now out_old out_now (take n runs) from to at
  pub count : length out_now ≤ length out_old + num_touched from to (take n runs)

-- before any run is copied the row is as it was
pub copy_start : (old : List ℕ) (out runs : List Run) (row from to at : ℕ) → IsRow old row out → EndsBy at out → CopySoFar old old out out runs row from to at 0
copy_start old out runs row from to at is ends = grind (arith, common_steps, BeginsWith-same, pick, copied_before, shown_past, copied_yes, copied_after)

-- a cell of a piece is the cell of the run that it was cut from
pub piece_cell : (old now : List ℕ) (run part piece : Run) (from at start end c : ℕ) → BeginsWith old now → IsRun old run
    → IsPart now run start end part → run.cell ≤ start → from ≤ start → piece.cell ≡ at + (start - from) → piece.start ≡ part.start
    → piece.end ≡ part.end → piece.role ≡ part.role → option_copied piece.link ≡ option_copied part.link → piece.cell ≤ c
    → c < piece.cell + (end - start) → run_cell now piece c ≡ run_cell old run (from + (c - at))
piece_cell old now run part piece from at start end c grows is cut low from_le cell starts ends role link above below =
    grind (arith, common_steps, piece.end, part.start, run.cell, cut.chars_are, run_bytes-grown, piece.cell, cell_same, cut.role, cut.link)

-- one more run was copied
copied_cell : (old now : List ℕ) (run part piece : Run) (from to at start end r c : ℕ) (before outside : Cell) → BeginsWith old now → IsRun old run
    → IsPart now run start end part → start ≡ max run.cell from → end ≡ min (run.cell + run.count) to → start < end → piece.row ≡ run.row
    → piece.cell ≡ at + (start - from) → piece.count ≡ part.count → piece.start ≡ part.start → piece.end ≡ part.end → piece.role ≡ part.role
    → option_copied piece.link ≡ option_copied part.link
    → (if holds piece r c then run_cell now piece c else (if is_copied from to at c then before else outside))
    ≡ (if is_copied from to at c then (if holds run r (from + (c - at)) then run_cell old run (from + (c - at)) else before) else outside)
copied_cell old now run part piece from to at start end r c before outside grows is cut is_start is_end some row cell count starts ends role link =
    let there = from + (c - at) in
    let x = run_cell now piece c in
    let y = run_cell old run there in
    let kept : Cell = if is_copied from to at c then before else outside in
    let more : Cell = if holds run r there then y else before in
    let long : piece.count ≡ end - start = omega (arith, count, cut.count) in
    let low : run.cell ≤ start = omega arith in
    let from_le : from ≤ start = omega arith in
    let end_le : end ≤ to = omega arith in
    let run_end : end ≤ run.cell + run.count = omega arith in
    elim (cases_lt c at) [
      | inl left ↦ pick x kept (holds_before piece r c (omega arith)) ∙ pick before outside (copied_before from to at c left)
          ∙ sym (pick more outside (copied_before from to at c left))
      | inr above ↦ elim (cases_lt c (at + (to - from))) [
        | inr after ↦ pick x kept (holds-after piece r c (omega arith)) ∙ pick before outside (copied_after from to at c after)
            ∙ sym (pick more outside (copied_after from to at c after))
        | inl below ↦
            let yes = copied_yes from to at c above below in
            elim (cases_eq run.row r) [
              | inr other ↦ pick x kept (holds_elsewhere piece r c (λ h. other (sym row ∙ h))) ∙ pick before outside yes
                  ∙ sym (pick more outside yes ∙ pick y before (holds_elsewhere run r there other))
              | inl here ↦ elim (cases_lt there run.cell) [
                | inl short ↦ pick x kept (holds_before piece r c (omega arith)) ∙ pick before outside yes
                    ∙ sym (pick more outside yes ∙ pick y before (holds_before run r there short))
                | inr reaches ↦ elim (cases_lt there (run.cell + run.count)) [
                  | inr past ↦ pick x kept (holds-after piece r c (omega arith)) ∙ pick before outside yes
                      ∙ sym (pick more outside yes ∙ pick y before (holds-after run r there past))
                  | inl within ↦
                      let first : piece.cell ≤ c = omega arith in
                      let last : c < piece.cell + (end - start) = omega arith in
                      pick x kept (holds_inside piece r c (row ∙ here) first (omega arith))
                      ∙ piece_cell old now run part piece from at start end c grows is cut low from_le cell starts ends role link first last
                      ∙ sym (pick more outside yes ∙ pick y before (holds_inside run r there here reaches within))
                ]
              ]
            ]
      ]
    ]

-- the runs so far show one more
shown_more : (text : List ℕ) (runs : List Run) (n r c : ℕ) (d : Run) → n < length runs
    → shown_cell text (take (n + 1) runs) r c ≡ (let run = get_or runs n d in if holds run r c then run_cell text run c else shown_cell text (take n runs) r c)
shown_more text runs n r c d within =
    ap (λ (xs : List Run). shown_cell text xs r c) (take_more runs n d within) ∙ painted-append text r c SPACE (take n runs) (get_or runs n d ∷ [])

-- with one more run copied the runs so far are copied
pub copy_next : (old now new : List ℕ) (out_old out_now out_new runs : List Run) (run part piece : Run) (row from to at n start end : ℕ)
    → n < length runs → run ≡ get_or runs n run → IsRow old row runs → CopySoFar old now out_old out_now runs row from to at n
    → IsPart now run start end part → start ≡ max run.cell from → end ≡ min (run.cell + run.count) to → start < end → piece.row ≡ row
    → piece.cell ≡ at + (start - from) → piece.count ≡ part.count → piece.start ≡ part.start → piece.end ≡ part.end → piece.role ≡ part.role
    → option_copied piece.link ≡ option_copied part.link → BeginsWith now new → ShowsMore now new out_now out_new piece
    → All (λ x. IsRun new x) out_new → AddsRun out_now out_new piece → CopySoFar old new out_old out_new runs row from to at (n + 1)
copy_next old now new out_old out_now out_new runs run part piece row from to at n start end within read are so_far cut is_start is_end some piece_row cell
    count starts ends role link grows shows are_new adds =
    let is : IsRun old run = subst (λ x. IsRun old x) (sym read) (are.are_runs n run within) in
    let run_row : run.row ≡ row = subst (λ (x : Run). x.row ≡ row) (sym read) (are.in_row n run within) in
    let piece_end : piece.cell + piece.count ≡ at + (end - from) = omega (arith, count, cut.count, cell) in
    let ends_now : EndsBy (at + (run.cell - from)) out_now = subst (λ (x : Run). EndsBy (at + (x.cell - from)) out_now) (sym read)
    (so_far.before n run (omega arith) within) in
    let all_before : All (λ x. Precedes x piece) out_now = λ k d inside. record {
      rows = omega (arith, piece_row, so_far.is_row.in_row k d inside);
      cells = λ same. omega (arith, ends_now k d inside, cell, is_start);
    } in
    record {
      grows = BeginsWith-trans old now new so_far.grows grows;
      is_row = record {
        are_runs = are_new;
        in_row = adds.rows row so_far.is_row.in_row piece_row;
        ordered = adds.order so_far.is_row.ordered all_before;
        apart = adds.apart so_far.is_row.ordered all_before so_far.is_row.apart;
      };
      ends = adds.ends (at + (to - from)) so_far.ends (omega arith);
      tight = λ m all.
          let run_end : run.cell + run.count ≤ m = subst (λ (x : Run). x.cell + x.count ≤ m) (sym read) (all n run within) in
          adds.ends (at + (min m to - from)) (so_far.tight m all) (omega arith);
      before = λ k d later inside.
          let next : Run = get_or runs k d in
          let precedes : Precedes (get_or runs n d) next = are.ordered n k d (omega arith) inside in
          let read_at : get_or runs n d ≡ run = get_or_default runs n d run within ∙ sym read in
          let next_row : next.row ≡ row = are.in_row k d inside in
          let gap : run.cell + run.count ≤ next.cell = subst (λ (x : Run). x.cell + x.count ≤ next.cell) read_at
          (precedes.cells (ap (λ (x : Run). x.row) read_at ∙ run_row ∙ sym next_row)) in
          adds.ends (at + (next.cell - from)) (so_far.before k d (omega arith) inside) (omega arith);
      shows = λ r c.
          let there = from + (c - at) in
          let before = shown_cell old (take n runs) r there in
          let outside = shown_cell old out_old r c in
          let one_more : shown_cell old (take (n + 1) runs) r there ≡ (if holds run r there then run_cell old run there else before) = shown_more old runs n r
          there run within ∙ ap (λ (x : Run). if holds x r there then run_cell old x there else before) (sym read) in
          shows r c ∙ ap (λ (d : Cell). if holds piece r c then run_cell now piece c else d) (so_far.shows r c)
          ∙ copied_cell old now run part piece from to at start end r c before outside so_far.grows is cut is_start is_end some
          (piece_row ∙ sym run_row) cell count starts ends role link
          ∙ ap (λ (d : Cell). if is_copied from to at c then d else outside) (sym one_more);
      count = omega (arith, so_far.count, adds.count, touched_more from to n runs run within read, touched_one from to run (omega arith));
    }

-- a run that has no cell in the stretch
pub copy_past : (old now : List ℕ) (out_old out_now runs : List Run) (run : Run) (row from to at n start end : ℕ) → n < length runs
    → run ≡ get_or runs n run → CopySoFar old now out_old out_now runs row from to at n → start ≡ max run.cell from
    → end ≡ min (run.cell + run.count) to → end ≤ start → CopySoFar old now out_old out_now runs row from to at (n + 1)
copy_past old now out_old out_now runs run row from to at n start end within read so_far is_start is_end none =
    record {
      grows = so_far.grows;
      is_row = so_far.is_row;
      ends = so_far.ends;
      tight = so_far.tight;
      before = λ k d later inside. so_far.before k d (omega arith) inside;
      shows = λ r c.
          let there = from + (c - at) in
          let before = shown_cell old (take n runs) r there in
          let outside = shown_cell old out_old r c in
          let one_more : shown_cell old (take (n + 1) runs) r there ≡ (if holds run r there then run_cell old run there else before) = shown_more old runs n r
          there run within ∙ ap (λ (x : Run). if holds x r there then run_cell old x there else before) (sym read) in
          so_far.shows r c ∙ elim (cases_lt c at) [
            | inl left ↦ pick before outside (copied_before from to at c left)
                ∙ sym (pick (shown_cell old (take (n + 1) runs) r there) outside (copied_before from to at c left))
            | inr above ↦ elim (cases_lt c (at + (to - from))) [
              | inr after ↦ pick before outside (copied_after from to at c after)
                  ∙ sym (pick (shown_cell old (take (n + 1) runs) r there) outside (copied_after from to at c after))
              | inl below ↦
                  let gone : shown_cell old (take (n + 1) runs) r there ≡ before = elim (cases_lt there run.cell) [
                    | inl short ↦ one_more ∙ pick (run_cell old run there) before (holds_before run r there short)
                    | inr reaches ↦ one_more ∙ pick (run_cell old run there) before (holds-after run r there (omega arith))
                  ] in
                  ap (λ (d : Cell). if is_copied from to at c then d else outside) (sym gone)
            ]
          ];
      count = omega (arith, so_far.count, touched_more from to n runs run within read);
    }

-- Spans of a row that runs show.
-- a column between two bounds is within them
pub within_yes : (from to c : ℕ) → from ≤ c → c < to → is_within from to c ≡ true
within_yes from to c low high = and_from _ _ (le-leb from c low) (lt-ltb c to high)

-- a column left of both bounds isn't within them
pub within_before : (from to c : ℕ) → c < from → is_within from to c ≡ false
within_before from to c before = and_left _ _ (lt-leb from c before)

-- a column at the second bound or right of it isn't within them
pub within_after : (from to c : ℕ) → to ≤ c → is_within from to c ≡ false
within_after from to c after = and_right _ _ (le-ltb c to after)

-- a span and the next one
pub span_joined : (t0 t1 t2 : List ℕ) (o0 o1 o2 : List Run) (row from mid to : ℕ) (g h k : ℕ → Cell) → from ≤ mid → mid ≤ to
    → ((c : ℕ) → from ≤ c → c < mid → g c ≡ k c) → ((c : ℕ) → mid ≤ c → c < to → h c ≡ k c) → ShowsSpan t0 t1 o0 o1 row from mid g
    → ShowsSpan t1 t2 o1 o2 row mid to h → ShowsSpan t0 t2 o0 o2 row from to k
span_joined t0 t1 t2 o0 o1 o2 row from mid to g h k first_le second_le first_is second_is first second =
    grind (arith, common_steps, pick, within_before, within_yes, within_after)

-- a list of spaces has a space everywhere
spaces_at : (n k : ℕ) → (let cs : List ℕ = replicate n 32 in get_or cs k 32 ≡ 32)
spaces_at n k = grind (arith, common_steps, get_or_past)

-- spaces that were put at the end of the text
pub IsGap-pushed : (old new : List ℕ) (run : Run) (row from to n : ℕ) → IsUtf8 old → IsUtf8 new → from < to → to < 2 ^ 64 → n ≡ to - from
    → new ≡ old ++ replicate n 32 → run.row ≡ row → run.cell ≡ from → run.count ≡ n → run.start ≡ length old → run.end ≡ length new
    → run.role ≡ NoStyle → option_copied run.link ≡ None → IsBlankRun new row from to run
IsGap-pushed old new run row from to n utf8 utf8_new some fits is_n pushed row_is cell_is count start end role link =
    let word : List ℕ = replicate n 32 in
    let spelled : chars word ≡ word = chars-IsAscii word (λ i. elim (cases_lt i n) [
      | inl within ↦ omega (arith, get_or-replicate {A = ℕ} n i 32 0 within)
      | inr past ↦ omega (arith, get_or_past word i 0 (omega (arith, length-replicate {A = ℕ} n 32)))
    ]) in
    let long : length (chars word) ≡ n = ap length spelled ∙ length-replicate {A = ℕ} n 32 in
    let is = IsWord-pushed old new word run row from NoStyle utf8 utf8_new (omega arith) (omega arith) pushed row_is cell_is
    (count ∙ sym long) start end role link in
    record {
      is_run = is.is_run;
      row_is = row_is;
      cell_is = cell_is;
      count_is = omega arith;
      cells = λ c. cell_same (run_cell new run c) SPACE (ap (λ (cs : List ℕ). get_or cs (c - run.cell) 32) (is.chars_are ∙ spelled)
          ∙ spaces_at n (c - run.cell)) role link;
    }

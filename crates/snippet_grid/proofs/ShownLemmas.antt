-- What runs show, when one is added.
use Rattle.snippet_grid.proofs.Common.{common_steps, ◌≡◌, ℕ, suc, ◌+◌, ◌-◌, ◌<◌, ◌≤◌, List, [], ◌∷◌, ◌++◌, length, take, set, get_or, refl, sym, ap, ◌∙◌, arith}
use Rattle.snippet_grid.proofs.Common.{Bool, true, false, inl, inr, subst, All, take_all, take_more, take_more_set, length-set, length_push, get_or-set_same}
use Rattle.snippet_grid.proofs.Common.{get_or-set_other, get_or_push, get_or_default, get_or_append_left, get_or-append_right, All-take, All-set, All-push}
use Rattle.snippet_grid.proofs.Common.{AllPairs, cases_lt, cases_eq, and_from, and_left, and_right, eq-eqb, ne_eqb, le-leb, lt-leb, lt-ltb, le-ltb, Cell, SPACE}
use Rattle.snippet_grid.proofs.Common.{IsRun, IsJoined, Continues, BeginsWith, ShowsMore, run_chars, run_cell, holds, painted_over, shown_cell, Precedes}
use Rattle.snippet_grid.proofs.Common.{Differ, AddsRun, Run}
use Rattle.std.specs.Bool.{if◌then◌else◌}
use Rattle.snippet_grid.proofs.RunLemmas.{run_bytes-grown, IsRun-grown}

-- painting two lists of runs is painting one after the other
pub painted-append : (text : List ℕ) (r c : ℕ) (d : Cell) (xs ys : List Run) → painted_over text r c d (xs ++ ys)
    ≡ painted_over text r c (painted_over text r c d xs) ys
painted-append text r c d [] ys = refl
painted-append text r c d (run ∷ xs) ys =
    painted-append text r c (if holds run r c then run_cell text run c else d) xs ys

-- a run shows the same cells once the text has grown
pub run_cell-grown : (old new : List ℕ) (run : Run) (c : ℕ) → BeginsWith old new → IsRun old run → run_cell new run c ≡ run_cell old run c
run_cell-grown old new run c grows is = grind (arith, common_steps, run.cell, run.role, run.link, run_bytes-grown)

-- what holds of each of a list holds of each after the first
pub All-tail : {X : Type 0} (P : X → Type 0) (x : X) (xs : List X) → All P (x ∷ xs) → All P xs
All-tail P x xs all = λ k d within. all (suc k) d (omega arith)

-- what runs show stays when the text grows
pub painted-grown : (old new : List ℕ) (r c : ℕ) (d : Cell) (runs : List Run) → BeginsWith old new → All (λ run. IsRun old run) runs
    → painted_over new r c d runs ≡ painted_over old r c d runs
painted-grown old new r c d [] grows are = refl
painted-grown old new r c d (run ∷ runs) grows are =
    ap (λ (cell : Cell). painted_over new r c (if holds run r c then cell else d) runs) (run_cell-grown old new run c grows (are 0 run (omega arith)))
    ∙ painted-grown old new r c (if holds run r c then run_cell old run c else d) runs grows (All-tail (λ x. IsRun old x) run runs are)

-- runs of a text are runs of it also once it has grown
pub All-IsRun-grown : (old new : List ℕ) (runs : List Run) → BeginsWith old new → All (λ run. IsRun old run) runs → All (λ run. IsRun new run) runs
All-IsRun-grown old new runs grows are = λ k d within. IsRun-grown old new (get_or runs k d) grows (are k d within)

-- where a run holds a cell, and where not
pub holds_inside : (run : Run) (r c : ℕ) → run.row ≡ r → run.cell ≤ c → c < run.cell + run.count → holds run r c ≡ true
holds_inside run r c row low high =
    and_from _ _ (eq-eqb run.row r row) (and_from _ _ (le-leb run.cell c low) (lt-ltb c (run.cell + run.count) high))

-- a run holds no cell of another row
pub holds_elsewhere : (run : Run) (r c : ℕ) → (run.row ≡ r → ⊥) → holds run r c ≡ false
holds_elsewhere run r c other = and_left _ _ (ne_eqb run.row r other)

-- a run holds no cell left of its first
pub holds_before : (run : Run) (r c : ℕ) → c < run.cell → holds run r c ≡ false
holds_before run r c before = and_right _ _ (and_left _ _ (lt-leb run.cell c before))

-- a run holds no cell right of its last
pub holds-after : (run : Run) (r c : ℕ) → run.cell + run.count ≤ c → holds run r c ≡ false
holds-after run r c after = and_right _ _ (and_right _ _ (le-ltb c (run.cell + run.count) after))

-- a choice by one test is the same by a test that answers the same
pub pick : {X : Type 0} {b v : Bool} (x y : X) → b ≡ v → (if b then x else y) ≡ (if v then x else y)
pick x y is = ap (λ (t : Bool). if t then x else y) is

-- cells with the same character, role and link are the same
pub cell_same : (a b : Cell) → a.ch ≡ b.ch → a.role ≡ b.role → a.link ≡ b.link → a ≡ b
cell_same a b ch role link = grind (arith, common_steps, a.role, a.link, b.ch, b.role)

-- two runs made one show what both show
joined_cell : (old new : List ℕ) (first second whole : Run) (r c : ℕ) (d : Cell) → IsRun old first → IsRun old second → Continues first second
    → IsJoined old new first second whole → (if holds whole r c then run_cell new whole c else d)
    ≡ (if holds second r c then run_cell old second c else (if holds first r c then run_cell old first c else d))
joined_cell old new first second whole r c d one two goes joined =
    let x = run_cell new whole c in
    let y = run_cell old second c in
    let z = run_cell old first c in
    let rest : Cell = if holds first r c then z else d in
    let long : length (run_chars old first) ≡ first.count = sym one.counted in
    elim (cases_eq first.row r) [
      | inr other ↦
          let whole_no = holds_elsewhere whole r c (λ h. other (sym joined.row ∙ h)) in
          let second_no = holds_elsewhere second r c (λ h. other (goes.row ∙ h)) in
          pick x d whole_no ∙ sym (pick y rest second_no ∙ pick z d (holds_elsewhere first r c other))
      | inl row ↦
          elim (cases_lt c first.cell) [
            | inl before ↦
                let whole_no = holds_before whole r c (omega (arith, joined.cell)) in
                let second_no = holds_before second r c (omega (arith, goes.touches)) in
                pick x d whole_no ∙ sym (pick y rest second_no ∙ pick z d (holds_before first r c before))
            | inr low ↦
                elim (cases_lt c (first.cell + first.count)) [
                  | inl in_first ↦
                      let whole_yes = holds_inside whole r c (joined.row ∙ row) (omega (arith, joined.cell)) (omega (arith, joined.cell, joined.count)) in
                      let second_no = holds_before second r c (omega (arith, goes.touches)) in
                      let ch : x.ch ≡ z.ch = ap (λ (cs : List ℕ). get_or cs (c - whole.cell) 32) joined.chars_are
                      ∙ ap (λ k. get_or (run_chars old first ++ run_chars old second) (c - k) 32) joined.cell
                      ∙ get_or_append_left (run_chars old first) (run_chars old second) 32 (c - first.cell) (omega arith) in
                      pick x d whole_yes ∙ cell_same x z ch joined.role joined.link
                      ∙ sym (pick y rest second_no ∙ pick z d (holds_inside first r c row low in_first))
                  | inr after_first ↦
                      elim (cases_lt c (second.cell + second.count)) [
                        | inl in_second ↦
                            let whole_yes = holds_inside whole r c (joined.row ∙ row) (omega (arith, joined.cell))
                            (omega (arith, joined.cell, joined.count, goes.touches)) in
                            let second_yes = holds_inside second r c (sym goes.row ∙ row) (omega (arith, goes.touches)) in_second in
                            let index : c - first.cell - first.count ≡ c - second.cell = omega (arith, goes.touches) in
                            let ch : x.ch ≡ y.ch = ap (λ (cs : List ℕ). get_or cs (c - whole.cell) 32) joined.chars_are
                            ∙ ap (λ k. get_or (run_chars old first ++ run_chars old second) (c - k) 32) joined.cell
                            ∙ get_or-append_right (run_chars old first) (run_chars old second) first.count (c - first.cell) 32 long (omega arith)
                            ∙ ap (λ k. get_or (run_chars old second) k 32) index in
                            pick x d whole_yes ∙ cell_same x y ch (joined.role ∙ goes.role) (joined.link ∙ goes.link) ∙ sym (pick y rest second_yes)
                        | inr after ↦
                            let whole_no = holds-after whole r c (omega (arith, joined.cell, joined.count, goes.touches)) in
                            let second_no = holds-after second r c after in
                            pick x d whole_no ∙ sym (pick y rest second_no ∙ pick z d (holds-after first r c after_first))
                      ]
                ]
          ]
    ]

-- the last run joined with another
pub ShowsMore-joined : (old new : List ℕ) (runs : List Run) (i : ℕ) (last run whole : Run) → i + 1 ≡ length runs → last ≡ get_or runs i last
    → BeginsWith old new → All (λ x. IsRun old x) runs → IsRun old run → Continues last run → IsJoined old new last run whole
    → ShowsMore old new runs (set runs i whole) run
ShowsMore-joined old new runs i last run whole is_last read grows are is goes joined =
    λ r c.
    let front = take i runs in
    let within : i < length runs = omega arith in
    let split : runs ≡ front ++ last ∷ [] = sym (take_all (i + 1) runs (omega arith)) ∙ take_more runs i last within ∙ ap (λ x. front ++ x ∷ []) (sym read) in
    let now : set runs i whole ≡ front ++ whole ∷ [] = sym (take_all (i + 1) (set runs i whole) (omega (arith, length-set runs i whole)))
    ∙ take_more_set runs i whole within in
    let is_run : IsRun old last = subst (λ x. IsRun old x) (sym read) (are i last within) in
    let below = shown_cell new front r c in
    let stays : below ≡ shown_cell old front r c = painted-grown old new r c SPACE front grows (All-take (λ x. IsRun old x) i runs are) in
    ap (λ (xs : List Run). shown_cell new xs r c) now ∙ painted-append new r c SPACE front (whole ∷ [])
    ∙ joined_cell old new last run whole r c below is_run is goes joined
    ∙ ap (λ (d : Cell). if holds run r c then run_cell old run c else (if holds last r c then run_cell old last c else d)) stays
    ∙ ap (λ (d : Cell). if holds run r c then run_cell old run c else d)
    (sym (ap (λ (xs : List Run). shown_cell old xs r c) split ∙ painted-append old r c SPACE front (last ∷ [])))

-- a run that was pushed
pub ShowsMore-pushed : (text : List ℕ) (runs now : List Run) (run : Run) → now ≡ runs ++ run ∷ [] → ShowsMore text text runs now run
ShowsMore-pushed text runs now run pushed =
    λ r c. ap (λ (xs : List Run). shown_cell text xs r c) pushed ∙ painted-append text r c SPACE runs (run ∷ [])

pub AllPairs-push : {X : Type 0} (R : X → X → Type 0) (xs : List X) (y : X) → AllPairs R xs → All (λ x. R x y) xs → AllPairs R (xs ++ y ∷ [])
AllPairs-push R xs y pairs all = grind (arith, common_steps, length_push, get_or_push)

AllPairs-set_last : {X : Type 0} (R : X → X → Type 0) (xs : List X) (i : ℕ) (last y : X) → i + 1 ≡ length xs → last ≡ get_or xs i last → AllPairs R xs
    → ((x : X) → R x last → R x y) → AllPairs R (set xs i y)
AllPairs-set_last R xs i last y is_last read pairs goes =
    λ a b d below within.
    let within_old : b < length xs = omega (arith, length-set xs i y) in
    let first : get_or (set xs i y) a d ≡ get_or xs a d = get_or-set_other xs i a y d (λ h. absurd (omega (arith, h))) in
    elim (cases_eq b i) [
      | inl same ↦
          let last_is : get_or xs b last ≡ last = ap (λ k. get_or xs k last) same ∙ sym read in
          let old : R (get_or xs a last) last = subst (λ z. R (get_or xs a last) z) last_is (pairs a b last below within_old) in
          let moved : R (get_or xs a d) last = subst (λ z. R z last) (get_or_default xs a last d (omega arith)) old in
          subst (λ z. R (get_or (set xs i y) a d) z) (sym (ap (λ k. get_or (set xs i y) k d) same ∙ get_or-set_same xs i y d (omega arith)))
          (subst (λ z. R z y) (sym first) (goes (get_or xs a d) moved))
      | inr other ↦ subst (λ z. R (get_or (set xs i y) a d) z) (sym (get_or-set_other xs i b y d other))
          (subst (λ z. R z (get_or xs b d)) (sym first) (pairs a b d below within_old))
    ]

-- where the last run differs from a run after them all, each does: no other one touches it
pub differ_all : (runs : List Run) (run : Run) → All (λ x. 0 < x.count) runs → AllPairs (λ a b. Precedes a b) runs → All (λ x. Precedes x run) runs
    → ((d : Run) → 0 < length runs → Differ (get_or runs (length runs - 1) d) run) → All (λ x. Differ x run) runs
differ_all runs run some ordered before differs =
    λ k d within.
    elim (cases_eq k (length runs - 1)) [
      | inl same ↦ subst (λ i. Differ (get_or runs i d) run) (sym same) (differs d (omega arith))
      | inr other ↦ λ goes.
          let x = get_or runs k d in
          let last = get_or runs (length runs - 1) d in
          let gap : Precedes x last = ordered k (length runs - 1) d (omega arith) (omega arith) in
          let below : Precedes last run = before (length runs - 1) d (omega arith) in
          let one : x.row ≡ last.row = omega (arith, gap.rows, below.rows, goes.row) in
          let two : last.row ≡ run.row = omega (arith, one, goes.row) in
          absurd (omega (arith, gap.cells one, below.cells two, goes.touches, some (length runs - 1) d (omega arith)))
    ]

-- a run that differs from the last one is added as one more
pub AddsRun-pushed : (runs now : List Run) (run : Run) → All (λ x. 0 < x.count) runs
    → ((d : Run) → 0 < length runs → Differ (get_or runs (length runs - 1) d) run) → now ≡ runs ++ run ∷ [] → AddsRun runs now run
AddsRun-pushed runs now run some differs pushed =
    subst (λ (xs : List Run). AddsRun runs xs run) (sym pushed) record {
      rows = λ n all is. All-push (λ x. x.row ≡ n) runs run all is;
      ends = λ n all is. All-push (λ x. x.cell + x.count ≤ n) runs run all is;
      inside = λ widths all is. All-push (λ x. x.cell + x.count ≤ get_or widths x.row 0) runs run all is;
      after = λ y all is. All-push (λ x. Precedes x y) runs run all is;
      order = λ pairs all. AllPairs-push (λ a b. Precedes a b) runs run pairs all;
      apart = λ ordered before pairs. AllPairs-push (λ a b. Differ a b) runs run pairs (differ_all runs run some ordered before differs);
      apart_after = λ y all is. All-push (λ x. Differ x y) runs run all is;
      follows = λ x all is. All-push (λ y. Precedes x y) runs run all is;
      apart_follows = λ x all is. All-push (λ y. Differ x y) runs run all is;
      count = omega (arith, length_push runs run);
    }

-- a run that continues the last one is added by joining the two
pub AddsRun-joined : (old new : List ℕ) (runs : List Run) (i : ℕ) (last run whole : Run) → i + 1 ≡ length runs → last ≡ get_or runs i last → Continues last run
    → IsJoined old new last run whole → AddsRun runs (set runs i whole) run
AddsRun-joined old new runs i last run whole is_last read goes joined =
    let within : i < length runs = omega arith in
    record {
      rows = λ n all is. All-set (λ x. x.row ≡ n) runs i whole (joined.row ∙ goes.row ∙ is) all;
      ends = λ n all is. All-set (λ x. x.cell + x.count ≤ n) runs i whole (omega (arith, joined.cell, joined.count, goes.touches)) all;
      inside = λ widths all is. All-set (λ x. x.cell + x.count ≤ get_or widths x.row 0) runs i whole
          (subst (λ r. whole.cell + whole.count ≤ get_or widths r 0) (sym (joined.row ∙ goes.row))
          (omega (arith, joined.cell, joined.count, goes.touches))) all;
      after = λ y all is. All-set (λ x. Precedes x y) runs i whole record {
        rows = omega (arith, joined.row, goes.row, is.rows);
        cells = λ h.
            omega (arith, joined.cell, joined.count, goes.touches, is.cells (sym goes.row ∙ sym joined.row ∙ h));
      } all;
      order = λ pairs all. AllPairs-set_last (λ a b. Precedes a b) runs i last whole is_last read pairs (λ x before.
          record { rows = omega (arith, joined.row, before.rows); cells = λ h. omega (arith, joined.cell, before.cells (h ∙ joined.row)) });
      apart = λ ordered before pairs. AllPairs-set_last (λ a b. Differ a b) runs i last whole is_last read pairs (λ x differs at.
          differs record { row = at.row ∙ joined.row; touches = at.touches ∙ joined.cell; role = at.role ∙ joined.role; link = at.link ∙ joined.link });
      apart_after = λ y all is. All-set (λ x. Differ x y)
          runs i whole (λ at. is record {
            row = sym goes.row ∙ sym joined.row ∙ at.row;
            touches =
                omega (arith, joined.cell, joined.count, goes.touches, at.touches);
            role = sym goes.role ∙ sym joined.role ∙ at.role;
            link =
                sym goes.link ∙ sym joined.link ∙ at.link;
          }) all;
      follows = λ x all is.
          let before : Precedes x last = subst (λ y. Precedes x y) (sym read) (all i last within) in
          All-set (λ y. Precedes x y) runs i whole record {
            rows = omega (arith, joined.row, before.rows);
            cells = λ h.
                omega (arith, joined.cell, before.cells (h ∙ joined.row));
          } all;
      apart_follows = λ x all is.
          let differs : Differ x last = subst (λ y. Differ x y) (sym read) (all i last within) in
          All-set (λ y. Differ x y) runs i whole (λ at. differs record {
            row = at.row ∙ joined.row;
            touches = at.touches ∙ joined.cell;
            role = at.role
                ∙ joined.role;
            link = at.link ∙ joined.link;
          }) all;
      count = omega (arith, length-set runs i whole);
    }

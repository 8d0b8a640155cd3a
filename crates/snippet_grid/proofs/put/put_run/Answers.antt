use Rattle.snippet_grid.proofs.Common.{common_steps, arith, ◌-◌, ◌<◌, ◌≤◌, ◌∙◌, ap, sym, subst, string_bytes, length, take, drop, get_or, set, List, [], ◌∷◌}
use Rattle.snippet_grid.proofs.Common.{◌≡◌, ℕ, All, append_assoc, get_or_default, set-get_or, on_ok_weaker, on_err_weaker, IsRun, Continues, IsClear, Touches}
use Rattle.snippet_grid.proofs.Common.{ArePieces, Precedes, Run}
use Rattle.snippet_grid.proofs.RunLemmas.{on_ok_three, none, BeginsWith-same, stretch}
use Rattle.snippet_grid.proofs.PieceLemmas.{ArePieces-alone, IsPut-one}
use Rattle.snippet_grid.proofs.PutLemmas.{AllFit, AreOrdered, AreApart, fits_all}
use Rattle.snippet_grid.proofs.TouchLemmas.{IsPut-added, IsPut-touched, touched_stretch}
use Rattle.snippet_grid.proofs.put.put_run.Goals as goal
use Rattle.snippet_grid.proofs.put.put_run.Goals.{After-first_touched-start}

pub returns-then-are_before-clause-ok : goal.returns-then-are_before-clause-ok
returns-then-are_before-clause-ok c =
    let before = subst (λ (l : List Run). All (λ x. Precedes x c.args.run.now) l) c.as_slice-old.ensures.value
    (c.are_before.ensures.yes c.if-are_before.true) in
    on_ok_three c.add_run.result
    (λ shows are adds. IsPut-added (string_bytes c.args.text.now) (string_bytes c.add_run.new.text)
    c.args.runs.now.items c.add_run.new.runs.items c.args.run.now shows are c.requires.ordered c.requires.apart before adds)
    c.add_run.ensures.ok c.add_run.ensures.are_runs c.add_run.ensures.adds

-- where the runs stand that a run touches
record TouchedAt (run : Run) (runs : List Run) (start end : ℕ) : Type 0 where
  within : end ≤ length runs
  above : (k : ℕ) (d : Run) → k < start → IsClear (get_or runs k d) run
  touch : (k : ℕ) (d : Run) → start ≤ k → k < end → Touches (get_or runs k d) run
  below : (k : ℕ) (d : Run) → end ≤ k → k < length runs → IsClear run (get_or runs k d)

touched_at : (c : After-first_touched-start) → TouchedAt c.args.run.now c.args.runs.now.items c.first_touched-start.result c.begun_by-end.result
touched_at c = subst (λ (l : List Run). TouchedAt c.args.run.now l c.first_touched-start.result c.begun_by-end.result) c.as_slice-old.ensures.value record {
  within = c.begun_by-end.ensures.within;
  above = c.first_touched-start.ensures.before;
  touch = c.first_touched-start.ensures.touch;
  below = c.begun_by-end.ensures.later;
}

pub returns-then-continues : goal.returns-then-continues
returns-then-continues c =
    let is = c.as_slice-old.ensures.value in
    let items = c.args.runs.now.items in
    let start = c.first_touched-start.result in
    let end = c.begun_by-end.result in
    let run = c.args.run.now in
    let first = c.index_mut.result.now in
    let read = c.index_mut.ensures.value in
    let stands = touched_at (goal.at.returns-then-continues c).After-first_touched-start in
    let there : start < length items = omega (arith, c.if-end-start-eq1.true, stands.within) in
    let same = ap (λ (l : List Run). get_or l start none) is ∙ get_or_default items start none first there ∙ sym read in
    let goes = subst (λ x. Continues x run) same (c.continues.ensures.yes c.if-continues.true) in
    record {
      text = c.join.ensures.text;
      ok = on_ok_weaker c.join.result
          (λ joined. IsPut-one (string_bytes c.args.text.now) (string_bytes c.join.new.text) items run first c.join.new.first start end
          (omega (arith, c.if-end-start-eq1.true)) stands.within read stands.above stands.touch stands.below c.requires.runs c.requires.ordered
          c.requires.apart c.join.ensures.text c.requires.run goes joined) c.join.ensures.ok;
      err = on_err_weaker c.join.result (λ same. ap (λ (x : Run). set items start x) (same ∙ read) ∙ set-get_or items start first) c.join.ensures.err;
    }

pub returns-then-start-end-clause-ok : goal.returns-then-start-end-clause-ok
returns-then-start-end-clause-ok c =
    let text = string_bytes c.args.text.now in
    let is = c.as_slice-old.ensures.value in
    let items = c.args.runs.now.items in
    let run = c.args.run.now in
    let start = c.first_touched-start.result in
    let end = c.begun_by-end.result in
    let stands = touched_at (goal.at.returns-then-start-end-clause-ok c).After-first_touched-start in
    let zero : end - end ≡ 0 = omega arith in
    let none : stretch items end end ≡ [] = ap (λ (n : ℕ). take n (drop end items)) zero in
    let are = subst (λ (l : List Run). ArePieces text text l (run ∷ []) run) (sym none) (ArePieces-alone text run c.requires.run) in
    on_ok_weaker c.insert_clear.result (λ done. IsPut-touched text text items c.insert_clear.new.runs.items (run ∷ []) run end end (omega arith) stands.within
    (λ k d before. stands.above k d (omega (arith, before, c.if-start-end.true))) (λ k d low within. absurd (omega (arith, low, within))) stands.below
    c.requires.runs c.requires.ordered c.requires.apart (BeginsWith-same text) are
    (done ∙ sym (append_assoc (take end items) (run ∷ []) (drop end items)))) c.insert_clear.ensures.ok

pub add_pieces-requires-clause-touched : goal.add_pieces-requires-clause-touched
add_pieces-requires-clause-touched c =
    let text = string_bytes c.args.text.now in
    let is = sym c.as_slice-old.ensures.value in
    let old = c.as_slice-old.result.now in
    touched_stretch text old c.args.run.now c.first_touched-start.result c.begun_by-end.result c.first_touched-start.ensures.ordered
    c.begun_by-end.ensures.within (subst (λ (l : List Run). All (λ x. IsRun text x) l) is c.requires.runs)
    (subst AreOrdered is c.requires.ordered) (subst AreApart is c.requires.apart) c.first_touched-start.ensures.touch

pub returns-clause-ok : goal.returns-clause-ok
returns-clause-ok c =
    let is = c.as_slice-old.ensures.value in
    let items = c.args.runs.now.items in
    let run = c.args.run.now in
    let start = c.first_touched-start.result in
    let end = c.begun_by-end.result in
    let old = string_bytes c.args.text.now in
    let new = string_bytes c.add_pieces.new.text in
    let pieces = c.add_pieces.new.pieces.items in
    let stands = touched_at (goal.at.returns-clause-ok c).After-first_touched-start in
    let are = subst (λ (l : List Run). ArePieces old new (stretch l start end) pieces run) is c.in_ok-add_pieces.ensures.pieces in
    on_ok_weaker c.exchange.result (λ done. IsPut-touched old new items c.exchange.new.runs.items pieces run start end c.first_touched-start.ensures.ordered
    stands.within stands.above stands.touch stands.below c.requires.runs c.requires.ordered c.requires.apart c.in_ok-add_pieces.ensures.text are done)
    c.exchange.ensures.ok

-- what is asked of the runs holds of the slice that they are read from
pub are_before-requires : goal.are_before-requires
are_before-requires c = grind (arith, common_steps, c.as_slice-old.ensures.value, c.requires.ordered, fits_all, c.requires.runs)

pub begun_by-end-requires : goal.begun_by-end-requires
begun_by-end-requires c =
    record { ordered = subst AreOrdered (sym c.as_slice-old.ensures.value) c.requires.ordered }

pub first_touched-start-requires : goal.first_touched-start-requires
first_touched-start-requires c =
    let is = sym c.as_slice-old.ensures.value in
    record {
      ordered = subst AreOrdered is c.requires.ordered;
      are_runs = subst AllFit is (fits_all (string_bytes c.args.text.now) c.args.runs.now.items c.requires.runs);
      within = c.begun_by-end.ensures.within;
      reaches = c.begun_by-end.ensures.begun;
    }

pub join-requires : goal.join-requires
join-requires c =
    grind (
      arith,
      common_steps,
      c.as_slice-old.ensures.value,
      c.if-end-start-eq1.true,
      c.begun_by-end.ensures.within,
      c.index_mut.ensures.value,
      c.requires.runs,
      c.requires.run,
      c.continues.ensures.yes,
      c.if-continues.true,
    )

use Rattle.snippet_grid.proofs.Common.{common_steps, sym, subst, arith, string_bytes, List, [], ◌∷◌, ℕ, All-nil, IsRun, AreTouchedRuns, IsFront, IsBack}
use Rattle.snippet_grid.proofs.RunLemmas.{on_ok_three, IsRun-grown, BeginsWith-trans}
use Rattle.snippet_grid.proofs.PieceLemmas.{ArePieces-two, ArePieces-three}
use Rattle.snippet_grid.proofs.put.add_pieces.Goals as goal
use Rattle.snippet_grid.proofs.put.add_pieces.Goals.{After-add_run}

pub add_run-requires-in-Some-back : goal.add_run-requires-in-Some-back
add_run-requires-in-Some-back c =
    let text = string_bytes c.args.text.now in
    let back : IsBack text c.args.touched.now c.args.run.now (c.in-Some-back.right ∷ []) = subst
    (λ (t : List ℕ). IsBack t c.args.touched.now c.args.run.now (c.in-Some-back.right ∷ [])) c.as_str-2.ensures.value c.in-Some-back.ensures.back in
    record {
      runs = c.in_ok-add_run.ensures.are_runs;
      run = IsRun-grown text (string_bytes c.add_run.new.text) c.in-Some-back.right c.in_ok-add_run.ensures.text
          (back.is_row.are_runs 0 c.in-Some-back.right (omega arith));
    }

-- what the first of the runs holds before the new one stays
front_kept : (c : After-add_run) → IsFront (string_bytes c.args.text.now) c.args.touched.now c.args.run.now c.match-front.pieces.items
front_kept c = grind (arith, common_steps, c.match-front.branch, c.requires.none, c.as_str.ensures.value)

pub returns-in-Some-back : goal.returns-in-Some-back
returns-in-Some-back c =
    let text = string_bytes c.args.text.now in
    let mid = string_bytes c.add_run.new.text in
    let new = string_bytes c.add_run-in-Some-back.new.text in
    let front = front_kept (goal.at.returns-in-Some-back c).After-add_run in
    let back = subst (λ (t : List ℕ). IsBack t c.args.touched.now c.args.run.now
    (c.in-Some-back.right ∷ [])) c.as_str-2.ensures.value c.in-Some-back.ensures.back in
    let first = c.in_ok-add_run.ensures in
    let last = c.add_run-in-Some-back.ensures in
    record {
      text = BeginsWith-trans text mid new first.text last.text;
      pieces = on_ok_three c.add_run-in-Some-back.result
          (λ shows are adds. ArePieces-three text mid new c.args.touched.now c.match-front.pieces.items c.add_run.new.runs.items
          c.add_run-in-Some-back.new.runs.items c.args.run.now c.in-Some-back.right c.requires.touched c.requires.run front back first.ok first.are_runs
          first.adds first.text shows are adds) last.ok last.are_runs last.adds;
    }

pub returns-in-None-clause-pieces : goal.returns-in-None-clause-pieces
returns-in-None-clause-pieces c =
    let text = string_bytes c.args.text.now in
    let front = front_kept (goal.at.returns-in-None-clause-pieces c).After-add_run in
    let back = subst (λ (t : List ℕ). IsBack t c.args.touched.now c.args.run.now []) c.as_str-2.ensures.value c.in-None.ensures.back in
    ArePieces-two text (string_bytes c.add_run.new.text) c.args.touched.now c.match-front.pieces.items c.add_run.new.runs.items c.args.run.now
    c.requires.touched c.requires.run front back c.in_ok-add_run.ensures.ok c.in_ok-add_run.ensures.are_runs c.in_ok-add_run.ensures.adds

pub front_of-front-requires : goal.front_of-front-requires
front_of-front-requires c =
    record { touched = subst (λ (t : List ℕ). AreTouchedRuns t c.args.run.now c.args.touched.now) (sym c.as_str.ensures.value) c.requires.touched }

pub back_of-back-requires-clause-touched : goal.back_of-back-requires-clause-touched
back_of-back-requires-clause-touched c =
    subst (λ (t : List ℕ). AreTouchedRuns t c.args.run.now c.args.touched.now) (sym c.as_str-2.ensures.value) c.requires.touched

pub back_of-back-requires-clause-run : goal.back_of-back-requires-clause-run
back_of-back-requires-clause-run c =
    subst (λ (t : List ℕ). IsRun t c.args.run.now) (sym c.as_str-2.ensures.value) c.requires.run

pub add_run-requires-clause-runs : goal.add_run-requires-clause-runs
add_run-requires-clause-runs c = grind (arith, common_steps, c.match-front.branch, c.requires.none, c.as_str.ensures.value, All-nil)

pub add_run-requires-clause-run : goal.add_run-requires-clause-run
add_run-requires-clause-run c = c.requires.run

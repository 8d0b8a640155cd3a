use Rattle.snippet_grid.proofs.Common.{string_bytes, arith, ◌-◌, ◌<◌, ◌≡◌, get_or, set, length, List, ℕ, All, subst, sym, ap, ◌∙◌}
use Rattle.snippet_grid.proofs.Common.{get_or_default, set-get_or, on_ok_weaker, on_err_weaker, All-set, All-push, IsRun, Continues, Differ, Run}
use Rattle.snippet_grid.proofs.ShownLemmas.{All-IsRun-grown, ShowsMore-joined, ShowsMore-pushed, AddsRun-pushed, AddsRun-joined}
use Rattle.snippet_grid.proofs.runs.add_run.Goals as goal
use Rattle.snippet_grid.proofs.runs.add_run.Goals.{then-len-gt0+else-continues, else-len-gt0}

-- the run goes on where the last one ends
goes_there : (c : goal.After-runs-1) → Continues c.index_mut.result.now c.args.run.now
goes_there c =
    let runs = c.args.runs.now.items in
    let i : ℕ = c.len-len.result - 1 in
    let last = c.index_mut.result.now in
    let same = c.index-last.ensures ∙ get_or_default runs i c.index-last.result.now last (omega arith) ∙ sym c.index_mut.ensures.value in
    subst (λ x. Continues x c.args.run.now) same (c.continues.ensures.yes c.if-continues.true)

pub returns-clause-ok : goal.returns-clause-ok
returns-clause-ok c =
    ShowsMore-pushed (string_bytes c.args.text.now) c.args.runs.now.items c.push.new.self.items c.args.run.now c.in_ok-push.ensures.items

pub returns-clause-are_runs : goal.returns-clause-are_runs
returns-clause-are_runs c =
    subst (λ (xs : List Run). All (λ x. IsRun (string_bytes c.args.text.now) x) xs) (sym c.in_ok-push.ensures.items)
    (All-push (λ x. IsRun (string_bytes c.args.text.now) x) c.args.runs.now.items c.args.run.now c.requires.runs c.requires.run)

pub returns-then-continues : goal.returns-then-continues
returns-then-continues c =
    let old = string_bytes c.args.text.now in
    let new = string_bytes c.join.new.text in
    let runs = c.args.runs.now.items in
    let i : ℕ = c.len-len.result - 1 in
    let last = c.index_mut.result.now in
    let is = c.index_mut.ensures.value in
    let first = c.join.new.first in
    let run = c.args.run.now in
    let grown = All-IsRun-grown old new runs c.join.ensures.text c.requires.runs in
    record {
      text = c.join.ensures.text;
      ok = on_ok_weaker c.join.result (λ joined. ShowsMore-joined old new runs _ last run first (omega arith) is c.join.ensures.text c.requires.runs
          c.requires.run (goes_there c) joined) c.join.ensures.ok;
      are_runs = on_ok_weaker c.join.result (λ joined. All-set (λ x. IsRun new x) runs _ first joined.is_run grown) c.join.ensures.ok;
      adds = on_ok_weaker c.join.result (λ joined. AddsRun-joined old new runs _ last run first (omega arith) is (goes_there c) joined) c.join.ensures.ok;
      err = on_err_weaker c.join.result (λ same. ap (λ (x : Run). set runs i x) (same ∙ is) ∙ set-get_or runs i last) c.join.ensures.err;
    }

pub returns-clause-adds : goal.returns-clause-adds
returns-clause-adds c =
    let runs = c.args.runs.now.items in
    let differs : (d : Run) → 0 < length runs → Differ (get_or runs (length runs - 1) d) c.args.run.now = λ d some. elim c.if-len-gt0.branch [
      | then-len-gt0+else-continues w ↦
          let place : c.len-len.result - 1 ≡ length runs - 1 = omega arith in
          let read : w.index-last.result.now ≡ get_or runs (length runs - 1) d = w.index-last.ensures ∙ ap (λ k. get_or runs k w.index-last.result.now) place
          ∙ get_or_default runs (length runs - 1) w.index-last.result.now d (omega arith) in
          subst (λ x. Differ x c.args.run.now) read (w.continues.ensures.no w.if-continues.false)
      | else-len-gt0 w ↦ absurd (omega (arith, some, w.if-len-gt0.false))
    ] in
    AddsRun-pushed runs c.push.new.self.items c.args.run.now (λ k d within. (c.requires.runs k d within).some) differs c.in_ok-push.ensures.items

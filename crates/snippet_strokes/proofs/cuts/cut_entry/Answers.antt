use Rattle.std.proofs.Common.{arith, ◌/◌}
use Rattle.std.proofs.lemmas.Grind.{common_steps}
use Rattle.snippet_strokes.proofs.Common.{◌≡◌, ◌∙◌, ◌+◌, ◌-◌, ◌∷◌, [], Bool, ℕ, List, ap, false, true, length, max, refl, sym}
use Rattle.snippet_strokes.proofs.Common.{on_ok_weaker, is_wide_entry, Layout, code_cell, Cell, placeholder_of}
use Rattle.std.specs.Prelude.{◌&&◌, not}
use Rattle.snippet_strokes.proofs.CutPairs.{middle_cut, nothing_cut}
use Rattle.snippet_strokes.proofs.CutWords.{cut_rows}
use Rattle.snippet_strokes.proofs.cuts.cut_entry.Goals.{then-overlapped-via-then-overlapped, then-overlapped-via-else-overlapped+then-not-is_wide}
use Rattle.snippet_strokes.proofs.cuts.cut_entry.Goals as goal

-- an entry at a place that is overlapped stays
overlapped_stays : (wide flag : Bool) → flag ≡ true → (wide && not flag) ≡ false
overlapped_stays true true is = refl
overlapped_stays false true is = refl
overlapped_stays wide false is = cc is

both : (wide flag : Bool) → wide ≡ true → flag ≡ false → (wide && not flag) ≡ true
both wide flag is free = ap (λ b. b && not flag) is ∙ ap not free

pub returns-then-overlapped : goal.returns-then-overlapped
returns-then-overlapped c =
    let layout = c.args.layout in
    let e = c.args.placed.now in
    let flag = c.args.overlapped in
    let wide : Bool = is_wide_entry c.args.room (length (placeholder_of layout.decor)) e.entry in
    let stays : (wide && not flag) ≡ false = elim c.then-overlapped.branch [
      | then-overlapped-via-then-overlapped w ↦ overlapped_stays wide flag w.if-overlapped.true
      | then-overlapped-via-else-overlapped+then-not-is_wide w ↦ grind (arith, common_steps, flag, e, c.args.room, e.entry, c.layout.view_is)
    ] in
    record { value = nothing_cut layout c.args.room c.args.row (e, flag) c.args.buffer.now stays }

pub returns : goal.returns
returns c =
    let layout = c.args.layout in
    let e = c.args.placed.now in
    let flag = c.args.overlapped in
    let old = c.args.buffer.now in
    let told : c.is_wide.result ≡ true = cc in
    let wide = ap (λ (l : Layout). is_wide_entry c.args.room (length (placeholder_of l.decor)) e.entry) (sym c.layout.view_is)
    ∙ sym c.is_wide.ensures.value ∙ told in
    let kept : c.end_columns-kept.result ≡ max 5 (c.args.room / 3) = c.end_columns-kept.ensures.value in
    let ends : ℕ = c.end_columns-kept.result in
    let start = c.code_cell.ensures.value in
    let end = c.code_cell-2.ensures.value in
    let from : c.code_cell.result + ends ≡ code_cell layout e.entry.start.display + max 5 (c.args.room / 3) = ap (λ n. n + ends) start
    ∙ ap (λ n. code_cell layout e.entry.start.display + n) kept in
    let to : c.code_cell-2.result - ends ≡ code_cell layout e.entry.end.display - max 5 (c.args.room / 3) = ap (λ n. n - ends) end
    ∙ ap (λ n. code_cell layout e.entry.end.display - n) kept in
    let cut : Layout → ℕ → ℕ → List (List Cell) = λ l from to. cut_rows l.decor c.args.row (record { from = from; to = to } ∷ []) old in
    record {
      value = on_ok_weaker c.cut_stretch.result (λ done.
          middle_cut layout c.args.room c.args.row (e, flag) old c.cut_stretch.new.buffer
          (both (is_wide_entry c.args.room (length (placeholder_of layout.decor)) e.entry) flag wide c.if-overlapped.false)
          (done ∙ ap (λ (l : Layout). cut l (c.code_cell.result + ends) (c.code_cell-2.result - ends)) c.layout-2.view_is
          ∙ ap (λ n. cut layout n (c.code_cell-2.result - ends)) from
          ∙ ap (cut layout (code_cell layout e.entry.start.display + max 5 (c.args.room / 3))) to)) c.cut_stretch.ensures.ok;
    }

use mir.Val.{bool_byte}
use Rattle.snippet_suggest.proofs.Common.{◌≡◌, ℕ, ◌-◌, ◌<◌, List, ap, append_assoc, arith, length, Bool, [], ◌∷◌, ◌++◌, false, common_steps}
use Rattle.snippet_suggest.proofs.Common.{inl, inr, sym, ◌∙◌, cases_Bool, on_ok_weaker, bytes_eq, Cell, Removal, line_stretches, left_out_cells}
use Rattle.snippet_suggest.proofs.Common.{offered_cells, with_stretches, last_removed, unless_stays, diff_cells, gone_of, taken_cells, Diff}
use Rattle.std.proofs.Common.{chars}
use Rattle.snippet_suggest.proofs.RowsDrawn.{diff_left, diff_shown, last_of, left_infos, none_gone, some_gone, stays_left}
use Rattle.snippet_suggest.proofs.diff.draw_diff.Goals as goal
use Rattle.snippet_suggest.proofs.diff.draw_diff.Goals.{then-stays+in_ok-paint_last, else-stays}

pub returns : goal.returns
returns c =
    record {
      cells = λ above last is.
          let a = c.args in
          let l = a.layout.now in
          let line = a.diff.now.line.now in
          let infos = a.diff.now.removed.now in
          let added = a.diff.now.added.now in
          let replaced = line_stretches a.diff.now.replaced.now in
          let one = c.draw_diff_removed.new.buffer in
          let mid = c.if-stays.buffer in
          let new = c.draw_diff_line.new.buffer in
          let stays : Bool = c.is_last-stays.result in
          let count : ℕ = c.saturating_sub-count.result in
          let counts : count ≡ length infos - bool_byte stays = c.saturating_sub-count.ensures ∙ ap (λ (n : ℕ). length infos - n) c.from.ensures in
          let taken : List (List Cell) = taken_cells l a.diff.now.first replaced 0 (unless_stays stays infos) in
          let rows : List (List Cell) = last ∷ taken in
          let drawn : one ≡ above ++ rows =
          cc (c.in_ok-draw_diff_removed.ensures.cells, left_infos infos count stays counts, is, append_assoc above (last ∷ []) taken) in
          let end = last_of last taken in
          let stands : one ≡ (above ++ end.front) ++ end.end ∷ [] = drawn ∙ ap (λ rs. above ++ rs) end.is ∙ sym (append_assoc above end.front (end.end ∷ [])) in
          let gone = gone_of stays a.diff.now.first replaced infos in
          let Painted : List Cell → Type 0 = λ row. mid ≡ (above ++ end.front) ++ row ∷ [] in
          let painted : Painted (with_stretches Removal l.base.gutter (chars line) gone end.end) = elim c.if-stays.branch [
            | then-stays+in_ok-paint_last w ↦
                let one : bool_byte stays ≡ 1 = ap bool_byte w.if-stays.true in
                let within : count < length infos = omega (arith, counts, one, c.requires.some) in
                w.buffer-is ∙ w.in_ok-paint_last.ensures.cells (above ++ end.front) end.end stands
                ∙ ap (λ (row : List Cell). (above ++ end.front) ++ row ∷ [])
                (some_gone l.base.gutter line stays a.diff.now.first replaced infos end.end count _ w.diff_stretches-stretches.result.now w.if-stays.true counts
                within w.diff_stretches-stretches.ensures.value)
            | else-stays w ↦ w.buffer-is ∙ stands ∙ ap (λ (row : List Cell). (above ++ end.front) ++ row ∷ [])
                (sym (none_gone l.base.gutter line stays a.diff.now.first replaced infos end.end w.if-stays.false))
          ] in
          let is_stays : stays ≡ bytes_eq line (last_removed infos) = c.is_last-stays.ensures.value c.requires.some in
          let left_is = c.is_left_out-left_out.ensures.value c.requires.some in
          let Drawn : Type 0 = new ≡ above ++ diff_cells l a.diff.now.first infos replaced line added last in
          elim (cases_Bool c.is_left_out-left_out.result) [
            | inl left_out ↦
                on_ok_weaker c.draw_diff_line.result
                (λ done. done ∙ append_assoc above end.front _
                ∙ ap (λ rs. above ++ rs)
                (sym (end.changed (left_out_cells l.base.gutter line gone added))
                ∙ diff_left l a.diff.now.first infos replaced line added last stays is_stays (sym left_is ∙ left_out)))
                (c.draw_diff_line.ensures.left_cells (above ++ end.front) _ left_out painted)
            | inr offers ↦
                let keeps : stays ≡ false = elim (cases_Bool stays) [
                  | inl same ↦ grind (arith, common_steps, stays_left, is_stays, same)
                  | inr other ↦ other
                ] in
                let whole : mid ≡ above ++ rows = painted ∙ ap (λ (row : List Cell). (above ++ end.front) ++ row ∷ [])
                (none_gone l.base.gutter line stays a.diff.now.first replaced infos end.end keeps) ∙ sym stands ∙ drawn in
                let row : List Cell = offered_cells l Diff 1 a.diff.now.first line added in
                on_ok_weaker c.draw_diff_line.result (λ done. done ∙ ap (λ rs. rs ++ row ∷ []) whole ∙ append_assoc above rows (row ∷ [])
                ∙ ap (λ rs. above ++ rs) (diff_shown l a.diff.now.first infos replaced line added last stays is_stays (sym left_is ∙ offers)))
                (c.draw_diff_line.ensures.cells offers)
          ];
    }

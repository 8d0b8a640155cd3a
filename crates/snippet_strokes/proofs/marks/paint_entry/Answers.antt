use Rattle.snippet_strokes.proofs.Common.{◌≡◌, ◌∙◌, ◌<◌, ap, sym, arith, on_ok_weaker, strokes_of, underline_role, Layout, code_cell, layout_of}
use Rattle.snippet_strokes.proofs.Common.{mark_end, Strokes}
use Rattle.snippet_strokes.proofs.EveryMark.{mark_same, mark_whole}
use Rattle.snippet_strokes.proofs.WriteLaws.{drawn_mark-none, mark_painted}
use Rattle.snippet_strokes.proofs.Common.{common_steps}
use Rattle.snippet_strokes.proofs.marks.paint_entry.Goals as goal

pub returns-then-end-start : goal.returns-then-end-start
returns-then-end-start g c = grind (arith, common_steps, drawn_mark-none, mark_same)

pub returns-then-first-strokes : goal.returns-then-first-strokes
returns-then-first-strokes g c =
    let placed = c.args.placed.now in
    let layout = layout_of c.layout.inside in
    let strokes = c.underline-strokes in
    let is_end : c.mark_end-end.result ≡ mark_end placed = c.mark_end-end.ensures.value in
    let some : placed.entry.start.display < mark_end placed = omega (arith, c.if-end-start.false, is_end) in
    let is_line = ap (λ (s : Strokes). s.underline) strokes.ensures.value ∙ ap (λ b. (strokes_of layout.decor b).underline) c.is_primary.ensures.value in
    let is_role = ap (λ (s : Strokes). s.style) strokes.ensures.value ∙ ap underline_role c.is_primary.ensures.value in
    let from = c.code_cell-cell.ensures.value ∙ ap (λ (l : Layout). code_cell l placed.entry.start.display) (sym c.layout.view_is) in
    let to = c.code_cell.ensures.value ∙ ap (λ (l : Layout). code_cell l c.mark_end-end.result) (sym c.layout.view_is) in
    let drawn = rw to at (rw from at c.put_stretch.ensures.painted) in
    rw (← c.layout.view_is) (record {
      painted = on_ok_weaker c.put_stretch.result
          (λ drawn_now. mark_whole layout c.args.row placed c.first_glyph-first.result strokes.result.underline strokes.result.style
          c.mark_end-end.result (g.C.Canvas.rows c.args.buffer.now) (g.C.Canvas.rows c.put_stretch.new.self) some is_end c.first_glyph-first.ensures.value
          is_line
          is_role c.if-first-strokes.true drawn_now ∙ sym (mark_same layout c.args.row placed (g.C.Canvas.rows c.args.buffer.now))) drawn;
    })

pub returns : goal.returns
returns g c = grind (arith, common_steps, on_ok_weaker, mark_painted, mark_same)

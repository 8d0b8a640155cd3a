use Rattle.snippet_strokes.proofs.Common.{◌≡◌, ◌++◌, ◌∷◌, [], List, refl, ap, sym, subst, ◌∙◌, ◌+◌, ◌<◌, ◌^◌}
use Rattle.snippet_strokes.proofs.Common.{arith, length, Layout, layout_of, source_row, begun_cells, ended_cells, Cell, DecorStyle, Solid, Top}
use Rattle.snippet_strokes.proofs.Common.{part_of_norm, norm, width_of-chars, shown_number, chars-shown_number, norm_short, on_ok_weaker}
use Rattle.snippet_strokes.proofs.Common.{if_ok_weaker, rules}
use Rattle.std.proofs.Common.{chars}
use Rattle.snippet_strokes.proofs.CellLemmas.{with_parts, cells_are, no_window, nothing_shown, part_few}
use Rattle.snippet_strokes.proofs.Common.{common_steps}
use Rattle.snippet_strokes.proofs.source_row.draw_source_row.Goals as goal

pub near_part-near-requires-clause-narrow : goal.near_part-near-requires-clause-narrow
near_part-near-requires-clause-narrow c =
    omega (arith, c.args.line.now.measured, width_of-chars c.args.line.now.info.line.now, c.requires.text)

pub window_of-window-requires-clause-narrow : goal.window_of-window-requires-clause-narrow
window_of-window-requires-clause-narrow c =
    omega (arith, c.args.line.now.measured, width_of-chars c.args.line.now.info.line.now, c.requires.text)

pub window_of-window-requires-clause-short : goal.window_of-window-requires-clause-short
window_of-window-requires-clause-short c = grind (arith, common_steps, norm_short)

pub write_source_row-requires-clause-number : goal.write_source_row-requires-clause-number
write_source_row-requires-clause-number c = grind (arith, common_steps, chars-shown_number)

pub write_source_row-requires-clause-text : goal.write_source_row-requires-clause-text
write_source_row-requires-clause-text c =
    let line = chars c.args.line.now.info.line.now in
    let text = ap chars c.as_str.ensures.value ∙ c.in_ok-text.ensures.value in
    let part = part_of_norm c.args.view.margin c.args.line.now.width c.near_part-near.result.skipped line (chars c.near_part-near.result.text.now)
    (chars c.as_str.result.now) c.args.line.now.measured text c.near_part-near.ensures.holds in
    omega (
      arith,
      ap length (c.window_of-window.ensures.text (norm line) part),
      part_few c.args.view.margin.computed_left c.args.view.margin.term_width c.args.view.margin.computed_left c.args.view.margin.computed_right
          (chars c.placeholder-placeholder.result.now) (norm line),
      norm_short c.args.line.now.info.line.now c.requires.text,
    )

pub returns : goal.returns
returns c =
    let args = c.args in
    let layout = layout_of c.layout.inside in
    let line = chars args.line.now.info.line.now in
    let number = ap chars (c.as_str-2.ensures.value ∙ c.in_ok-number.ensures.text)
    ∙ chars-shown_number args.view.numbers layout.gutter args.line.now.info.line_index (omega arith) in
    let text = ap chars c.as_str.ensures.value ∙ c.in_ok-text.ensures.value in
    let part = part_of_norm args.view.margin c.args.line.now.width c.near_part-near.result.skipped line (chars c.near_part-near.result.text.now)
    (chars c.as_str.result.now) c.args.line.now.measured text c.near_part-near.ensures.holds in
    let window = c.window_of-window in
    let cells = cells_are layout.decor args.view.margin window.result.start window.result.end (chars window.result.text.now)
    (chars c.placeholder-placeholder.result.now) (norm line) (norm line)
    c.placeholder-placeholder.ensures.value refl (window.ensures.start (norm line) part) (window.ensures.text (norm line) part)
    (window.ensures.end (norm line) part) in
    let old = args.buffer.now in
    let sides : Layout → List Cell → List (List Cell) = λ l cs.
    old ++ with_parts l Solid args.beside.past.now (with_parts l Top args.beside.tops.now cs) ∷ [] in
    let text_cells : DecorStyle → List Cell = λ decor.
    ended_cells decor window.result.end (begun_cells decor window.result.start (chars window.result.text.now)) in
    let given = subst (λ (l : Layout). c.write_source_row.new.buffer ≡ sides l (source_row l (chars c.as_str-2.result.now) (text_cells l.decor)))
    (sym c.layout.view_is) c.in_ok-row.ensures.added in
    let short = subst (λ (l : Layout). length (text_cells l.decor) < 2 ^ 61 + 4) (sym c.layout.view_is) c.in_ok-row.ensures.short in
    record {
      added = rw (← c.layout.view_is) (given ∙ ap (λ shown. sides layout (source_row layout shown (text_cells layout.decor))) number
          ∙ ap (λ cs. sides layout (source_row layout (shown_number args.view.numbers layout.gutter args.line.now.info.line_index) cs)) cells);
      short = rw (← c.layout.view_is) (omega (arith, ap length cells, short));
      row = search rules;
      dropped = window.ensures.dropped (norm line) part;
      few = search rules;
    }

pub draw_empty_row-requires-clause-number : goal.draw_empty_row-requires-clause-number
draw_empty_row-requires-clause-number c = grind (arith, common_steps, chars-shown_number)

pub returns-then-not-was_cut_left : goal.returns-then-not-was_cut_left
returns-then-not-was_cut_left c = grind (arith, common_steps, chars-shown_number, nothing_shown, no_window, on_ok_weaker, if_ok_weaker)

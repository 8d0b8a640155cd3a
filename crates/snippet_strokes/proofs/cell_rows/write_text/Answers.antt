use Rattle.snippet_strokes.proofs.Common.{◌∙◌, ap, arith, map, sym, YieldsList-from_chars, YieldsList-end, YieldsList-turn}
use Rattle.snippet_strokes.proofs.Common.{length_push, map-id, length-text_cells, text_cells-append, SPACE, text_cells, written, cell_of}
use Rattle.snippet_strokes.proofs.CellRowLemmas.{more_cells}
use Rattle.snippet_strokes.proofs.Common.{common_steps}
use Rattle.snippet_strokes.proofs.cell_rows.write_text.Goals as goal

pub loop-ch-init : goal.loop-ch-init
loop-ch-init c = record { next = omega arith; so_far = c.in_ok-fill_up.ensures.filled }

pub overflow_add-next : goal.overflow_add-next
overflow_add-next c =
    let at = YieldsList-turn (YieldsList-from_chars c.args.text.now c.utf8.text cc) c.loop-ch.yielded _ c.loop-ch.yielded_by _ _ c.in-Some.ch c.in-Some.is
    c.next.ensures.steps in
    omega (arith, at.0, c.loop-ch.invariant.next, c.requires.end)

pub loop-ch-preserved : goal.loop-ch-preserved
loop-ch-preserved c = grind (arith, common_steps, length_push, more_cells, length-text_cells, text_cells-append)

pub returns : goal.returns
returns c =
    let all = YieldsList-end (YieldsList-from_chars c.args.text.now c.utf8.text cc) c.loop-ch.yielded _ c.loop-ch.yielded_by _ _ c.in-None.is
    c.next.ensures.steps in
    record {
      written = c.loop-ch.invariant.so_far
          ∙ ap (λ cs. written SPACE (map cell_of c.args.cells.now.items) c.args.at (text_cells c.args.role cs)) (sym (map-id c.loop-ch.yielded) ∙ all.0);
    }

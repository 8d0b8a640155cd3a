use Rattle.snippet_grid.proofs.Common.{common_steps, arith, ◌∙◌, ap, string_bytes, Stored}
use Rattle.snippet_grid.proofs.GridShown.{IsGrid-read, grid_read}
use Rattle.snippet_grid.proofs.RunLemmas.{if_ok_weaker}
use Rattle.snippet_grid.proofs.WovenLemmas.{AddsRows-same}
use Rattle.snippet_grid.proofs.grid.StyledBuffer.render_after.Goals as goal

pub print_rows-requires : goal.print_rows-requires
print_rows-requires c = grind (arith, common_steps, IsGrid-read, c.as_str.ensures.value, c.deref.ensures.value, c.deref-2.ensures.value, c.cells.invariant.0)

pub returns : goal.returns
returns c =
    let shown = grid_read (string_bytes c.cells.inside.text) c.as_str.result.now c.cells.inside.runs.items c.deref.result.now c.cells.inside.widths.items
    c.deref-2.result.now c.as_str.ensures.value c.deref.ensures.value c.deref-2.ensures.value ∙ ap (λ (s : Stored). s.rows) c.cells.view_is ∙ c.self.view_is in
    record {
      added = if_ok_weaker c.print_rows.result (λ text printed. AddsRows-same c.args.codes.now c.args.level c.args.self.now _ _ _ _ shown
          c.in_ok-reserve.ensures.bytes printed) c.print_rows.ensures.text;
    }

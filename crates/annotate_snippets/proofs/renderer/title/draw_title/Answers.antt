use Rattle.annotate_snippets.proofs.Common.{List, ◌++◌, ◌∙◌, ap, append_assoc, on_ok_weaker, Cell, title_rows, rows_after_title}
use Rattle.annotate_snippets.proofs.renderer.title.draw_title.Goals as goal

pub returns : goal.returns
returns c =
    let after : List (List Cell) = rows_after_title c.args.renderer.now c.args.group.now.layout c.args.group.now.place c.args.next
    c.args.title.now.allows_styling in
    record {
      rows = on_ok_weaker c.draw_below_title.result (λ is. is c.args.renderer.now
          ∙ ap (λ (rows : List (List Cell)). rows ++ after) c.in_ok-draw_title.ensures.rows
          ∙ append_assoc c.args.buffer.now (title_rows c.args.renderer.now.hyperlink c.args.title.now) after) c.draw_below_title.ensures.rows;
    }

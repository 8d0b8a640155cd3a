use Rattle.std.proofs.Common.{arith}
use Rattle.std.proofs.lemmas.Grind.{common_steps}
use Rattle.snippet_strokes.proofs.Common.{◌≡◌, ◌∙◌, ◌++◌, ◌∷◌, [], ap, sym, replicate, on_ok_weaker, LineNumber, elision_of, SPACE}
use Rattle.snippet_strokes.proofs.Common.{text_cells, Layout, begun_by_text}
use Rattle.snippet_strokes.proofs.SourceCellLaws.{bare_elision_is, elision_cell, elision_some}
use Rattle.snippet_strokes.proofs.elision.begin_elision_row.Goals as goal
use Rattle.snippet_strokes.proofs.elision.begin_elision_row.Goals.{in-Ascii, in-Unicode}

pub returns : goal.returns
returns c =
    let decor = c.layout.inside.decor in
    let gutter = c.layout.inside.gutter in
    let old = c.args.buffer.now in
    let at : c.match-layout.cell ≡ elision_cell decor gutter =
    grind (arith, common_steps, in-Ascii, gutter, in-Unicode, c.match-layout.branch, c.layout.view_is) in
    let shown = c.elision.ensures.value ∙ ap (λ (l : Layout). elision_of l.decor) (c.layout-2.view_is ∙ sym c.layout.view_is) in
    rw (← c.layout.view_is) (record {
      added = on_ok_weaker c.puts.result
          (λ writes. begun_by_text old c.puts.new.self c.num_lines-row.result c.match-layout.cell c.elision.result.now (elision_of decor)
          c.num_lines-row.ensures.count shown (elision_some decor) writes
          ∙ ap (λ n. old ++ (replicate n SPACE ++ text_cells LineNumber (elision_of decor)) ∷ []) at
          ∙ ap (λ row. old ++ row ∷ []) (bare_elision_is decor gutter)) c.puts.ensures.ok;
    })

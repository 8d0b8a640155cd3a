use Rattle.snippet_strokes.proofs.Common.{◌∙◌, ap, sym, on_ok_weaker, placeholder_of, Layout, code_cell}
use Rattle.snippet_strokes.proofs.CellLemmas.{begun_plain, begun_cut}
use Rattle.snippet_strokes.proofs.source_row.write_beginning.Goals as goal

pub returns-in-None : goal.returns-in-None
returns-in-None c =
    let decor = c.layout.inside.decor in
    rw (← c.layout.view_is) (record {
      writes = on_ok_weaker c.puts.result (λ writes above row last ends before.
          begun_plain decor c.args.start above c.args.buffer.now c.puts.new.self row c.args.row c.layout.inside.code c.args.text.now c.in-None.is c.utf8.text
          writes c.puts.ensures.empty last ends before) c.puts.ensures.ok;
    })

pub returns-in_ok-puts-in-Some : goal.returns-in_ok-puts-in-Some
returns-in_ok-puts-in-Some c =
    let layout = c.layout-in-Some in
    let decor = layout.inside.decor in
    let is_cell = c.code_cell.ensures.value ∙ ap (λ (l : Layout). code_cell l c.in-Some.columns) (sym layout.view_is) in
    let wrote = rw is_cell at c.puts-in-Some-2.ensures.ok in
    rw (← layout.view_is) (record {
      writes = on_ok_weaker c.puts-in-Some-2.result
          (λ writes above row last ends before. begun_cut decor c.args.start c.in-Some.columns above c.args.buffer.now c.puts-in-Some.new.self
          c.puts-in-Some-2.new.self row c.args.row layout.inside.code c.args.placeholder.now c.args.text.now c.in-Some.is c.utf8.placeholder c.utf8.text
          (c.requires.placeholder ∙ ap (λ (l : Layout). placeholder_of l.decor)
          (sym layout.view_is)) c.in_ok-puts-in-Some.ensures.ok c.puts-in-Some.ensures.empty writes c.puts-in-Some-2.ensures.empty last ends before)
          wrote;
    })

use Rattle.snippet_strokes.proofs.Common.{on_ok_weaker}
use Rattle.snippet_strokes.proofs.CellLemmas.{ended_cut}
use Rattle.snippet_strokes.proofs.source_row.write_end.Goals as goal

pub returns-in-Some : goal.returns-in-Some
returns-in-Some c =
    let layout = c.args.layout in
    let wrote = rw c.code_cell.ensures.value at c.puts.ensures.ok in
    record {
      writes = on_ok_weaker c.puts.result
          (λ writes above row cells last ends before. ended_cut layout.decor c.args.end c.in-Some.at above c.args.buffer.now c.puts.new.self row cells
          c.args.row layout.code c.args.placeholder.now c.in-Some.is c.utf8.placeholder c.requires.placeholder writes c.puts.ensures.empty last
          ends before) wrote;
    }

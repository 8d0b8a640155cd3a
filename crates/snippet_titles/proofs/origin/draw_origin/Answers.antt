use Rattle.snippet_titles.proofs.Common.{on_ok_weaker}
use Rattle.snippet_titles.proofs.FileRowLemmas.{origin_row-begun}
use Rattle.snippet_titles.proofs.origin.draw_origin.Goals as goal

pub returns : goal.returns
returns c =
    record {
      row = on_ok_weaker c.append_place.result
          (origin_row-begun c.args.buffer.now c.begin_file_row.new.buffer c.append_path.new.buffer c.append_place.new.buffer c.in_ok-row.row
          c.args.path.now c.args.layout c.args.start c.args.place c.in_ok-row.ensures.row c.in_ok-row.ensures.added c.in_ok-append_path.ensures.added)
          c.append_place.ensures.added;
    }

use Rattle.snippet_grid.proofs.Common.{[], LevelInner, Stylesheet, string_bytes, subst, WeavesRow}
use Rattle.snippet_grid.proofs.RowWoven.{rows_one}
use Rattle.snippet_grid.proofs.printed_row.PrintedRowRowSink.end.Goals as goal

pub returns : goal.returns
returns c =
    record {
      gained = λ start cells adds some old begun.
          let text = string_bytes c.close.new.self.text in
          let woven = c.in_ok-close.ensures.closed cells old (adds.printed [] old begun) in
          let under = subst (λ (s : Stylesheet). WeavesRow s c.args.self.level cells old text) adds.sheet woven in
          rows_one start.codes.now start.level old text cells (subst (λ (l : LevelInner). WeavesRow start.codes.now l cells old text) adds.level under);
    }

use Rattle.std.proofs.Common.{◌+◌, ap}
use Rattle.std.proofs.lemmas.Iterator.{YieldsList-from_chars}
use Rattle.std.proofs.lemmas.Iterator.Consumers.{count_from_yields_List}
use Rattle.redraw_read.proofs.edits.end_column.Goals as goal

pub returns : goal.returns
returns c =
    record {
      value = ap (λ n. n + 1) (count_from_yields_List c.chars.result c.count.result c.count.ensures.ran (YieldsList-from_chars c.args.line.now c.utf8.line cc));
    }

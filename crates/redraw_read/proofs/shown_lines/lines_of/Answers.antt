use Rattle.std.proofs.Common.{arith}
use Rattle.std.proofs.lemmas.Iterator.Consumers.{map_from_collect}
use Rattle.std.proofs.lemmas.Iterator.Splits.{YieldsList-from_str_split}
use Rattle.redraw_read.proofs.shown_lines.lines_of.Goals as goal

pub returns : goal.returns
returns c =
    record {
      each = map_from_collect _ c.collect.ensures.ran
          (YieldsList-from_str_split 10 c.args.text.now (omega arith) c.split.ensures.text c.split.ensures.has_more c.split.ensures.pattern);
    }

use Rattle.std.proofs.Common.{is_some, not, rules, tests}
use Rattle.std.proofs.lemmas.Iterator.{YieldsList-from_slice}
use Rattle.std.proofs.lemmas.Iterator.Search.{any_from_yields_List}
use Rattle.redraw_report.specs.declared.diagnostic.FileSpan.{FileSpan}
use Rattle.redraw_read.proofs.unseen.has_unseen.Goals as goal

pub returns : goal.returns
returns c =
    record {
      value =
          any_from_yields_List (λ (s : FileSpan). not (is_some s.carried)) _ _ c.any.result c.any.ensures.ran (YieldsList-from_slice c.args.spans.now cc)
          (λ x b q k. search (rules, tests));
    }

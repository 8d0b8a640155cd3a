use Rattle.std.proofs.Common.{rules, tests}
use Rattle.std.proofs.lemmas.Iterator.{YieldsList-from_slice}
use Rattle.std.proofs.lemmas.Iterator.Search.{any_from_yields_List}
use Rattle.redraw_report.specs.declared.diagnostic.Child.{Child}
use Rattle.redraw_read.specs.Rustc.{are_several}
use Rattle.redraw_read.proofs.unseen.has_several_beside.Goals as goal

pub returns : goal.returns
returns c =
    record {
      value =
          any_from_yields_List (λ (x : Child). are_several x.spans.items) _ _ c.any.result c.any.ensures.ran (YieldsList-from_slice c.args.children.now cc)
          (λ x b q k. search (rules, tests));
    }

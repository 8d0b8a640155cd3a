use Rattle.std.proofs.Common.{List, arith, subst}
use Rattle.std.proofs.lemmas.List.{take_all}
use Rattle.redraw_report.specs.SourceKey.{AreGroupsOf}
use Rattle.redraw_report.specs.declared.finding.MarkedSpan.{MarkedSpan}
use Rattle.redraw_report.proofs.marks.groups_of.Goals as goal

pub returns : goal.returns
returns c =
    record {
      value = subst (λ (ms : List MarkedSpan). AreGroupsOf c.loop-mark.groups ms)
          (take_all c.loop-mark.mark-index c.args.marks.now (omega (arith, c.loop-mark-test.false))) c.loop-mark.invariant;
    }

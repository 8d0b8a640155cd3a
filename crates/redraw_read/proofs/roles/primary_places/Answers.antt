use Rattle.std.proofs.Common.{List, arith, subst}
use Rattle.std.proofs.lemmas.List.{take_all}
use Rattle.redraw_report.specs.declared.diagnostic.FileSpan.{FileSpan}
use Rattle.redraw_read.specs.Roles.{ArePrimaryParts}
use Rattle.redraw_read.proofs.roles.primary_places.Goals as goal

pub returns : goal.returns
returns c =
    record {
      each = subst (λ (spans : List FileSpan). ArePrimaryParts c.loop-span.parts spans)
          (take_all c.loop-span.span-index c.args.spans.now (omega (arith, c.loop-span-test.false))) c.loop-span.invariant;
    }

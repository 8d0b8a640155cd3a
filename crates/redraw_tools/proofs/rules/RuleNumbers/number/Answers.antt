use Rattle.std.proofs.Common.{◌∙◌, ◌-◌, ◌+◌, arith, length, rules, sym}
use Rattle.redraw_tools.proofs.Naming.{first-named, next-named, none-named}
use Rattle.redraw_tools.proofs.rules.RuleNumbers.number.Goals as goal

pub returns-in-Some : goal.returns-in-Some
returns-in-Some c =
    record {
      value = λ all is.
          sym (first-named (length c.args.id.now - c.loop-count._count) (length c.args.id.now - (c.loop-count._count + 1)) c.in-Some.number all
          c.loop-count.part.now (omega (arith, c.loop-count-test.true)) (sym (c.in-Some.ensures.value ∙ is c.loop-count.part.now)))
          ∙ c.loop-count.invariant.1 all is;
    }

pub returns-in_default-shorter : goal.returns-in_default-shorter
returns-in_default-shorter c =
    record {
      value = λ all is.
          sym (none-named (length c.args.id.now - c.loop-count._count) all c.loop-count.part.now
          (sym (c.in_default.ensures.value ∙ is c.loop-count.part.now)) (sym c.in_default-shorter.ensures.value))
          ∙ c.loop-count.invariant.1 all is;
    }

pub loop-count-preserved : goal.loop-count-preserved
loop-count-preserved c = (
  search rules,
  λ all is.
      next-named (length c.args.id.now - c.loop-count._count) (length c.args.id.now - (c.loop-count._count + 1)) all c.loop-count.part.now
      c.in-Some-shorter.next.now (omega (arith, c.loop-count-test.true)) (sym (c.in_default.ensures.value ∙ is c.loop-count.part.now))
      (sym c.in-Some-shorter.ensures.value)
      ∙ c.loop-count.invariant.1 all is,
)

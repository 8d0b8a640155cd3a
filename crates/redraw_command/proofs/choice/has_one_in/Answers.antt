use Rattle.std.proofs.Common.{arith, refl, subst, sym}
use Rattle.std.specs.List.{All}
use Rattle.std.proofs.lemmas.List.{take_all}
use Rattle.redraw_command.specs.Choice.{IsIn}
use Rattle.redraw_report.specs.declared.diagnostic.FileSpan.{FileSpan}
use Rattle.redraw_command.proofs.Chosen.{none-any}
use Rattle.redraw_command.proofs.choice.has_one_in.Goals as goal

pub returns-then-is_in : goal.returns-then-is_in
returns-then-is_in c =
    record {
      some = (
        λ same. (c.loop-span.span-index, _, c.loop-span-test.true, sym c.span-item.is, c.is_in.ensures.value.0 c.if-is_in.true),
        λ any. refl,
      );
    }

pub returns : goal.returns
returns c =
    let spans = c.args.spans.now in
    let none = subst (All (λ (s : FileSpan). IsIn c.args.text.now s → ⊥)) (take_all c.loop-span.span-index spans (omega (arith, c.loop-span-test.false)))
    c.loop-span.invariant in
    record { some = (λ never. absurd (cc never), λ any. absurd (none-any (IsIn c.args.text.now) spans none any)) }

use Rattle.std.proofs.Common.{take}
use Rattle.std.specs.List.{All}
use Rattle.redraw_command.specs.Choice.{IsIn}
use Rattle.redraw_report.specs.declared.diagnostic.FileSpan.{FileSpan}
use Rattle.redraw_command.proofs.choice.has_one_in.Given as goal

-- none of the places so far is one
abbrev pub invariant-loop-span : goal.invariant-loop-span
invariant-loop-span l = All (λ (s : FileSpan). IsIn l.text s → ⊥) (take l.span-index l.spans)

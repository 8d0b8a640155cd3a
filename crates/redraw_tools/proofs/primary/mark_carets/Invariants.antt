use Rattle.std.proofs.Common.{◌≡◌, ◌++◌, map, take, drop}
use Rattle.redraw_tools.specs.Primary.{by_caret}
use Rattle.redraw_tools.proofs.primary.mark_carets.Given as goal

-- the places so far are chosen, and those from here on are as they were
abbrev pub invariant-loop-span : goal.invariant-loop-span
invariant-loop-span l = l.spans ≡ map by_caret (take l.span-index l.initial.spans) ++ drop l.span-index l.initial.spans

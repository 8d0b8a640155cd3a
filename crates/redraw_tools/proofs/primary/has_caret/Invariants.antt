use Rattle.std.proofs.Common.{◌≡◌, drop}
use Rattle.std.specs.List.{list_any}
use Rattle.redraw_tools.specs.Primary.{is_caret}
use Rattle.redraw_tools.proofs.primary.has_caret.Given as goal

-- none up to here is a column
abbrev pub invariant-loop-span : goal.invariant-loop-span
invariant-loop-span l =
    list_any (λ span. is_caret span.region) (drop l.span-index l.spans) ≡ list_any (λ span. is_caret span.region) l.spans

use Rattle.std.proofs.Common.{◌≡◌, drop}
use Rattle.std.specs.List.{list_all}
use Rattle.redraw_tools.specs.Primary.{is_in}
use Rattle.redraw_tools.proofs.primary.are_in.Given as goal

-- all up to here are in the file
abbrev pub invariant-loop-span : goal.invariant-loop-span
invariant-loop-span l = list_all (is_in l.file) (drop l.span-index l.spans) ≡ list_all (is_in l.file) l.spans

use Rattle.redraw_tools.specs.Fixes.{AddsNotes, remarks}
use Rattle.redraw_tools.specs.Places.{GoesOn}
use Rattle.redraw_tools.proofs.flow.add_thread.Given as goal

-- the places that were there come first, and what was said
abbrev pub invariant-loop-index : goal.invariant-loop-index
invariant-loop-index l =
    GoesOn l.initial.told.spans.items l.told.spans.items × AddsNotes (remarks l.initial.told.children) (remarks l.told.children)

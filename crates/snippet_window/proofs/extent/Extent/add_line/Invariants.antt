use Rattle.snippet_window.proofs.Common.{◌≡◌, ◌++◌, List, take, LineAnnotation, ReachesEntries}
use Rattle.snippet_window.proofs.extent.Extent.add_line.Given as goal

-- the entries so far are taken in
abbrev pub invariant-loop-entry : goal.invariant-loop-entry
invariant-loop-entry l =
    ((before : List LineAnnotation) → ReachesEntries before l.initial.self → ReachesEntries (before ++ take l.entry-index l.entry-items) l.self)
    × (l.self.whitespace ≡ l.initial.self.whitespace) × (l.self.widest ≡ l.initial.self.widest)

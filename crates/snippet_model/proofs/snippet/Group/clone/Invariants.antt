use Rattle.std.proofs.Common.{take}
use Rattle.std.specs.List.{AllZip}
use Rattle.snippet_model.specs.Copies.{SameElement}
use Rattle.snippet_model.proofs.snippet.Group.clone.Given as goal

abbrev pub invariant-loop-element : goal.invariant-loop-element
invariant-loop-element l = AllZip SameElement (take l.element-index l.self.elements.items) l.elements.items

-- The rows that the graphic form has for an element show it.
use Rattle.annotate_snippets.proofs.Common.{All, List, Cell, Element, HasNoFeed, element_rows, cells_of, IsFreeElement, ShowsElement, Renderer, Layout}
use Rattle.annotate_snippets.proofs.Common.{ElementContext}
use Rattle.annotate_snippets.proofs.OneLineTexts.{IsOneLineElement}

-- an element's rows show it; they hold no listed character but a message's own, and no line feed, where its texts bring none
pub record ElementShown (r : Renderer) (layout : Layout) (around : ElementContext) (found : List Cell) (e : Element) : Type 0 where
  pub shows : ShowsElement r layout around found e (element_rows r layout around found e)
  pub free : IsFreeElement e (element_rows r layout around found e)
  pub one_line : IsOneLineElement layout.label_lines e → All HasNoFeed (cells_of (element_rows r layout around found e))

-- The level stays, and the elements so far are printed or drawn below the rows that the group had. The walk has come to the first of those that
-- are left.
use Rattle.annotate_snippets.proofs.Common.{◌≡◌, List, map, ℕ, option_copied, Cell, element_of, IsPrinting}
use Rattle.annotate_snippets.proofs.ElementRows.{AreLeft}
use Rattle.annotate_snippets.proofs.PrintingLemmas.{ElementsPrinted}
use Rattle.std.proofs.Common.{deque_len}
use Rattle.annotate_snippets.proofs.renderer.printing.add_elements.Given as goal

abbrev pub invariant-loop-element : goal.invariant-loop-element
invariant-loop-element l =
    record {
      level : l.page.level ≡ l.fn.page.level;
      passed : ℕ;
      left : AreLeft l.fn.elements.items passed l.left.items l.walk;
      printed : (old : List ℕ) (above : List (List Cell)) → IsPrinting l.codes l.fn.page.level old l.fn.page above
          → ElementsPrinted l.codes l.fn.page.level l.fn.renderer l.fn.group.layout l.fn.group.place (option_copied l.fn.group.file)
          (map element_of l.fn.elements.items) passed above old l.page;
    }

abbrev pub decreases-loop-element : goal.decreases-loop-element
decreases-loop-element l = deque_len l.left

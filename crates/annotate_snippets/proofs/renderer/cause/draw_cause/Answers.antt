use Rattle.std.proofs.lemmas.Grind.{common_steps}
use Rattle.annotate_snippets.proofs.Common.{◌≡◌, ◌++◌, List, append_assoc, on_ok_weaker, arith, Cell}
use Rattle.annotate_snippets.proofs.CauseShown.{snippet_cells}
use Rattle.annotate_snippets.proofs.renderer.cause.draw_cause.Goals as goal

-- what is added piece by piece is added as a whole
pieces : (old head lines after a b c : List (List Cell)) → a ≡ old ++ head → b ≡ a ++ lines → c ≡ b ++ after → c ≡ old ++ (head ++ (lines ++ after))
pieces old head lines after a b c first second third = cc (third, second, first, append_assoc (old ++ head) lines after, append_assoc old head (lines ++ after))

pub returns : goal.returns
returns c = grind (arith, common_steps, on_ok_weaker, pieces, snippet_cells)

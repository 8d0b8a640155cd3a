use Rattle.snippet_strokes.proofs.Common.{arith, take_all, take_more}
use Rattle.std.proofs.lemmas.List.{map_push}
use Rattle.snippet_parts.proofs.LeastLemmas.{greatest-push}
use Rattle.snippet_strokes.proofs.Common.{common_steps}
use Rattle.snippet_strokes.proofs.strokes.lowest_piece.Goals as goal

pub loop-entry-preserved : goal.loop-entry-preserved
loop-entry-preserved c = grind (arith, common_steps, greatest-push, map_push, take_more)

pub returns : goal.returns
returns c = grind (arith, common_steps, take_all)

use Rattle.std.proofs.Common.{arith}
use Rattle.std.proofs.lemmas.Grind.{common_steps}
use Rattle.annotate_snippets.proofs.ElementRows.{group_drawn, title_drawn}
use Rattle.annotate_snippets.proofs.renderer.graphic.draw_group.Goals.{in-Some+in_ok-draw_title, in_default}
use Rattle.annotate_snippets.proofs.renderer.graphic.draw_group.Goals as goal

pub returns : goal.returns
returns c = grind (arith, common_steps, title_drawn, in_default, group_drawn)

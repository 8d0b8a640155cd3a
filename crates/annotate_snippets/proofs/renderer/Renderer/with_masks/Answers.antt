use Rattle.std.proofs.lemmas.Grind.{common_steps}
use Rattle.annotate_snippets.proofs.Common.{IfOk-weaker, arith}
use Rattle.annotate_snippets.proofs.MaskShown.{groups-taken}
use Rattle.annotate_snippets.proofs.renderer.Renderer.with_masks.Goals as goal

pub groups_remade-requires : goal.groups_remade-requires
groups_remade-requires c = record { taken = groups-taken c.args.groups.items }

pub returns-in_ok-made-clause-made : goal.returns-in_ok-made-clause-made
returns-in_ok-made-clause-made c = grind (arith, common_steps, IfOk-weaker)

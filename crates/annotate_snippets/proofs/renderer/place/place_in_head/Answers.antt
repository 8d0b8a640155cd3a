use Rattle.std.proofs.Common.{arith}
use Rattle.annotate_snippets.proofs.Common.{characters-fit}
use Rattle.annotate_snippets.proofs.renderer.place.place_in_head.Goals as goal

-- the columns of the entries of the lines that are kept have room
pub secondary_place-requires : goal.secondary_place-requires
secondary_place-requires c = grind (arith, characters-fit, c.requires.prepared, c.args.cause.now.snippet.now, c.deref-2.result.now, c.deref-2.ensures.value)

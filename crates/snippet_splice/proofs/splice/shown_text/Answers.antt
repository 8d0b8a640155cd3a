use Rattle.snippet_splice.proofs.Common.{arith, length-take, IsCharBoundary-from_take}
use Rattle.snippet_splice.proofs.splice.shown_text.Goals as goal

pub truncate-requires : goal.truncate-requires
truncate-requires c = grind (arith, length-take, IsCharBoundary-from_take)

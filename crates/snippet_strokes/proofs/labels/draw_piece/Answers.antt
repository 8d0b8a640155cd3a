use Rattle.snippet_strokes.proofs.Common.{chars_some, on_ok_weaker}
use Rattle.std.proofs.lemmas.Str.{chars-nil}
use Rattle.snippet_strokes.proofs.EntryBarLaws.{piece_painted}
use Rattle.snippet_strokes.proofs.Common.{arith, common_steps}
use Rattle.snippet_strokes.proofs.labels.draw_piece.Goals as goal

pub returns : goal.returns
returns g c = grind (arith, common_steps, on_ok_weaker, piece_painted, chars_some, chars-nil)

use Rattle.snippet_strokes.proofs.Common.{IfOk-weaker, IsUtf8-string_bytes}
use Rattle.snippet_strokes.proofs.LineLemmas.{chars-repeat}
use Rattle.snippet_strokes.proofs.Common.{arith, common_steps}
use Rattle.snippet_strokes.proofs.lines.made.Goals as goal

pub returns : goal.returns
returns c = grind (arith, common_steps, IfOk-weaker, chars-repeat, IsUtf8-string_bytes)

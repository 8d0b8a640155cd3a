use Rattle.snippet_shown.proofs.Common.{common_steps, arith}
use Rattle.snippet_shown.proofs.MaskBytes.{aligned-own}
use Rattle.snippet_shown.proofs.MaskLemmas.{masked-none}
use Rattle.snippet_shown.proofs.mask.text.text_masked.Goals as goal

pub returns : goal.returns
returns c = grind (arith, common_steps, masked-none, c.as_str.ensures.value, c.has_masked.ensures.value, c.if-has_masked.false, aligned-own)

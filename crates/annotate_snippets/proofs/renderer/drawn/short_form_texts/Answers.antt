use Rattle.std.proofs.lemmas.Grind.{common_steps}
use Rattle.annotate_snippets.proofs.Common.{arith, map-append, take_all}
use Rattle.annotate_snippets.proofs.ShortShown.{short-hold, short-shown}
use Rattle.annotate_snippets.proofs.ListLemmas.{AllZip-push}
use Rattle.annotate_snippets.proofs.renderer.drawn.short_form_texts.Goals as goal

pub loop-sheet-preserved : goal.loop-sheet-preserved
loop-sheet-preserved c = grind (arith, common_steps, AllZip-push, map-append)

pub returns : goal.returns
returns c = grind (arith, common_steps, take_all, short-shown, short-hold)

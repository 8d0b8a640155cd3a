use Rattle.snippet_parts.proofs.CountedWords.{greatest-more}
use Rattle.snippet_parts.proofs.counted.greatest_end.Goals as goal

pub loop-annotation-preserved : goal.loop-annotation-preserved
loop-annotation-preserved c =
    greatest-more c.args.annotations.now c.loop-annotation.annotation-index c.annotation-item.result c.loop-annotation.end _ c.loop-annotation-test.true
    c.annotation-item.is c.loop-annotation.invariant c.max-end.ensures

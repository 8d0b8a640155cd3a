use Rattle.std.proofs.Common.{◌+◌, ◌∙◌, ap, length, sym}
use Rattle.replay_read.specs.MarkerSpan.{until_feed}
use Rattle.replay_read.proofs.Lines.{line-part}
use Rattle.replay_read.proofs.ruler.walked_line.Goals as goal

pub returns-clause-part : goal.returns-clause-part
returns-clause-part c =
    let start = c.in_ok-start.start in
    line-part c.args.source.now c.args.index start _ c.utf8.source (sym c.in_ok-start.ensures.value)
    (ap (λ bytes. start + length bytes) (c.until_feed-line.ensures.value ∙ ap until_feed c.range_from.ensures.value))

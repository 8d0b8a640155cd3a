use Rattle.snippet_shown.proofs.Common.{common_steps, arith}
use Rattle.snippet_shown.proofs.LineFeedLemmas.{shown-feedless}
use Rattle.snippet_shown.proofs.as_set.line_feeds.shown_on_one_line.Goals as goal

pub returns : goal.returns
returns c = grind (arith, common_steps, shown-feedless, c.as_str.ensures.value, c.has_line_feed.ensures.value, c.if-has_line_feed.false)

use Rattle.snippet_shown.proofs.Common.{sym, chars}
use Rattle.snippet_shown.proofs.LineFeedLemmas.{shown-feedless}
use Rattle.snippet_shown.proofs.as_set.line_feeds.with_line_feeds_shown.Goals as goal

pub returns-else-has_line_feed-clause-value : goal.returns-else-has_line_feed-clause-value
returns-else-has_line_feed-clause-value c = sym (shown-feedless (chars c.args.text.now) (cc c.has_line_feed.ensures.value))

use Rattle.snippet_lines.proofs.Common.{◌∙◌, ap, sym, length, min, List, ℕ}
use Rattle.snippet_lines.proofs.CountLemmas.{newline_count-cut}
use Rattle.snippet_lines.proofs.counts.newline_count_before.Goals as goal

pub returns-clause-value : goal.returns-clause-value
returns-clause-value c =
    newline_count-cut c.args.text.now c.as_bytes.result.now c.args.end c.min.result _ c.ends_with_line_feed.result _ _ c.as_bytes.ensures.value
    (c.min.ensures ∙ ap (λ (bytes : List ℕ). min c.args.end (length bytes)) (sym c.as_bytes.ensures.value))
    c.count_line_feeds.ensures.value c.ends_with_line_feed.ensures.value c.from.ensures c.saturating_sub.ensures

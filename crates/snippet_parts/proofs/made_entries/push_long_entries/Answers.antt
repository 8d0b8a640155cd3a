use Rattle.snippet_parts.proofs.Common.{◌+◌, ℕ, get_or, map, ap, ◌∙◌, list_any, take_rest, get_or_default, get_or-map, LongSpan, long_place}
use Rattle.snippet_parts.proofs.Common.{depth_among, same_place, seen_long}
use Rattle.snippet_parts.proofs.EntryLemmas.{parts-more, no_span}
use Rattle.snippet_parts.proofs.made_entries.push_long_entries.Goals as goal

pub loop-i-preserved : goal.loop-i-preserved
loop-i-preserved c =
    let spans = c.args.spans.now in
    let i : ℕ = c.loop-i.i in
    let x : LongSpan = get_or spans i no_span in
    parts-more c.args.source.now (map long_place (map seen_long spans)) spans i x (c.loop-i.entries.items)
    (c.push_span_entries.new.entries.items) _ (get_or c.args.depths.now i 0)
    c.stands_among-again.result (seen_long c.promoted-span.result) c.loop-i-test.true (get_or_default spans i no_span x c.loop-i-test.true)
    c.in_ok-push_span_entries.ensures.value
    (ap (λ ds. get_or ds i 0) c.requires.depths ∙ get_or-map (λ (l : LongSpan). depth_among (map long_place (map seen_long spans))
    (long_place (seen_long l))) spans i no_span 0 c.loop-i-test.true)
    (c.stands_among-again.ensures.value ∙ ap (list_any (λ (o : LongSpan). same_place (long_place (seen_long x))
    (long_place (seen_long o)))) (take_rest spans (i + 1))) c.promoted-span.ensures.value c.loop-i.invariant

use Rattle.snippet_parts.proofs.Common.{◌≡◌, ◌++◌, [], map, ap, sym, ◌∙◌, LongSpan, long_parts, long_place, long_spans, single_part}
use Rattle.snippet_parts.proofs.Common.{annotations_of, greatest_depth, All-same, seen_long, HasFit}
use Rattle.std.proofs.Common.{filter}
use Rattle.snippet_parts.proofs.LocatedLemmas.{short-parts, long-are}
use Rattle.snippet_parts.proofs.EntryLemmas.{places-ordered, places-lines, places-are, depths-of, no_span}
use Rattle.snippet_parts.proofs.PartWords.{is_short}
use Rattle.snippet_parts.proofs.made_entries.made_entries.Goals as goal

pub depths-requires : goal.depths-requires
depths-requires c =
    let ps = c.deref-2.result.now in
    let spans = c.in_ok-spans.spans.items in
    let are = c.deref-2.ensures.value ∙ c.in_ok-places.ensures.value ∙ ap (map (λ (l : LongSpan). long_place (seen_long l))) c.deref.ensures.value in
    record {
      ordered = places-ordered ps spans no_span are c.in_ok-spans.ensures.ordered;
      lines = places-lines c.args.source.now ps spans no_span are (c.in_ok-spans.ensures.fit c.args.source.now c.requires.located);
    }

pub push_long_entries-requires-clause-depths : goal.push_long_entries-requires-clause-depths
push_long_entries-requires-clause-depths c =
    depths-of c.deref-2.result.now c.deref-3.result.now c.deref-4.result.now
    (c.deref-2.ensures.value ∙ c.in_ok-places.ensures.value ∙ ap (map (λ (l : LongSpan). long_place (seen_long l))) (c.deref.ensures.value
    ∙ sym c.deref-3.ensures.value)) (c.deref-4.ensures.value ∙ c.in_ok-greatest.ensures.value)

pub push_long_entries-requires-clause-fit : goal.push_long_entries-requires-clause-fit
push_long_entries-requires-clause-fit c =
    All-same (HasFit c.args.source.now) c.deref-3.result.now c.in_ok-spans.spans.items c.deref-3.ensures.value
    (c.in_ok-spans.ensures.fit c.args.source.now c.requires.located)

pub returns : goal.returns
returns c =
    let s = c.args.source.now in
    let ls = c.args.located.now in
    let read = c.deref-2.ensures.value ∙ c.in_ok-places.ensures.value ∙ ap (map (λ (l : LongSpan). long_place (seen_long l))) c.deref.ensures.value in
    let are = c.in_ok-spans.ensures.value ∙ long-are s ls c.requires.located in
    let spans : map seen_long c.deref-3.result.now ≡ long_spans s (annotations_of ls) = ap (map seen_long) c.deref-3.ensures.value ∙ are in
    record {
      deepest = c.in_ok-greatest.ensures.greatest
          ∙ ap greatest_depth (places-are c.deref-2.result.now c.in_ok-spans.spans.items read ∙ ap (map long_place) are);
      value = c.in_ok-push_long_entries.ensures.value
          ∙ ap (λ ps. ps ++ long_parts s (map long_place (map seen_long c.deref-3.result.now)) [] (map seen_long c.deref-3.result.now))
          (c.reserve.ensures.items ∙ c.in_ok-entries.ensures.value ∙ short-parts s ls c.requires.located)
          ∙ ap (λ es. map (single_part s) (filter (is_short s.text) (annotations_of ls)) ++ long_parts s (map long_place es) [] es) spans;
    }

use Rattle.snippet_splice.proofs.Common.{◌≡◌, ◌≢◌, ◌++◌, ℕ, List, [], All, map, drop, min, length, sym, ap, subst, ◌∙◌, rules, slice_get}
use Rattle.snippet_splice.proofs.Common.{string_bytes, Edit, edit_of, trimmed_edits, in_order, IsSpanBorder, TrimmedPatch}
use Rattle.snippet_splice.proofs.Common.{end_from, written_ranges, IsPlainSplice, first_start, shown_start, shown_rest, shown_text, closes_line}
use Rattle.snippet_splice.proofs.Common.{extents_from, extent_of, ranges_from, shown_line}
use Rattle.snippet_splice.proofs.Common.{original_bounds_of, trimmed_edit_of, AreApart, arith}
use Rattle.snippet_splice.proofs.OverlapLemmas.{apart-in_order, ordered-spans}
use Rattle.snippet_splice.proofs.PlaceLemmas.{replaced_are, stretches_are}
use Rattle.snippet_splice.proofs.ShownLineLemmas.{num_replaced, num_shown}
use Rattle.snippet_splice.proofs.ShownLemmas.{none_given, first_start-trimmed, shown_start-border, shown-apart, shown-value, some-trimmed}
use Rattle.snippet_splice.proofs.SpliceLemmas.{IsShownPart, IsShownPart-plain}
use Rattle.snippet_splice.proofs.WriteLemmas.{without_final-twice}
use Rattle.snippet_splice.proofs.LineLemmas.{AreFrom-shown}
use Rattle.snippet_splice.proofs.TouchLemmas.{shown-touched}
use Rattle.snippet_splice.proofs.RangeLemmas.{ranges_from-written_ranges}
use Rattle.snippet_splice.proofs.splice.spliced_lines.Goals.{After-deref-2}
use Rattle.snippet_splice.proofs.splice.spliced_lines.Goals as goal

pub returns-in_default-clause-none : goal.returns-in_default-clause-none
returns-in_default-clause-none c = grind (arith, none_given)

-- where the text that is shown begins
first_is : (c : After-deref-2) → c.in-Some.first.now.original_span.start ≡ first_start (in_order (map edit_of c.args.patches.now))
first_is c = grind (arith, first_start-trimmed)

border : (c : After-deref-2) → IsSpanBorder c.args.source.now c.shown_start-start.result
border c = grind (arith, shown_start-border)

-- the edits stand apart from there
apart_from : (c : After-deref-2) (ts : List TrimmedPatch) → ts ≡ c.in_ok-patches.patches.items
    → AreApart c.shown_start-start.result (map trimmed_edit_of ts)
apart_from c ts is =
    let source : List ℕ = c.args.source.now in
    let es : List Edit = map edit_of c.args.patches.now in
    let apart = shown-apart c.args.fold source es (apart-in_order es (ordered-spans source c.args.patches.now c.requires.spans) c.requires.disjoint) in
    let begin = c.shown_start-start.ensures.value ∙ ap (shown_start c.args.fold source) (first_is c) in
    subst (λ n. AreApart n (map trimmed_edit_of ts)) (sym begin) (subst (AreApart (shown_start c.args.fold source (first_start (in_order es))))
    (sym (ap (map trimmed_edit_of) is ∙ c.in_ok-patches.ensures.edits)) apart)

pub write_patches-requires : goal.write_patches-requires
write_patches-requires c = record { from = border c; spans = search rules; apart = apart_from c c.deref-2.result.now c.deref-2.ensures.value }

pub patch_places-requires : goal.patch_places-requires
patch_places-requires c =
    let before = (goal.at.patch_places-requires c).After-deref-2 in
    record { from = border before; spans = search rules; apart = apart_from before c.deref-4.result.now c.deref-4.ensures.value }

pub returns-clause-splice : goal.returns-clause-splice
returns-clause-splice c =
    let source : List ℕ = c.args.source.now in
    let es : List Edit = map edit_of c.args.patches.now in
    let edits : map trimmed_edit_of c.deref-2.result.now ≡ trimmed_edits source es = cc (c.deref-2.ensures.value, c.in_ok-patches.ensures.edits) in
    let before = (goal.at.returns-clause-splice c).After-deref-2 in
    let first = first_is before in
    let same : map trimmed_edit_of c.deref-3.result.now ≡ map trimmed_edit_of c.deref-2.result.now = cc (c.deref-3.ensures.value, c.deref-2.ensures.value) in
    let closed : c.closes_line.result ≡ closes_line (map trimmed_edit_of c.deref-2.result.now) = c.closes_line.ensures.value ∙ ap closes_line same in
    let rest : c.shown_rest-rest.result.now ≡ shown_rest c.args.fold c.closes_line.result (drop (min c.in_ok-written.written.end (length source)) source) = cc
    (c.shown_rest-rest.ensures.value, c.range_from-after.ensures.value, c.min.ensures) in
    let value : string_bytes c.in_ok-complete.complete ≡ shown_text c.args.fold source es =
    c.in_ok-complete.ensures.value ∙ shown-value _ _ _ _ _ _ _ _ _ _ edits first
    c.shown_start-start.ensures.value c.in_ok-written.ensures.text c.in_ok-written.ensures.end closed rest in
    let begin : c.shown_start-start.result ≡ shown_start c.args.fold source (first_start (in_order es)) = cc (c.shown_start-start.ensures.value, first) in
    let written : c.in_ok-written.written.ranges.items ≡ written_ranges source 0 (shown_start c.args.fold source (first_start (in_order es))) (trimmed_edits
    source es) = cc (c.in_ok-written.ensures.ranges, begin, edits) in
    let ts : List Edit = map trimmed_edit_of c.deref-4.result.now in
    let trimmed : ts ≡ trimmed_edits source es = ap (map trimmed_edit_of) c.deref-4.ensures.value ∙ c.in_ok-patches.ensures.edits in
    let places : map extent_of c.deref-6.result.now ≡ extents_from source c.shown_start-start.result c.shown_start-start.result ts = ap
    (map extent_of) c.deref-6.ensures.value ∙ c.in_ok-places.ensures.value in
    let apart : AreApart 0 (in_order es) = apart-in_order es (ordered-spans source c.args.patches.now c.requires.spans) c.requires.disjoint in
    let some : trimmed_edits source es ≢ [] = some-trimmed c.in_ok-patches.patches.items
    (trimmed_edits source es) c.in-Some.first.now c.in_ok-patches.ensures.edits
    (sym (c.in-Some.ensures.value ∙ ap (λ l. slice_get l 0) c.deref.ensures.value)) in
    let part : IsPlainSplice source es → IsShownPart c.args.fold source es = λ plain.
    IsShownPart-plain c.args.fold source es plain.no_cr plain.before apart some in
    record {
      edits = c.in_ok-patches.ensures.edits;
      originals = c.in_ok-patches.ensures.originals;
      spans = c.in_ok-patches.ensures.spans;
      original_spans = c.in_ok-patches.ensures.original_spans;
      law = c.in_ok-patches.ensures.law apart;
      value = value;
      ended = rw c.in_ok-complete.ensures.value (without_final-twice (string_bytes c.in_ok-written.written.text ++ c.shown_rest-rest.result.now));
      written = written;
      stretches = λ k. c.in_ok-highlights.ensures.value k ∙ stretches_are c.args.fold source es ts c.shown_start-start.result k
          (map extent_of c.deref-6.result.now) begin trimmed places;
      highlighted = rw (c.in_ok-highlights.ensures.lines, c.line_feed_count-more.ensures.value) (num_shown c.args.fold source es ts
          c.shown_start-start.result c.in_ok-written.written.end c.closes_line.result c.shown_rest-rest.result.now
          (map extent_of c.deref-6.result.now) trimmed begin places
          (c.in_ok-written.ensures.end ∙ ap (end_from c.shown_start-start.result) (edits ∙ sym trimmed)) (closed ∙ ap closes_line (edits ∙ sym trimmed)) rest);
      replaced = λ k. c.in_ok-replaced_highlights.ensures.value k ∙ replaced_are c.args.fold source es ts c.shown_start-start.result k
          (map extent_of c.deref-7.result.now) begin trimmed (ap (map extent_of) c.deref-7.ensures.value ∙ c.in_ok-places.ensures.value);
      replaced_lines = c.in_ok-replaced_highlights.ensures.lines ∙ num_replaced c.args.fold source es ts c.shown_start-start.result
          (map original_bounds_of c.deref-5.result.now)
          c.source_lines_shown-lines.result (map extent_of c.deref-7.result.now) trimmed begin
          (ap (map extent_of) c.deref-7.ensures.value ∙ c.in_ok-places.ensures.value)
          (ap (map original_bounds_of) c.deref-5.ensures.value ∙ c.in_ok-patches.ensures.originals)
          (c.source_lines_shown-lines.ensures.value (border before)
          (subst (λ (l : List TrimmedPatch). All (λ t. IsSpanBorder source t.original_span.end) l) (sym c.deref-5.ensures.value) (λ k d within.
          (c.in_ok-patches.ensures.original_spans k d within).to)));
      text = λ plain. value ∙ (part plain).text ∙ sym (part plain).spliced;
      ranges = λ plain. ap (ranges_from (shown_line c.args.fold source es)) written
          ∙ ranges_from-written_ranges c.args.fold source es plain.no_cr plain.before apart;
      lines = λ plain texts_none. rw (value ∙ (part plain).text) (AreFrom-shown c.args.fold source es plain.no_cr texts_none (part plain));
      touched = λ plain j touched filled. rw (value ∙ (part plain).text)
          (shown-touched c.args.fold source es plain.no_cr plain.before apart (part plain) j touched filled);
    }

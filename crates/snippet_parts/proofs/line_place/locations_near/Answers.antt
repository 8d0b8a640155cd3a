use Rattle.snippet_parts.proofs.Common.{sym, ap, ◌∙◌, arith, ne_eqb, location_of}
use Rattle.snippet_parts.proofs.SpanPlaces.{span_below, span_empty, span_on_line}
use Rattle.snippet_parts.proofs.TableLemmas.{located-line, located-near}
use Rattle.snippet_parts.proofs.line_place.locations_near.Goals as goal

pub steps_after_text-requires-clause-short : goal.steps_after_text-requires-clause-short
steps_after_text-requires-clause-short c = c.place_near-first.ensures.place.short

pub steps_after_text-steps-requires-clause-short : goal.steps_after_text-steps-requires-clause-short
steps_after_text-steps-requires-clause-short c = c.place_near-first.ensures.place.short

pub returns-then-span-clause-value : goal.returns-then-span-clause-value
returns-then-span-clause-value c =
    let s = c.args.source.now in
    let first = c.place_near-first in
    span_empty s c.args.span.start c.args.span.end c.steps_after_text.result first.result.at c.if-span.true
    (first.ensures.place.at ∙ ap (location_of s) first.ensures.byte) c.steps_after_text.ensures.value

pub locate_later-requires-clause-line : goal.locate_later-requires-clause-line
locate_later-requires-clause-line c =
    let first = c.place_near-first in
    located-near c.args.source.now first.result.line first.result.at.byte c.args.span.end first.ensures.place.line
    (omega (arith, first.ensures.byte, c.requires.span.ordered)) (omega (arith, c.if-span-first.true))

pub locate_later-requires-clause-later : goal.locate_later-requires-clause-later
locate_later-requires-clause-later c = omega (arith, c.place_near-first.ensures.byte, c.requires.span.ordered)

pub locate_later-requires-clause-short : goal.locate_later-requires-clause-short
locate_later-requires-clause-short c = c.place_near-first.ensures.place.short

pub returns-then-span-first-clause-value : goal.returns-then-span-first-clause-value
returns-then-span-first-clause-value c =
    let s = c.args.source.now in
    let first = c.place_near-first in
    let end = c.locate_later in
    let some = ne_eqb c.args.span.start c.args.span.end c.if-span.false in
    let from = located-line s first.result.at.byte first.result.line first.ensures.place.line first.result.at first.ensures.place.at in
    let there = located-near s first.result.line first.result.at.byte c.args.span.end first.ensures.place.line
    (omega (arith, first.ensures.byte, c.requires.span.ordered)) (omega (arith, c.if-span-first.true)) in
    let to = located-line s c.args.span.end first.result.line there end.result end.ensures.location in
    span_on_line s c.args.span.start c.args.span.end c.steps_after_text.result first.result.at end.result some
    (first.ensures.place.at ∙ ap (location_of s) first.ensures.byte) c.steps_after_text.ensures.value end.ensures.location (to ∙ sym from)

pub returns-then-last-first-clause-value : goal.returns-then-last-first-clause-value
returns-then-last-first-clause-value c =
    let s = c.args.source.now in
    let first = c.place_near-first in
    let last = c.placed_byte-last in
    let some = ne_eqb c.args.span.start c.args.span.end c.if-span.false in
    let from = located-line s first.result.at.byte first.result.line first.ensures.place.line first.result.at first.ensures.place.at in
    let to = located-line s last.result.at.byte last.result.line last.ensures.place.line last.result.at last.ensures.place.at in
    span_on_line s c.args.span.start c.args.span.end c.steps_after_text.result first.result.at last.result.at some
    (first.ensures.place.at ∙ ap (location_of s) first.ensures.byte) c.steps_after_text.ensures.value
    (last.ensures.place.at ∙ ap (location_of s) last.ensures.byte) (to ∙ c.if-last-first.true ∙ sym from)

pub returns-clause-value : goal.returns-clause-value
returns-clause-value c =
    let s = c.args.source.now in
    let first = c.place_near-first in
    let last = c.placed_byte-last in
    let some = ne_eqb c.args.span.start c.args.span.end c.if-span.false in
    let from = located-line s first.result.at.byte first.result.line first.ensures.place.line first.result.at first.ensures.place.at in
    let to = located-line s last.result.at.byte last.result.line last.ensures.place.line last.result.at last.ensures.place.at in
    let other = ne_eqb first.result.at.line last.result.at.line (λ same. c.if-last-first.false (sym to ∙ sym same ∙ from)) in
    span_below s c.args.span.start c.args.span.end c.steps_after_text.result first.result.at last.result.at some
    (first.ensures.place.at ∙ ap (location_of s) first.ensures.byte) c.steps_after_text.ensures.value
    (last.ensures.place.at ∙ ap (location_of s) last.ensures.byte) c.steps_after_text-steps.result c.steps_after_text-steps.ensures.value other

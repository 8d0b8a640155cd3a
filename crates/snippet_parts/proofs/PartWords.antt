-- Words for parts of what the entries of spans are made of, which proofs cite.
use Rattle.snippet_parts.proofs.Common.{◌&&◌, ◌||◌, eqb, ltb, Bool, List, ℕ, map, list_any, is_primary, Annotation, Source, LineAnnotation}
use Rattle.snippet_parts.proofs.Common.{LongExtent, long_place, long_spans, single_part, same_place, is_marking, is_single_line}

-- the entry of an annotation that stands on one line
abbrev pub entry_of : Source → Annotation → LineAnnotation
entry_of s a = single_part s a

-- whether an annotation is a span on one line of a kind that is marked
abbrev pub is_short : List ℕ → Annotation → Bool
is_short source a = is_marking a.kind && is_single_line source a

-- whether a span of several lines comes before another
abbrev pub stands_before : LineAnnotation → LineAnnotation → Bool
stands_before d e = ltb d.start.line e.start.line || eqb d.start.line e.start.line && ltb e.end.line d.end.line

-- the places of the spans of several lines, in their order
abbrev pub long_places : Source → List Annotation → List LongExtent
long_places s marks = map long_place (long_spans s marks)

-- whether a span has the place of one of some others
abbrev pub stands_among : LineAnnotation → List LineAnnotation → Bool
stands_among e ds = list_any (λ d. same_place (long_place e) (long_place d)) ds

-- whether a span is drawn as primary: it is, or one before it that has its place
abbrev pub is_promoted : List LineAnnotation → LineAnnotation → Bool
is_promoted before e =
    is_primary e.kind || list_any (λ d. is_primary d.kind && same_place (long_place e) (long_place d)) before

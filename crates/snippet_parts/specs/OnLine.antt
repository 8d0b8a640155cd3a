-- What stands on a line that is kept, in a reader's words: an entry for each span that stands, begins or ends there.
use Rattle.std.specs.Prelude.{◌≡◌, ℕ, ◌⊎◌, true, List, [], ◌++◌, Contains, map, filter, ◌&&◌, Bool, not}
use Rattle.std.specs.Option.{option_map}
use Rattle.std.specs.Cow.{cow_str_bytes}
use Rattle.snippet_model.specs.declared.snippet.Annotation.{Annotation}
use Rattle.snippet_parts.specs.declared.entries.LineAnnotation.{LineAnnotation}
use Rattle.snippet_parts.specs.declared.entries.AnnotatedLineInfo.{AnnotatedLineInfo}
use Rattle.snippet_parts.specs.declared.entries.LineAnnotationType.TheVariants.{Singleline, MultilineStart, MultilineEnd}
use Rattle.snippet_parts.specs.Annotated.{is_long, depth_of, single_part, KeptLine}
use Rattle.snippet_lines.specs.Lines.{Source}
use Rattle.snippet_parts.specs.Mark.{is_marked_on, is_marking, is_single_line, touches}
use Rattle.snippet_parts.specs.Marked.{first_line, last_line}
use Rattle.snippet_lines.specs.Place.{locations_of}
use Rattle.std.specs.List.{list_all}

-- the numbers of some lines
abbrev pub numbers_of_lines : List AnnotatedLineInfo → List ℕ
numbers_of_lines infos = map (λ info. info.line_index) infos

-- whether no span of several lines of a kind that is marked touches line k
abbrev pub is_untouched : List ℕ → List Annotation → ℕ → Bool
is_untouched source marks k = list_all (λ a. not (is_marking a.kind && touches source a k && not (is_single_line source a))) marks

-- a line with its entries, as the equations see it
abbrev pub seen_kept : AnnotatedLineInfo → KeptLine
seen_kept info = record { number = info.line_index; text = info.line.now; parts = info.annotations.items; keep = info.keep }

-- an entry begins a span of several lines: it starts where the span starts, at the span's depth
pub record Begins (s : Source) (marks : List Annotation) (a : Annotation) (p : LineAnnotation) : Type 0 where
  pub start : p.start ≡ (locations_of s a.span.start a.span.end).0
  pub part : p.annotation_type ≡ MultilineStart (depth_of s marks a)

-- an entry closes a span of several lines: it ends where the span ends, at the span's depth
pub record Closes (s : Source) (marks : List Annotation) (a : Annotation) (p : LineAnnotation) : Type 0 where
  pub end : p.end ≡ (locations_of s a.span.start a.span.end).1
  pub part : p.annotation_type ≡ MultilineEnd (depth_of s marks a)

-- an entry says what a span of several lines says: it ends where the span ends, and has the span's label. It closes the
-- span, or is one of a single line, where another span of the same place is closed.
pub record Labels (s : Source) (marks : List Annotation) (a : Annotation) (p : LineAnnotation) : Type 0 where
  pub end : p.end ≡ (locations_of s a.span.start a.span.end).1
  pub label : p.label ≡ option_map cow_str_bytes a.label
  pub part : (p.annotation_type ≡ MultilineEnd (depth_of s marks a)) ⊎ (p.annotation_type ≡ Singleline)

-- these are the entries of line k: first one for each span that stands on it alone, in the order given, then the others.
-- Where no span of several lines touches the line there are no others. For each such span that begins on the line one of
-- them begins it, and for each that ends there one closes it, and one has its label.
pub record AreEntriesOn (s : Source) (marks : List Annotation) (k : ℕ) (parts : List LineAnnotation) : Type 0 where
  pub others : List LineAnnotation
  pub singles_first : parts ≡ map (single_part s) (filter (is_marked_on s.text k) marks) ++ others
  pub none_untouched : is_untouched s.text marks k ≡ true → others ≡ []
  pub begun : (a : Annotation) → Contains marks a → is_long s.text a ≡ true → first_line s.text a ≡ k
      → (p : LineAnnotation) × Contains others p × Begins s marks a p
  pub closed : (a : Annotation) → Contains marks a → is_long s.text a ≡ true → last_line s.text a ≡ k
      → (p : LineAnnotation) × Contains others p × Closes s marks a p
  pub labelled : (a : Annotation) → Contains marks a → is_long s.text a ≡ true → last_line s.text a ≡ k
      → (p : LineAnnotation) × Contains others p × Labels s marks a p

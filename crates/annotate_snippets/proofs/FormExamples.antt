-- The graphic form, computed on small sources. In these LF is 10.
use Rattle.annotate_snippets.proofs.Common.{◌≡◌, ℕ, ◌<◌, ◌^◌, true, false, None, Some, Vec, List, [], ◌∷◌, codes, length, map, refl, arith, Global, Ascii}
use Rattle.annotate_snippets.proofs.Common.{row_text, unindexed, Annotation, AnnotationKind, Primary, Context, Snippet, norm, char_width, unicode_width}
use Rattle.annotate_snippets.proofs.Common.{start_of, end_location, line_of, location_of, locations_of, place_of, start_location, steps_after_text, written}
use Rattle.annotate_snippets.proofs.Common.{text_of, rows_of_lines, begins_with_number, Elision, NamedRow, Other, RowName, SourceRow, plain_settings}
use Rattle.std.specs.Fmt.{digits}
use Rattle.std.specs.Str.{chars}
use Rattle.annotate_snippets.proofs.NotShown.{layout, labelled_span, span_of}

-- a source with these spans, whose first line has number 1
abbrev marked : Vec Annotation Global → List ℕ → (marks : List Annotation) → length marks < 2 ^ 63 → Snippet Annotation
marked v source marks few =
    record {
      path = None;
      line_start = 1;
      source = unindexed (text_of source);
      markers = record { ptr = v.ptr; len = length marks; cap = length marks; alloc = v.alloc; items = marks; ok = (refl, omega arith); small = few };
      line_numbering = true;
      fold = true;
    }

-- the characters of rows, and their names
abbrev texts_of : List NamedRow → List (List ℕ)
texts_of rows = map (λ row. row_text row.cells) rows

abbrev names_of : List NamedRow → List RowName
names_of rows = map (λ row. row.name) rows

-- a span with a label, which is one character
abbrev labelled : ℕ → AnnotationKind → ℕ → ℕ → Annotation
labelled label kind start end = labelled_span (Some (text_of (label ∷ []))) kind start end

-- `ab cd`, of which `ab` is labelled `x` and `cd` is labelled `y`:
--
--     1 | ab cd
--       | -- ^^ y
--       | |
--       | x
two_labels : (v : Vec Annotation Global)
    → texts_of (rows_of_lines plain_settings layout false (marked v (codes "ab cd") (labelled 120 Context 0 2 ∷ labelled 121 Primary 3 5 ∷ [])
    (omega arith)) [] (0 ∷ [])) ≡ codes "1 | ab cd" ∷ codes "  | -- ^^ y" ∷ codes "  | |" ∷ codes "  | x" ∷ []
unfolding place_of line_of start_of chars char_width unicode_width norm locations_of start_location location_of end_location steps_after_text written digits
two_labels v = refl

-- `a`, `b`, `c` and `d`, one below the other, of which the first and the last are marked: a row stands for those between
--
--     1 | a
--       | ^
--     ...
--     4 | d
--       | ^
abbrev four_lines : Vec Annotation Global → Snippet Annotation
four_lines v = marked v (codes "a\nb\nc\nd") (span_of Primary 0 1 ∷ span_of Primary 6 7 ∷ []) (omega arith)

lines_left_out : (v : Vec Annotation Global)
    → texts_of (rows_of_lines plain_settings layout false (four_lines v) [] (0 ∷ 3 ∷ []))
    ≡ codes "1 | a" ∷ codes "  | ^" ∷ codes "..." ∷ codes "4 | d" ∷ codes "  | ^" ∷ []
unfolding place_of line_of start_of chars char_width unicode_width norm locations_of start_location location_of end_location steps_after_text written digits
lines_left_out v = refl

names_of_rows : (v : Vec Annotation Global)
    → names_of (rows_of_lines plain_settings layout false (four_lines v) [] (0 ∷ 3 ∷ [])) ≡ SourceRow 0 ∷ Other ∷ Elision ∷ SourceRow 3 ∷ Other ∷ []
unfolding place_of line_of start_of chars char_width unicode_width norm locations_of start_location location_of end_location steps_after_text written digits
names_of_rows v = refl

-- `a`, `b` and `c`, all of which is one span, and in the gutter's layout room for its bar:
--
--     1 | / a
--     2 | | b
--     3 | | c
--       | |_^
one_bar : (v : Vec Annotation Global)
    → texts_of (rows_of_lines plain_settings (record { gutter = 1; code = 6; decor = Ascii; label_lines = false; label_end = 0 }) false
    (marked v (codes "a\nb\nc") (span_of Primary 0 5 ∷ []) (omega arith)) []
    (0 ∷ 1 ∷ 2 ∷ [])) ≡ codes "1 | / a" ∷ codes "2 | | b" ∷ codes "3 | | c" ∷ codes "  | |_^" ∷ []
unfolding place_of line_of start_of chars char_width unicode_width norm locations_of start_location location_of end_location steps_after_text written digits
one_bar v = refl

-- a row that begins with a number, one that begins with a word, and one that begins with spaces
numbered : begins_with_number (codes "  12 | a") ≡ true
numbered = refl

named : begins_with_number (codes "error: 2 | a") ≡ false
named = refl

blank : begins_with_number (codes "   ") ≡ false
blank = refl

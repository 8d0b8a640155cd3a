-- The words of bars, computed on a few rows and spans.
use Rattle.annotate_snippets.proofs.Common.{◌≡◌, ◌==◌, ◌&&◌, true, false, List, [], ◌∷◌, refl, ap, list_any, is_primary, Annotation}
use Rattle.annotate_snippets.proofs.Common.{Context, Primary, Snippet, Elision, NamedRow, Other, RowName, SourceRow, bar_of_span, line_beside}
use Rattle.annotate_snippets.proofs.NotShown.{span_of}

-- a row of this name, whatever it holds
abbrev row : RowName → NamedRow
row name = record { name = name; cells = [] }

-- rows of lines 0, 1 and 9, with a row of marks below lines 0 and 9, and one in place of lines 2 to 8
abbrev lines_above : List NamedRow
lines_above = row (SourceRow 0) ∷ row Other ∷ row (SourceRow 1) ∷ []

-- the row of marks below line 0 stands beside line 0, the row of line 1 beside line 1
below_a_line : line_beside (row (SourceRow 0) ∷ []) Other ≡ 0
below_a_line = refl

on_a_line : line_beside (row (SourceRow 0) ∷ row Other ∷ []) (SourceRow 1) ≡ 1
on_a_line = refl

-- the row in place of lines beside line 2, the row of marks below line 9 beside line 9
in_place_of_lines : line_beside lines_above Elision ≡ 2
in_place_of_lines = refl

below_the_last : line_beside (row (SourceRow 0) ∷ row Other ∷ row (SourceRow 1) ∷ row Elision ∷ row (SourceRow 9) ∷ []) Other ≡ 9
below_the_last = refl

-- two spans of the same bytes, one of them primary, and one that ends later
abbrev spans : List Annotation
spans = span_of Context 0 5 ∷ span_of Primary 0 5 ∷ span_of Context 0 6 ∷ []

-- the bar of the first two is primary, that of the third isn't
shared_bar : (s : Snippet Annotation) → s.markers.items ≡ spans → (bar_of_span s (span_of Context 0 5)).primary ≡ true
shared_bar s are = ap (list_any (λ (b : Annotation). is_primary b.kind && (b.span.start == 0 && b.span.end == 5))) are

own_bar : (s : Snippet Annotation) → s.markers.items ≡ spans → (bar_of_span s (span_of Context 0 6)).primary ≡ false
own_bar s are = ap (list_any (λ (b : Annotation). is_primary b.kind && (b.span.start == 0 && b.span.end == 6))) are

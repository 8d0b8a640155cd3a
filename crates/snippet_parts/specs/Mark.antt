-- The mark of a column: which of a line's spans is marked below it.
use Rattle.std.specs.Prelude.{◌≡◌, ℕ, ◌+◌, ◌-◌, ◌*◌, ◌<◌, ◌≤◌, ◌==◌, ◌&&◌, nat_lt, nat_le, max, Bool, true, false, not, List, Contains}
use Rattle.std.specs.List.{list_all, list_any}
use Rattle.snippet_model.specs.declared.snippet.Annotation.{Annotation}
use Rattle.snippet_model.specs.declared.snippet.AnnotationKind.{AnnotationKind}
use Rattle.snippet_model.specs.declared.snippet.AnnotationKind.TheVariants.{Primary, Context, Visible}
use Rattle.snippet_parts.specs.Marked.{first_line, last_line}
use Rattle.snippet_lines.specs.Place.{place_of}

-- whether spans of this kind are marked; a `Visible` one only keeps its lines
abbrev pub is_marking : AnnotationKind → Bool
is_marking Visible = false
is_marking other = true

-- whether a span starts and ends on one line
abbrev pub is_single_line : List ℕ → Annotation → Bool
is_single_line source a = last_line source a == first_line source a

-- whether a span touches line k: it starts there or above, and ends there or below
abbrev pub touches : List ℕ → Annotation → ℕ → Bool
touches source a k = nat_le (first_line source a) k && nat_le k (last_line source a)

-- the first column that a single-line span covers
abbrev pub start_column : List ℕ → Annotation → ℕ
start_column source a = (place_of source a.span.start).column

-- the column before which it ends; it covers one column at least
abbrev pub end_column : List ℕ → Annotation → ℕ
end_column source a = max (place_of source a.span.end).column (start_column source a + 1)

-- how many columns a single-line span covers
abbrev pub span_width : List ℕ → Annotation → ℕ
span_width source a = end_column source a - start_column source a

-- whether a single-line span is wide, in a room of so many columns: it covers more than twice as many, and more than
-- ten beside those of the placeholder
abbrev pub is_wide : ℕ → ℕ → List ℕ → Annotation → Bool
is_wide room placeholder_width source a =
    nat_lt (2 * room) (span_width source a) && nat_lt (10 + placeholder_width) (span_width source a)

-- whether a span is marked below line k: it is of a kind that is marked, and stands on that line alone
abbrev pub is_marked_on : List ℕ → ℕ → Annotation → Bool
is_marked_on source k a = is_marking a.kind && is_single_line source a && first_line source a == k

-- whether line k qualifies for the promise on marks: a span is marked below it, none of those is wide, and no span of
-- several lines and of a kind that is marked touches it
abbrev pub qualifies_for_marks : ℕ → ℕ → List ℕ → List Annotation → ℕ → Bool
qualifies_for_marks room placeholder_width source marks k =
    list_any (is_marked_on source k) marks && list_all (λ a. not (is_marked_on source k a && is_wide room placeholder_width source a)) marks
    && list_all (λ a. not (is_marking a.kind && touches source a k && not (is_single_line source a))) marks

-- the span is marked below column p of line k: it is marked below the line, and covers the column
abbrev pub IsMarkedAt : List ℕ → ℕ → ℕ → Annotation → Type 0
IsMarkedAt source k p a = (is_marked_on source k a ≡ true) × (start_column source a ≤ p) × (p < end_column source a)

-- the mark of column p of line k has this kind: it is the kind of a span of least width among those that cover the
-- column; where it isn't primary, each primary span there is wider, so that a primary one wins where both kinds have
-- the least width
pub record IsMarkOf (source : List ℕ) (marks : List Annotation) (k p : ℕ) (kind : AnnotationKind) : Type 0 where
  pub span : Annotation
  pub among : Contains marks span
  pub covers : IsMarkedAt source k p span
  pub is : span.kind ≡ kind
  pub least : (other : Annotation) → Contains marks other → IsMarkedAt source k p other → span_width source span ≤ span_width source other
  pub primary_wins : kind ≡ Context → (other : Annotation) → Contains marks other → IsMarkedAt source k p other → other.kind ≡ Primary
      → span_width source span < span_width source other

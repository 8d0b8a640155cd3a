-- Kinds of annotations.
use Rattle.std.specs.Prelude.{ℕ, Bool, true, false}
use Rattle.snippet_model.specs.declared.snippet.AnnotationKind.{AnnotationKind}
use Rattle.snippet_model.specs.declared.snippet.AnnotationKind.TheVariants.{Primary, Context, Visible}

-- whether a span of this kind is marked as a primary one
abbrev pub is_primary : AnnotationKind → Bool
is_primary Primary = true
is_primary Context = false
is_primary Visible = false

-- the order of kinds: primary ones first, then those for context, then those that aren't marked
abbrev pub rank_of : AnnotationKind → ℕ
rank_of Primary = 0
rank_of Context = 1
rank_of Visible = 2

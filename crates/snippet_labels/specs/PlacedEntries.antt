-- The entries of a line: where they stand, and the roles of their labels.
use Rattle.std.specs.Prelude.{ℕ, ◌-◌, Bool, true, false}
use Rattle.snippet_model.specs.declared.snippet.AnnotationKind.{AnnotationKind}
use Rattle.snippet_model.specs.declared.snippet.AnnotationKind.TheVariants.{Primary}
use Rattle.snippet_parts.specs.declared.entries.LineAnnotation.{LineAnnotation}
use Rattle.snippet_parts.specs.declared.entries.LineAnnotationType.{LineAnnotationType}
use Rattle.snippet_parts.specs.declared.entries.LineAnnotationType.TheVariants.{MultilineStart, MultilineEnd}
use Rattle.snippet_style.specs.declared.role.ElementStyle.{ElementStyle}
use Rattle.snippet_style.specs.declared.role.ElementStyle.TheVariants.{LabelPrimary, LabelSecondary}

-- an entry on a line of which so many columns are dropped on the left
abbrev pub shifted : ℕ → LineAnnotation → LineAnnotation
shifted dropped e = record e { start = record e.start { display = e.start.display - dropped }; end = record e.end { display = e.end.display - dropped } }

-- whether an entry stands for the start or the end of a span of several lines
abbrev pub is_end_part : LineAnnotationType → Bool
is_end_part (MultilineStart depth) = true
is_end_part (MultilineEnd depth) = true
is_end_part other = false

-- how many columns an entry covers
abbrev pub entry_width : LineAnnotation → ℕ
entry_width e = e.end.display - e.start.display

-- the role of labels of this kind: primary, or else for context
abbrev pub label_role : AnnotationKind → ElementStyle
label_role Primary = LabelPrimary
label_role other = LabelSecondary

-- The cells in which the bars of entries stand, and cells that hold a mark.
use Rattle.std.specs.Prelude.{◌≡◌, ◌==◌, Bool, true, false, None}
use Rattle.std.specs.List.{list_any}
use Rattle.snippet_model.specs.AnnotationKind.{is_primary}
use Rattle.snippet_model.specs.declared.snippet.AnnotationKind.{AnnotationKind}
use Rattle.snippet_style.specs.Glyphs.{IsMarkGlyph, underline_role, bar_glyphs}
use Rattle.snippet_style.specs.Cell.{Cell}
use Rattle.snippet_style.specs.declared.glyphs.DecorStyle.{DecorStyle}
use Rattle.snippet_style.specs.declared.role.ElementStyle.{ElementStyle}
use Rattle.snippet_style.specs.declared.role.ElementStyle.TheVariants.{UnderlinePrimary, UnderlineSecondary}

-- a cell left of the code holds nothing but a part of a bar: one of its glyphs, or a space
pub record IsBarCell (decor : DecorStyle) (cell : Cell) : Type 0 where
  pub glyph : list_any (λ g. cell.ch == g) (bar_glyphs decor) ≡ true
  pub link : cell.link ≡ None

-- the cell holds a mark of this kind, drawn as this decor draws it, in the role of its strokes
abbrev pub IsMarkCell : DecorStyle → AnnotationKind → Cell → Type 0
IsMarkCell decor kind cell =
    IsMarkGlyph decor (is_primary kind) cell.ch × (cell.role ≡ underline_role (is_primary kind))

-- whether a role is that of marks, primary ones or those for context
abbrev pub is_mark_role : ElementStyle → Bool
is_mark_role UnderlinePrimary = true
is_mark_role UnderlineSecondary = true
is_mark_role other = false

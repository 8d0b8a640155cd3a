-- The glyphs and cells of strokes and stems, by which what stands below a line is told from labels.
use Rattle.std.specs.Prelude.{ℕ, true, false, ◌≡◌, ◌⊎◌, ◌==◌, List, [], ◌∷◌, ◌++◌}
use Rattle.std.specs.List.{flat_map, list_any}
use Rattle.snippet_style.specs.Cell.{Cell, SPACE}
use Rattle.snippet_style.specs.declared.glyphs.DecorStyle.{DecorStyle}
use Rattle.snippet_style.specs.Glyphs.{strokes_of}
use Rattle.snippet_strokes.specs.EntryMarks.{is_mark_role}

-- the glyphs of stems, and of their feet, where lines that lead to bars meet them, primary or for context
abbrev pub stem_glyphs : DecorStyle → List ℕ
stem_glyphs decor = flat_map (λ primary. let s = strokes_of decor primary in s.stem ∷ s.corner ∷ s.corner_with_label ∷ []) (true ∷ false ∷ [])

-- the glyphs that strokes are drawn with from the code on: marks, the lines that lead to bars, what stands where they meet, and stems
abbrev pub stroke_glyphs : DecorStyle → List ℕ
stroke_glyphs decor =
    flat_map (λ primary. let s = strokes_of decor primary in s.underline ∷ s.label_start ∷ s.end_down ∷ s.end_flat ∷ s.connector ∷ []) (true ∷ false ∷ [])
    ++ stem_glyphs decor

-- a cell below a line, from the code on, that is none of a label's: a space, or the glyph of a stroke in a role of marks
abbrev pub IsStrokeCell : DecorStyle → Cell → Type 0
IsStrokeCell decor cell =
    (cell ≡ SPACE) ⊎ ((list_any (λ g. cell.ch == g) (stroke_glyphs decor) ≡ true) × (is_mark_role cell.role ≡ true))

-- a cell in which a stem stands, in a role of marks
abbrev pub IsStemCell : DecorStyle → Cell → Type 0
IsStemCell decor cell =
    (list_any (λ g. cell.ch == g) (stem_glyphs decor) ≡ true) × (is_mark_role cell.role ≡ true)

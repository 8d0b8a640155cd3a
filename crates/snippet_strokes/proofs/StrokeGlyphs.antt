-- The table of strokes: each glyph is among those of its kind, and what holds of each holds of that at a foot, and of the first of a mark.
use Rattle.snippet_strokes.proofs.Common.{◌≡◌, ℕ, ◌==◌, ◌&&◌, cond, Bool, true, false, refl, list_any, strokes_of, DecorStyle, Ascii, Unicode, EachCode}
use Rattle.snippet_strokes.proofs.Common.{EachStem, each_code, each_stem, LineAnnotationType, Singleline, MultilineStart, MultilineEnd, MultilineLine}
use Rattle.snippet_strokes.proofs.Common.{is_end_part, is_start_part, stem_glyphs, stroke_glyphs, All, All-head, All-tail, List, [], ◌∷◌, ◌||◌, ◌∙◌, ap, sym}
use Rattle.snippet_strokes.proofs.Common.{subst, arith, inl, inr, cases_eq, nat_tests, is_primary, PlacedEntry, first_glyph, rules}

-- a character is one of these glyphs
abbrev pub IsAmong : List ℕ → ℕ → Type 0
IsAmong glyphs ch = list_any (λ g. ch == g) glyphs ≡ true

-- what holds of each of them holds of it
pub of_glyph : (P : ℕ → Type 0) (ch : ℕ) (glyphs : List ℕ) → All P glyphs → IsAmong glyphs ch → P ch
of_glyph P ch [] all is = cc is
of_glyph P ch (g ∷ glyphs) all is =
    elim (cases_eq ch g) [
      | inl here ↦ subst P (sym here) (All-head P g glyphs all)
      | inr other ↦ of_glyph P ch glyphs (All-tail P g glyphs all) (sym (ap (λ b. b || list_any (λ x. ch == x) glyphs) (unequal ch g other)) ∙ is)
    ]
  where
    unequal : (m n : ℕ) → (m ≡ n → ⊥) → (m == n) ≡ false
    unequal m n other = grind (arith, nat_tests, other)

-- each glyph of stems is among those of its decor
pub stems_among : (decor : DecorStyle) (primary : Bool) → EachStem (IsAmong (stem_glyphs decor)) (strokes_of decor primary)
stems_among Ascii true = each_stem (λ ch. list_any (λ g. ch == g) (stem_glyphs Ascii)) true (strokes_of Ascii true) refl
stems_among Ascii false = each_stem (λ ch. list_any (λ g. ch == g) (stem_glyphs Ascii)) true (strokes_of Ascii false) refl
stems_among Unicode true = each_stem (λ ch. list_any (λ g. ch == g) (stem_glyphs Unicode)) true (strokes_of Unicode true) refl
stems_among Unicode false = each_stem (λ ch. list_any (λ g. ch == g) (stem_glyphs Unicode)) true (strokes_of Unicode false) refl

-- each glyph that stands from the code on is among those of its decor
pub code_among : (decor : DecorStyle) (primary : Bool) → EachCode (IsAmong (stroke_glyphs decor)) (strokes_of decor primary)
code_among Ascii true = each_code (λ ch. list_any (λ g. ch == g) (stroke_glyphs Ascii)) true (strokes_of Ascii true) refl
code_among Ascii false = each_code (λ ch. list_any (λ g. ch == g) (stroke_glyphs Ascii)) true (strokes_of Ascii false) refl
code_among Unicode true = each_code (λ ch. list_any (λ g. ch == g) (stroke_glyphs Unicode)) true (strokes_of Unicode true) refl
code_among Unicode false = each_code (λ ch. list_any (λ g. ch == g) (stroke_glyphs Unicode)) true (strokes_of Unicode false) refl

-- what holds of each glyph of stems holds of that at a foot
pub of_foot : (P : ℕ → Type 0) (part : LineAnnotationType) (decor : DecorStyle) (primary labelled : Bool) → EachStem P (strokes_of decor primary)
    → P (let strokes = strokes_of decor primary in
    cond (is_start_part part) strokes.corner (cond (is_end_part part && labelled) strokes.corner_with_label strokes.stem))
of_foot P Singleline decor primary labelled each = each.stem
of_foot P (MultilineStart depth) decor primary labelled each = each.corner
of_foot P (MultilineEnd depth) decor primary true each = each.corner_with_label
of_foot P (MultilineEnd depth) decor primary false each = each.stem
of_foot P (MultilineLine depth) decor primary labelled each = each.stem

-- what holds of each glyph that stands from the code on holds of an entry's first one
pub of_first : (P : ℕ → Type 0) (decor : DecorStyle) (e : PlacedEntry) → EachCode P (strokes_of decor (is_primary e.entry.kind)) → P (first_glyph decor e)
of_first P decor e each = search rules

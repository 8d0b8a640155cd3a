-- The table of strokes: what a test says of each of its glyphs, by one computation for each decor and kind.
use Rattle.std.proofs.Common.{◌≡◌, ℕ, Bool, true, false, List, [], ◌∷◌, ◌==◌, get_or, map, replicate, refl, ap}
use Rattle.std.specs.List.{list_any}
use Rattle.snippet_style.specs.Glyphs.{bar_glyphs, strokes_of}
use Rattle.snippet_style.specs.declared.glyphs.DecorStyle.{DecorStyle}
use Rattle.snippet_style.specs.declared.glyphs.DecorStyle.TheVariants.{Ascii, Unicode}
use Rattle.snippet_style.specs.declared.glyphs.Strokes.{Strokes}

-- the glyphs of bars, of stems, and all from the code on, of one table
abbrev bar_strokes : Strokes → List ℕ
bar_strokes s = s.bar ∷ s.elided_bar ∷ s.connector ∷ s.whole_line ∷ s.bar_top ∷ s.bar_bottom ∷ []

abbrev stem_strokes : Strokes → List ℕ
stem_strokes s = s.stem ∷ s.corner ∷ s.corner_with_label ∷ []

abbrev code_strokes : Strokes → List ℕ
code_strokes s =
    s.underline ∷ s.label_start ∷ s.end_down ∷ s.end_flat ∷ s.connector ∷ stem_strokes s

-- it holds of each glyph of bars
pub record EachBar (P : ℕ → Type 0) (s : Strokes) : Type 0 where
  pub bar : P s.bar
  pub elided_bar : P s.elided_bar
  pub connector : P s.connector
  pub whole_line : P s.whole_line
  pub bar_top : P s.bar_top
  pub bar_bottom : P s.bar_bottom

-- it holds of each glyph of stems
pub record EachStem (P : ℕ → Type 0) (s : Strokes) : Type 0 where
  pub stem : P s.stem
  pub corner : P s.corner
  pub corner_with_label : P s.corner_with_label

-- it holds of each glyph that strokes are drawn with from the code on
pub record EachCode (P : ℕ → Type 0) (s : Strokes) : Type 0 where
  pub underline : P s.underline
  pub label_start : P s.label_start
  pub end_down : P s.end_down
  pub end_flat : P s.end_flat
  pub connector : P s.connector
  pub stems : EachStem P s

-- where a test says the same of all in a list of them, it says so of each
pub each_bar : (test : ℕ → Bool) (b : Bool) (s : Strokes) → map test (bar_strokes s) ≡ replicate 6 b → EachBar (λ ch. test ch ≡ b) s
each_bar test b s all =
    record {
      bar = ap (λ bs. get_or bs 0 b) all;
      elided_bar = ap (λ bs. get_or bs 1 b) all;
      connector = ap (λ bs. get_or bs 2 b) all;
      whole_line = ap (λ bs. get_or bs 3 b) all;
      bar_top = ap (λ bs. get_or bs 4 b) all;
      bar_bottom = ap (λ bs. get_or bs 5 b) all;
    }

pub each_stem : (test : ℕ → Bool) (b : Bool) (s : Strokes) → map test (stem_strokes s) ≡ replicate 3 b → EachStem (λ ch. test ch ≡ b) s
each_stem test b s all =
    record {
      stem = ap (λ bs. get_or bs 0 b) all;
      corner = ap (λ bs. get_or bs 1 b) all;
      corner_with_label = ap (λ bs. get_or bs 2 b) all;
    }

pub each_code : (test : ℕ → Bool) (b : Bool) (s : Strokes) → map test (code_strokes s) ≡ replicate 8 b → EachCode (λ ch. test ch ≡ b) s
each_code test b s all =
    record {
      underline = ap (λ bs. get_or bs 0 b) all;
      label_start = ap (λ bs. get_or bs 1 b) all;
      end_down = ap (λ bs. get_or bs 2 b) all;
      end_flat = ap (λ bs. get_or bs 3 b) all;
      connector = ap (λ bs. get_or bs 4 b) all;
      stems = record {
        stem = ap (λ bs. get_or bs 5 b) all;
        corner = ap (λ bs. get_or bs 6 b) all;
        corner_with_label = ap (λ bs. get_or bs 7 b) all;
      };
    }

-- each glyph of bars is among those of its decor
pub bars_among : (decor : DecorStyle) (primary : Bool) → EachBar (λ ch. list_any (λ g. ch == g) (bar_glyphs decor) ≡ true) (strokes_of decor primary)
bars_among Ascii true = each_bar (λ ch. list_any (λ g. ch == g) (bar_glyphs Ascii)) true (strokes_of Ascii true) refl
bars_among Ascii false = each_bar (λ ch. list_any (λ g. ch == g) (bar_glyphs Ascii)) true (strokes_of Ascii false) refl
bars_among Unicode true = each_bar (λ ch. list_any (λ g. ch == g) (bar_glyphs Unicode)) true (strokes_of Unicode true) refl
bars_among Unicode false = each_bar (λ ch. list_any (λ g. ch == g) (bar_glyphs Unicode)) true (strokes_of Unicode false) refl

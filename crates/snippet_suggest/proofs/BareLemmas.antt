-- Rows that show no line: of a placeholder or a glyph.
use Rattle.snippet_suggest.proofs.Common.{◌≡◌, ℕ, zero, suc, ◌+◌, ◌≤◌, true, false, List, [], ◌∷◌, ◌++◌, length, replicate, refl, common_steps}
use Rattle.snippet_suggest.proofs.Common.{sym, ap, ◌∙◌, arith, inl, All, subst, list_all, list_any, slice_index_or, get_or-append_right}
use Rattle.snippet_suggest.proofs.Common.{get_or_append_left, get_or_past, length-append, length-replicate, All-append, All-nil, All-replicate}
use Rattle.snippet_suggest.proofs.Common.{AllPass-from_list_all, row_text, row_text-text_cells, each_fails, free_drawn, free_led, DecorStyle, SuggestionGlyph}
use Rattle.snippet_suggest.proofs.Common.{ElementStyle, Cell, SPACE, text_cells, suggestion_glyph_of, All-text_cells, length-text_cells, is_listed, put}
use Rattle.snippet_suggest.proofs.Common.{HasLeft, IsBareRow, IsMarkOrSpace, beside_gutter, is_stroke, IsEdgeRow}
use Rattle.snippet_suggest.proofs.GlyphLemmas.{glyph_short, glyph_strokes, glyph_unlisted, is_sign}
use Rattle.snippet_suggest.proofs.PutRows.{ch_at, put_after, put_before, put_cell, put_free, put_inside}

-- a row with no cells
pub bare_none : (decor : DecorStyle) (gutter : ℕ) → IsBareRow decor gutter []
bare_none decor gutter = grind (arith, All-nil)

-- it shows nothing at all
pub stroke_none : (decor : DecorStyle) (gutter : ℕ) → IsEdgeRow decor gutter [] []
stroke_none decor gutter = record { bare = bare_none decor gutter; left_is = λ c inside. refl }

spaces_left : (n c : ℕ) → ◌≡◌ {A = ℕ} (slice_index_or (replicate n 32 ++ []) c 32) 32
spaces_left zero c = refl
spaces_left (suc n) zero = refl
spaces_left (suc n) (suc c) = spaces_left n c

-- so nothing stands beside its gutter
pub stroke_blank : (decor : DecorStyle) (gutter : ℕ) → IsEdgeRow decor gutter (beside_gutter gutter []) []
stroke_blank decor gutter = record { bare = bare_none decor gutter; left_is = λ c inside. sym (spaces_left (gutter + 1) c) }

-- a fact of each cell of a row, and of a space, holds at each cell's number
each_cell : (P : Cell → Type 0) (row : List Cell) → P SPACE → All P row → (c : ℕ) → P (slice_index_or row c SPACE)
each_cell P row blank all c = grind (arith, get_or_past)

-- a row that spaces lead, and that ends before the line's place with what stands left of it
pub bare_led : (decor : DecorStyle) (gutter at : ℕ) (role : ElementStyle) (cs : List ℕ) → at + length cs ≤ gutter + 3 → list_all (is_stroke decor) cs ≡ true
    → list_any is_listed cs ≡ false → IsBareRow decor gutter (replicate at SPACE ++ text_cells role cs)
bare_led decor gutter at role cs short strokes free =
    let P : Cell → Type 0 = λ cell. is_stroke decor cell.ch ≡ true in
    let row = replicate at SPACE ++ text_cells role cs in
    let long : length row ≡ at + length cs = grind (arith, common_steps, length-append, length-replicate, length-text_cells) in
    record {
      strokes = λ c left. each_cell P row refl (All-append P (replicate at SPACE) (text_cells role cs) (All-replicate P at SPACE refl)
          (All-text_cells P role cs (AllPass-from_list_all (is_stroke decor) cs strokes))) c;
      marks = λ c after. subst (λ (cell : Cell). IsMarkOrSpace decor cell.ch) (sym (get_or_past row c SPACE (omega (arith, long, short, after)))) (inl refl);
      free = free_led at (text_cells role cs) (free_drawn role cs (each_fails is_listed cs free));
    }

-- what such a row holds from its first cell on
led_text : (n : ℕ) (role : ElementStyle) (cs : List ℕ) → row_text (replicate n SPACE ++ text_cells role cs) ≡ replicate n 32 ++ cs
led_text zero role cs = row_text-text_cells role cs
led_text (suc n) role cs = ap (λ t. 32 ∷ t) (led_text n role cs)

-- spaces and then the characters of strokes, no wider than a bare row, are a row of strokes
pub stroke_led : (decor : DecorStyle) (gutter at : ℕ) (role : ElementStyle) (cs : List ℕ) → at + length cs ≤ gutter + 3 → list_all (is_stroke decor) cs ≡ true
    → list_any is_listed cs ≡ false → IsEdgeRow decor gutter (replicate at 32 ++ cs) (replicate at SPACE ++ text_cells role cs)
stroke_led decor gutter at role cs short strokes free =
    record {
      bare = bare_led decor gutter at role cs short strokes free;
      left_is = λ c inside. ch_at (replicate at SPACE ++ text_cells role cs) c ∙ ap (λ (t : List ℕ). slice_index_or t c 32) (led_text at role cs);
    }

-- what stands left of the lines of a row in which characters were put after the gutter, over some that are no more, or over none
put_left : (gutter : ℕ) (role : ElementStyle) (old cs : List ℕ) (row : List Cell) → length old ≤ length cs → HasLeft gutter (beside_gutter gutter old) row
    → HasLeft gutter (beside_gutter gutter cs) (put role cs (gutter + 1) row)
put_left gutter role old cs row covers there c inside =
    grind (arith, length-replicate, put_before, get_or_append_left, put_inside, get_or-append_right, put_after, get_or_past, length-append)

-- a glyph that is put after the gutter of a row that shows no line, over one that is no longer
pub stroke_put : (decor : DecorStyle) (gutter : ℕ) (role : ElementStyle) (glyph : SuggestionGlyph) (old : List ℕ) (row : List Cell)
    → is_sign glyph ≡ false → length old ≤ length (suggestion_glyph_of decor glyph) → IsEdgeRow decor gutter (beside_gutter gutter old) row
    → IsEdgeRow decor gutter (beside_gutter gutter (suggestion_glyph_of decor glyph)) (put role (suggestion_glyph_of decor glyph) (gutter + 1) row)
stroke_put decor gutter role glyph old row other covers edge =
    let cs : List ℕ = suggestion_glyph_of decor glyph in
    let Stroke : Cell → Type 0 = λ cell. is_stroke decor cell.ch ≡ true in
    let Mark : Cell → Type 0 = λ cell. IsMarkOrSpace decor cell.ch in
    record {
      bare = record {
        strokes = λ c left. put_cell Stroke role cs (gutter + 1) c row (edge.bare.strokes c left)
            (AllPass-from_list_all (is_stroke decor) cs (glyph_strokes decor glyph other));
        marks = λ c after. subst Mark (sym (put_after role cs (gutter + 1) c row (omega (arith, glyph_short decor glyph, after)))) (edge.bare.marks c after);
        free = put_free role cs (gutter + 1) row edge.bare.free (each_fails is_listed cs (glyph_unlisted decor glyph));
      };
      left_is = put_left gutter role old cs row covers edge.left_is;
    }

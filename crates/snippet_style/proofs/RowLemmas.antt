-- Rows of cells that are begun by spaces, or written into.
use Rattle.std.proofs.Common.{◌≡◌, ℕ, ◌<◌, List, [], ◌++◌, length, replicate, arith, ◌∙◌}
use Rattle.std.specs.List.{slice_index_or}
use Rattle.std.proofs.lemmas.List.{places, same_lists, length-replicate, get_or_append_left, get_or-replicate}
use Rattle.snippet_style.specs.declared.glyphs.DecorStyle.{DecorStyle}
use Rattle.snippet_style.specs.declared.glyphs.DecorStyle.TheVariants.{Ascii, Unicode}
use Rattle.snippet_style.specs.Glyphs.{closing_of}
use Rattle.snippet_style.specs.Cell.{Cell, SPACE, written}

-- writing into an empty row
pub written-nil : (at : ℕ) (cells : List Cell) → written SPACE [] at cells ≡ replicate at SPACE ++ cells
written-nil at cells =
    same_lists _ _ (unfold written in grind (arith, places)) (λ k d h. unfold written in grind (arith, places))

-- a row of spaces with some cells after them, read at one of the spaces
pub led_before : (n c : ℕ) (cells : List Cell) → c < n → slice_index_or (replicate n SPACE ++ cells) c SPACE ≡ SPACE
led_before n c cells left =
    get_or_append_left (replicate n SPACE) cells SPACE c (omega (arith, length-replicate n SPACE, left)) ∙ get_or-replicate n c SPACE SPACE left

-- a closing glyph is not empty
pub closing_some : (decor : DecorStyle) → 0 < length (closing_of decor)
closing_some Ascii = omega arith
closing_some Unicode = omega arith

-- Rows of strokes before any stroke is drawn, read cell by cell.
use Rattle.snippet_strokes.proofs.Common.{◌≡◌, ℕ, ◌+◌, ◌≤◌, Bool, true, false, List, ◌++◌, length, replicate, refl, arith, All}
use Rattle.snippet_strokes.proofs.Common.{slice_index_or, length-replicate, length-append, get_or_past, All-append, All-replicate, each_fails, DecorStyle}
use Rattle.snippet_strokes.proofs.Common.{Ascii, Unicode, LineNumber, closing_of, SPACE, text_cells, length-text_cells, is_listed, IsFree, free_drawn, bare_row}
use Rattle.snippet_strokes.proofs.Common.{led_before, free_separator_row, rules}
use Rattle.snippet_strokes.proofs.SourceRowLemmas.{length-separator_row, separator_row_blank}

-- spaces and characters are as many cells as both
pub length-led : (n : ℕ) (chs : List ℕ) → length (replicate n SPACE ++ text_cells LineNumber chs) ≡ n + length chs
length-led n chs = simp (length-append, length-replicate, length-text_cells)

-- spaces and characters that aren't listed are free cells
pub free_led : (n : ℕ) (chs : List ℕ) → All (λ c. is_listed c ≡ false) chs → IsFree (replicate n SPACE ++ text_cells LineNumber chs)
free_led n chs free = search (rules, All-append, All-replicate, free_drawn)

pub closing_short : (decor : DecorStyle) → length (closing_of decor) ≤ 2
closing_short Ascii = omega arith
closing_short Unicode = omega arith

free_closing : (decor : DecorStyle) → All (λ c. is_listed c ≡ false) (closing_of decor)
free_closing Ascii = each_fails is_listed (closing_of Ascii) refl
free_closing Unicode = each_fails is_listed (closing_of Unicode) refl

-- a row of strokes before any stroke is drawn, read cell by cell
pub bare_row_short : (decor : DecorStyle) (gutter : ℕ) (closes : Bool) → length (bare_row decor gutter closes) ≤ gutter + 3
bare_row_short decor gutter true = omega (arith, length-led (gutter + 1) (closing_of decor), closing_short decor)
bare_row_short decor gutter false = omega (arith, length-separator_row decor gutter)

-- a row of strokes before any stroke is drawn is blank as far as the gutter reaches
pub bare_row_left : (decor : DecorStyle) (gutter : ℕ) (closes : Bool) (c : ℕ) → c ≤ gutter → slice_index_or (bare_row decor gutter closes) c SPACE ≡ SPACE
bare_row_left decor gutter true c left =
    led_before (gutter + 1) c (text_cells LineNumber (closing_of decor)) (omega (arith, left))
bare_row_left decor gutter false c left = separator_row_blank decor gutter c (λ same. omega (arith, same, left))

-- a row of strokes before any stroke is drawn is blank where the code stands
pub bare_row_right : (decor : DecorStyle) (gutter : ℕ) (closes : Bool) (c : ℕ) → gutter + 3 ≤ c → slice_index_or (bare_row decor gutter closes) c SPACE ≡ SPACE
bare_row_right decor gutter closes c right =
    get_or_past (bare_row decor gutter closes) c SPACE (omega (arith, bare_row_short decor gutter closes, right))

-- a row of strokes before any stroke is drawn is free
pub free_bare_row : (decor : DecorStyle) (gutter : ℕ) (closes : Bool) → IsFree (bare_row decor gutter closes)
free_bare_row decor gutter true = free_led (gutter + 1) (closing_of decor) (free_closing decor)
free_bare_row decor gutter false = free_separator_row decor gutter

-- Rows without listed characters and links.
use Rattle.std.proofs.Common.{◌≡◌, ℕ, ◌+◌, ◌-◌, false, List, [], ◌∷◌, ◌++◌, length, take, drop, replicate, refl, arith, All, Bool}
use Rattle.std.specs.List.{list_any}
use Rattle.std.proofs.lemmas.List.Elements.{All-append, All-take, All-drop, All-replicate, All-cons, All-nil, All-weaker}
use Rattle.snippet_style.specs.declared.glyphs.DecorStyle.{DecorStyle}
use Rattle.snippet_style.specs.declared.glyphs.DecorStyle.TheVariants.{Ascii, Unicode}
use Rattle.snippet_style.specs.declared.role.ElementStyle.{ElementStyle}
use Rattle.snippet_style.specs.declared.role.ElementStyle.TheVariants.{LineNumber}
use Rattle.snippet_style.specs.Cell.{Cell, SPACE, text_cells, unlinked_cell, written}
use Rattle.snippet_style.specs.Glyphs.{separator_of}
use Rattle.snippet_style.specs.Separators.{separator_row}
use Rattle.snippet_style.proofs.CellLemmas.{All-text_cells}
use Rattle.snippet_text.specs.Normalized.{is_listed}
use Rattle.snippet_model.specs.FreeRows.{IsFree, IsFreeCell}

-- elements of which none passes a test, one by one
pub each_fails : (p : ℕ → Bool) (xs : List ℕ) → list_any p xs ≡ false → All (λ x. p x ≡ false) xs
each_fails p [] none = All-nil (λ x. p x ≡ false)
each_fails p (x ∷ xs) none =
    let first : p x ≡ false = grind (arith, none) in
    let later : list_any p xs ≡ false = grind (arith, none) in
    All-cons (λ y. p y ≡ false) x xs first (each_fails p xs later)

-- cells drawn of characters that aren't listed are free
pub free_drawn : (role : ElementStyle) (cs : List ℕ) → All (λ c. is_listed c ≡ false) cs → IsFree (text_cells role cs)
free_drawn role cs free =
    All-text_cells IsFreeCell role cs (All-weaker (λ c. is_listed c ≡ false) (λ c. IsFreeCell (unlinked_cell role c)) (λ c is. (is, refl)) cs free)

-- a write of free cells keeps a row free
pub free_written : (row : List Cell) (at : ℕ) (cells : List Cell) → IsFree row → IsFree cells → IsFree (written SPACE row at cells)
unfolding written
free_written row at cells free_row free_cells =
    let P : Cell → Type 0 = IsFreeCell in
    let pad = replicate (at - length row) SPACE in
    let begun = All-take P at (row ++ pad) (All-append P row pad free_row (All-replicate P (at - length row) SPACE (refl, refl))) in
    All-append P (take at (row ++ pad) ++ cells) (drop (at + length cells) row) (All-append P (take at (row ++ pad)) cells begun free_cells)
    (All-drop P (at + length cells) row free_row)

-- a row of spaces and some free cells after them
pub free_led : (n : ℕ) (cells : List Cell) → IsFree cells → IsFree (replicate n SPACE ++ cells)
free_led n cells free =
    let P : Cell → Type 0 = IsFreeCell in
    All-append P (replicate n SPACE) cells (All-replicate P n SPACE (refl, refl)) free

-- the separator row
separator_unlisted : (decor : DecorStyle) → list_any is_listed (separator_of decor ∷ []) ≡ false
separator_unlisted Ascii = refl
separator_unlisted Unicode = refl

-- a separator row has no listed character and no link
pub free_separator_row : (decor : DecorStyle) (gutter : ℕ) → IsFree (separator_row decor gutter)
free_separator_row decor gutter =
    let stroke = separator_of decor ∷ [] in
    free_led (gutter + 1) (text_cells LineNumber stroke) (free_drawn LineNumber stroke (each_fails is_listed stroke (separator_unlisted decor)))

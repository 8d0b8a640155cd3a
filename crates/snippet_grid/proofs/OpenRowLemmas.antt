-- A row that begins, and grows by spaces and by words.
use Rattle.snippet_grid.proofs.Common.{common_steps, arith, ◌≡◌, ℕ, zero, suc, List, [], ◌∷◌, ◌++◌, map, replicate, None, Some, refl, ap, ◌∙◌, subst}
use Rattle.snippet_grid.proofs.Common.{append_assoc, string_bytes, linked, AddsCells, IsBegun, IsPrinted, PrintedRow, cells_alike, Cell, SPACE, text_cells}
use Rattle.snippet_grid.proofs.Common.{ElementStyle, NoStyle, LevelInner, Stylesheet}

-- no cell is printed of a row that begins
pub none_printed : (sheet : Stylesheet) (level : LevelInner) (row : PrintedRow) → IsBegun sheet level row → IsPrinted [] (string_bytes row.text) row
none_printed sheet level row begun = grind (arith, common_steps, row.level, row.last.link, begun.plain, row.codes.now.none, begun.unlinked)

-- spaces as cells
pub spaces_alike : (n : ℕ) → cells_alike NoStyle None (replicate n 32) ≡ replicate n SPACE
spaces_alike zero = refl
spaces_alike (suc n) = ap (λ cells. SPACE ∷ cells) (spaces_alike n)

-- a linked text as cells
pub linked_alike : (role : ElementStyle) (url word : List ℕ) → cells_alike role (Some url) word ≡ map (linked url) (text_cells role word)
linked_alike role url [] = refl
linked_alike role url (ch ∷ word) =
    ap (λ (cells : List Cell). (let cell : Cell = record { ch = ch; role = role; link = Some url } in cell) ∷ cells) (linked_alike role url word)

-- no cells were added
pub adds_none : (row : PrintedRow) → AddsCells row row []
adds_none row = grind (arith, common_steps)

-- cells were added, and then others
pub adds_more : (start before after : PrintedRow) (some more : List Cell) → AddsCells before after more → AddsCells start before some
    → AddsCells start after (some ++ more)
adds_more start before after some more second first =
    record {
      sheet = second.sheet ∙ first.sheet;
      level = second.level ∙ first.level;
      printed = λ cells old printed. subst (λ (done : List Cell). IsPrinted done old after) (append_assoc cells some more)
          (second.printed (cells ++ some) old (first.printed cells old printed));
    }
